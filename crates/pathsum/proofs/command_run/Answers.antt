use Rattle.pathsum.proofs.Judging.{words_end}
use Rattle.pathsum.proofs.command_run.Goals as goal

pub returns-in-None-clause-ends : goal.returns-in-None-clause-ends
returns-in-None-clause-ends g c = words_end _ _ _ _ _ _ _ _ _ c.in-None.ensures c.print.ensures.written
