use Rattle.pathsum.proofs.Judging.{printed}
use Rattle.pathsum.proofs.calls.replay_run.Goals as goal

pub returns-clause-ends : goal.returns-clause-ends
returns-clause-ends g c = printed _ _ _ _ _ _ _ c.answer-answer.ensures tt c.print.ensures.written
