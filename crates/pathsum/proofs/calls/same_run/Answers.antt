use Rattle.pathsum.proofs.Judging.{printed}
use Rattle.pathsum.proofs.calls.same_run.Goals as goal

pub returns-clause-ends : goal.returns-clause-ends
returns-clause-ends g c = printed _ _ _ _ _ _ _ c.answer-answer.ensures tt c.print.ensures.written
