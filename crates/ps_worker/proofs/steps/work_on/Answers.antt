use Rattle.std.proofs.Common.{arith}
use Rattle.ps_worker.proofs.StepLaws.{does_less, given_ends}
use Rattle.ps_worker.proofs.steps.work_on.Goals as goal

pub returns-in-Err-clause-does : goal.returns-in-Err-clause-does
returns-in-Err-clause-does g c = does_less (omega arith) (given_ends c.requires)
