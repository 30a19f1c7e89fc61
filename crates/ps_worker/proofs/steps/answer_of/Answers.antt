use Rattle.ps_worker.proofs.StepLaws.{memory_tells}
use Rattle.ps_worker.proofs.steps.answer_of.Goals as goal

pub returns-in_default : goal.returns-in_default
returns-in_default c = memory_tells _ c.in_default.not-Published c.in_default.not-Already c.in_default.not-Dropped c.in_default.not-NoRoom c.in_default.not-Idle
