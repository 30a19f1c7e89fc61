use Rattle.ps_steps.proofs.Forms.{end_is, not_end}
use Rattle.ps_steps.proofs.spelling.is_end.Goals as goal

pub returns-in-End : goal.returns-in-End
returns-in-End c = end_is c.args.line.now c.in-End.is

pub returns-in_default : goal.returns-in_default
returns-in_default c = not_end c.args.line.now c.in_default.not-End
