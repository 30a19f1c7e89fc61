use Rattle.ps_steps.proofs.Forms.{head_is, not_head}
use Rattle.ps_steps.proofs.spelling.is_head.Goals as goal

pub returns-in-Head : goal.returns-in-Head
returns-in-Head c = head_is c.args.line.now _ c.in-Head.is

pub returns-in_default : goal.returns-in_default
returns-in_default c = not_head c.args.line.now c.in_default.not-Head
