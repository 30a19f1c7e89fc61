use Rattle.ps_steps.proofs.Forms.{line_step, line_none}
use Rattle.ps_steps.proofs.spelling.line.Goals as goal

pub returns-in_err-step-in-None-leaf : goal.returns-in_err-step-in-None-leaf
returns-in_err-step-in-None-leaf c = rw c.from_residual.ensures (line_none c.args.piece.now c.in-None.ensures c.in-None-leaf.ensures c.in_err-step-in-None-leaf.ensures)

pub returns-in_ok-step-in-None-leaf : goal.returns-in_ok-step-in-None-leaf
returns-in_ok-step-in-None-leaf c = line_step c.args.piece.now c.in_ok-step-in-None-leaf.step c.in_ok-step-in-None-leaf.ensures
