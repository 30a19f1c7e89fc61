use Rattle.std.proofs.Common.{◌∙◌, sym}
use Rattle.ps_steps.proofs.Forms.{none_spelled, stands_there, none_of, same_bool, other_bool}
use Rattle.ps_steps.proofs.spelling.standing.Goals as goal

pub returns-in_err-line : goal.returns-in_err-line
returns-in_err-line c = rw c.from_residual.ensures (none_spelled c.args.first c.args.piece.now c.in_err-line.ensures)

pub returns-then-is_head-first : goal.returns-then-is_head-first
returns-then-is_head-first c = stands_there c.args.first c.args.piece.now _ c.in_ok-line.ensures (sym c.is_head.ensures ∙ same_bool c.is_head.result c.args.first c.if-is_head-first.true)

pub returns-else-is_head-first : goal.returns-else-is_head-first
returns-else-is_head-first c = none_of c.args.first c.is_head.result c.args.piece.now _ c.in_ok-line.ensures c.is_head.ensures (other_bool c.is_head.result c.args.first c.if-is_head-first.false)
