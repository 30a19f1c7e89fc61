use Rattle.ps_steps.proofs.Forms.{pair_unparted, pair_first_none, pair_second_none, pair_is}
use Rattle.ps_steps.proofs.spelling.pair.Goals as goal

pub returns-in_err-parts : goal.returns-in_err-parts
returns-in_err-parts c = rw c.from_residual.ensures (pair_unparted c.args.digits.now c.in_err-parts.ensures)

pub returns-in_err-first : goal.returns-in_err-first
returns-in_err-first c = rw c.from_residual-in_err-first.ensures (pair_first_none c.args.digits.now c.in_ok-parts.parts.piece.now c.in_ok-parts.parts.rest.now c.in_ok-parts.ensures c.in_err-first.ensures)

pub returns-in_err-second : goal.returns-in_err-second
returns-in_err-second c = rw c.from_residual-in_err-second.ensures (pair_second_none c.args.digits.now c.in_ok-parts.parts.piece.now c.in_ok-parts.parts.rest.now c.in_ok-parts.ensures c.in_err-second.ensures)

pub returns : goal.returns
returns c = pair_is c.args.digits.now c.in_ok-parts.parts.piece.now c.in_ok-parts.parts.rest.now c.in_ok-first.first c.in_ok-second.second c.in_ok-parts.ensures c.in_ok-first.ensures c.in_ok-second.ensures
