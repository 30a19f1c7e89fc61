use Rattle.ps_steps.proofs.Forms.{leaf_a, leaf_b, leaf_a_none, leaf_b_none, leaf_none}
use Rattle.ps_steps.proofs.spelling.leaf.Goals as goal

pub returns-in_err-prim-in-Some : goal.returns-in_err-prim-in-Some
returns-in_err-prim-in-Some c = rw c.from_residual.ensures (leaf_a_none c.args.piece.now c.in-Some.digits.now c.in-Some.ensures c.in_err-prim-in-Some.ensures)

pub returns-in_err-digits-in-None : goal.returns-in_err-digits-in-None
returns-in_err-digits-in-None c = rw c.from_residual-in_err-digits-in-None.ensures (leaf_none c.args.piece.now c.in-None.ensures c.in_err-digits-in-None.ensures)

pub returns-in_err-prim-in-None : goal.returns-in_err-prim-in-None
returns-in_err-prim-in-None c = rw c.from_residual-in_err-prim-in-None.ensures (leaf_b_none c.args.piece.now c.in_ok-digits-in-None.digits.now c.in-None.ensures c.in_ok-digits-in-None.ensures c.in_err-prim-in-None.ensures)

pub returns-in_ok-prim-in-Some : goal.returns-in_ok-prim-in-Some
returns-in_ok-prim-in-Some c = leaf_a c.args.piece.now c.in-Some.digits.now c.in_ok-prim-in-Some.prim c.in-Some.ensures c.in_ok-prim-in-Some.ensures

pub returns-in_ok-prim-in-None : goal.returns-in_ok-prim-in-None
returns-in_ok-prim-in-None c = leaf_b c.args.piece.now c.in_ok-digits-in-None.digits.now c.in_ok-prim-in-None.prim c.in_ok-digits-in-None.ensures c.in_ok-prim-in-None.ensures
