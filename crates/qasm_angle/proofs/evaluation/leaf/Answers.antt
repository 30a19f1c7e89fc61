use Rattle.std.proofs.Common.{sym, subst, Ok, rules}
use Rattle.std.proofs.lemmas.Int.{to_z-of_z}
use mir.Val.{SFits}
use mir.Syntax.{w32}
use Rattle.qasm_angle.specs.Fractions.{NumberIs}
use Rattle.qasm_angle.specs.Values.{LeafIs}
use Rattle.qasm_angle.proofs.Reals.{on_real}
use Rattle.qasm_angle.proofs.Postfix.{get_some}
use Rattle.qasm_angle.proofs.evaluation.leaf.Goals as goal

pub returns-in-Number : goal.returns-in-Number
returns-in-Number c =
    let f : SFits w32 c.in-Number.ten = search rules in
    let h : NumberIs c.in-Number.digits c.in-Number.ten c.number.result = subst (λ z. NumberIs c.in-Number.digits z c.number.result) (to_z-of_z w32 c.in-Number.ten f) c.number.ensures in
    subst (λ o. LeafIs c.args.params.now o c.real.result) (sym c.in-Number.is) (on_real (NumberIs c.in-Number.digits c.in-Number.ten) c.number.result c.real.result h c.real.ensures)

pub returns-in-Some : goal.returns-in-Some
returns-in-Some c = subst (λ o. LeafIs c.args.params.now o (Ok c.in-Some.x.now)) (sym c.in-Id.is) (get_some c.args.params.now c.in-Id.i c.in-Some.x.now c.in-Some.ensures.lookup.3.0 c.in-Some.ensures.lookup.3.1)
