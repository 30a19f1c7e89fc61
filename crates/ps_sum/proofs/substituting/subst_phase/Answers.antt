use Rattle.std.proofs.lemmas.Result.{IfOk-weaker}
use Rattle.ps_sum.proofs.Substitutes.{subst_value, subst_free, alone_value}
use Rattle.ps_sum.proofs.substituting.subst_phase.Goals as goal

pub returns-clause-value : goal.returns-clause-value
returns-clause-value c = subst_value c.args.v c.args.by.now c.args.poly.now c.in_ok-sum.sum c.in_ok-replaced.field-0.items c.in_ok-products.products _ c.in_ok-sum.ensures.terms c.in_ok-replaced.ensures.value c.in_ok-products.ensures.value c.in_ok-add_to.ensures.value

pub returns-clause-variables : goal.returns-clause-variables
returns-clause-variables c = subst_free c.args.v c.args.by.now c.args.poly.now c.in_ok-sum.sum c.in_ok-replaced.field-0.items c.in_ok-products.products _ c.in_ok-sum.ensures.terms c.in_ok-replaced.ensures.variables c.in_ok-products.ensures.variables c.in_ok-add_to.ensures.variables

pub returns-in-Some-clause-value : goal.returns-in-Some-clause-value
returns-in-Some-clause-value c = IfOk-weaker c.lift.result _ _ (λ p e. alone_value c.args.v c.in-Some.phase c.args.by.now c.args.poly.now p c.in-Some.ensures e) c.lift.ensures.value
