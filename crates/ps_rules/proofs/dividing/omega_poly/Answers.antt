use Rattle.std.proofs.Common.{ℕ, List, ◌∷◌, ◌++◌, [], ap, ◌∙◌, refl, inl, inr, vec_items, nat_eq, ◌+◌}
use Rattle.ps_phase.specs.Phases.{coefficient}
use Rattle.ps_rules.proofs.Quotients.{omega_quotient, equal_test, other_test}
use Rattle.ps_rules.proofs.dividing.omega_poly.Goals as goal
use Rattle.ps_rules.proofs.dividing.omega_poly.Goals.{then-units+in_ok-push, else-units}

pub returns : goal.returns
returns c =
    let e = c.units.ensures ∙ c.coefficient.ensures ∙ ap (λ (m : List ℕ). coefficient m c.args.sum.now.phase) c.var-own.ensures in
    omega_quotient c.args.sum.now c.args.y0 c.var-own.result [] c.terms.result.now c.in_ok-monos.monos.items c.if-units.monos.items c.sum_of.result (nat_eq (coefficient ((c.args.sum.now.n + c.args.y0) ∷ []) c.args.sum.now.phase) 3221225472) c.var-own.ensures c.terms.ensures.value
    (record { value = c.in_ok-monos.ensures.value; known = c.in_ok-monos.ensures.variables; free = c.in_ok-monos.ensures.free; form = c.sum_of.ensures.form }) refl
    (elim c.if-units.branch [
      | then-units+in_ok-push w ↦ inl (equal_test c.units.result _ 3221225472 e w.if-units.true, refl, ap vec_items w.monos-is ∙ w.in_ok-push.ensures.items ∙ ap (λ (m : List ℕ). c.in_ok-monos.monos.items ++ m ∷ []) w.one.ensures)
      | else-units w ↦ inr (other_test c.units.result _ 3221225472 e w.if-units.false, ap vec_items w.monos-is)
    ]) c.sum_of.ensures.value c.sum_of.ensures.variables
