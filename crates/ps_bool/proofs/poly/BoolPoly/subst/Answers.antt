use Rattle.std.proofs.Common.{◌∙◌, subst}
use Rattle.ps_bool.specs.Polys.{IsPoly}
use Rattle.ps_bool.proofs.Replacing.{Replaces, replaces, subst_list, subst_value, subst_variables, subst_form}
use Rattle.ps_bool.proofs.poly.BoolPoly.subst.Goals as goal

pub invariant_of-result : goal.invariant_of-result
invariant_of-result c =
    let parts : Replaces c.args.self.now c.args.by.now c.sum_of-replaced.result c.args.v =
    replaces _ _ _ _ _ _ c.args.v (c.deref-2.ensures.value ∙ c.self.view_is) (c.deref-3.ensures.value ∙ c.by.view_is) c.sum_of-replaced.ensures.form c.sum_of-replaced.ensures.value c.sum_of-replaced.ensures.variables c.in_ok-replaced.ensures.value c.in_ok-replaced.ensures.variables in
    let list = subst_list c.args.self.now c.sum_of-replaced.result _ _ _ _ c.args.v (c.deref.ensures.value ∙ c.self.view_is) (c.deref-4.ensures.value ∙ c.in_ok-kept.ensures) (c.deref-5.ensures.value ∙ c.replaced-2.view_is) c.in_ok-merged.ensures in
    rw list (subst_form _ _ _ c.args.v (subst IsPoly c.self.view_is c.self.invariant) parts)

pub returns-clause-value : goal.returns-clause-value
returns-clause-value c =
    let parts : Replaces c.args.self.now c.args.by.now c.sum_of-replaced.result c.args.v =
    replaces _ _ _ _ _ _ c.args.v (c.deref-2.ensures.value ∙ c.self.view_is) (c.deref-3.ensures.value ∙ c.by.view_is) c.sum_of-replaced.ensures.form c.sum_of-replaced.ensures.value c.sum_of-replaced.ensures.variables c.in_ok-replaced.ensures.value c.in_ok-replaced.ensures.variables in
    let list = subst_list c.args.self.now c.sum_of-replaced.result _ _ _ _ c.args.v (c.deref.ensures.value ∙ c.self.view_is) (c.deref-4.ensures.value ∙ c.in_ok-kept.ensures) (c.deref-5.ensures.value ∙ c.replaced-2.view_is) c.in_ok-merged.ensures in
    λ a. rw list (subst_value _ _ _ c.args.v parts a)

pub returns-clause-variables : goal.returns-clause-variables
returns-clause-variables c =
    let parts : Replaces c.args.self.now c.args.by.now c.sum_of-replaced.result c.args.v =
    replaces _ _ _ _ _ _ c.args.v (c.deref-2.ensures.value ∙ c.self.view_is) (c.deref-3.ensures.value ∙ c.by.view_is) c.sum_of-replaced.ensures.form c.sum_of-replaced.ensures.value c.sum_of-replaced.ensures.variables c.in_ok-replaced.ensures.value c.in_ok-replaced.ensures.variables in
    let list = subst_list c.args.self.now c.sum_of-replaced.result _ _ _ _ c.args.v (c.deref.ensures.value ∙ c.self.view_is) (c.deref-4.ensures.value ∙ c.in_ok-kept.ensures) (c.deref-5.ensures.value ∙ c.replaced-2.view_is) c.in_ok-merged.ensures in
    λ u. rw list (subst_variables _ _ _ c.args.v parts u)

pub returns-clause-form : goal.returns-clause-form
returns-clause-form c =
    let parts : Replaces c.args.self.now c.args.by.now c.sum_of-replaced.result c.args.v =
    replaces _ _ _ _ _ _ c.args.v (c.deref-2.ensures.value ∙ c.self.view_is) (c.deref-3.ensures.value ∙ c.by.view_is) c.sum_of-replaced.ensures.form c.sum_of-replaced.ensures.value c.sum_of-replaced.ensures.variables c.in_ok-replaced.ensures.value c.in_ok-replaced.ensures.variables in
    let list = subst_list c.args.self.now c.sum_of-replaced.result _ _ _ _ c.args.v (c.deref.ensures.value ∙ c.self.view_is) (c.deref-4.ensures.value ∙ c.in_ok-kept.ensures) (c.deref-5.ensures.value ∙ c.replaced-2.view_is) c.in_ok-merged.ensures in
    rw list (subst_form _ _ _ c.args.v (subst IsPoly c.self.view_is c.self.invariant) parts)
