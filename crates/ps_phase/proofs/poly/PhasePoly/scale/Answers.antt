use Rattle.ps_phase.proofs.Scaling.{scale_form, scale_value, scale_free}
use Rattle.ps_phase.proofs.poly.PhasePoly.scale.Goals as goal

pub invariant_of-result : goal.invariant_of-result
invariant_of-result c = scale_form c.args.by _ _ _ c.deref.ensures.value c.in_ok-terms.ensures c.self.invariant

pub returns-clause-value : goal.returns-clause-value
returns-clause-value c = scale_value c.args.by _ _ _ _ c.self.view_is c.deref.ensures.value c.in_ok-terms.ensures

pub returns-clause-variables : goal.returns-clause-variables
returns-clause-variables c = scale_free c.args.by _ _ _ _ c.self.view_is c.deref.ensures.value c.in_ok-terms.ensures

pub returns-clause-form : goal.returns-clause-form
returns-clause-form c = scale_form c.args.by _ _ _ c.deref.ensures.value c.in_ok-terms.ensures c.self.invariant
