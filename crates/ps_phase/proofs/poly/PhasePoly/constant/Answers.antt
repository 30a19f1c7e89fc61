use Rattle.ps_phase.proofs.Adding.{one_form, constant_value, constant_free}
use Rattle.ps_phase.proofs.poly.PhasePoly.constant.Goals as goal

pub invariant_of-result : goal.invariant_of-result
invariant_of-result c = one_form _ _ _ _ c.one.ensures c.in_ok-push_term.ensures.small c.new-terms.ensures.items c.in_ok-push_term.ensures.items

pub returns-clause-value : goal.returns-clause-value
returns-clause-value c = constant_value _ _ _ _ c.one.ensures c.new-terms.ensures.items c.in_ok-push_term.ensures.items

pub returns-clause-variables : goal.returns-clause-variables
returns-clause-variables c = constant_free _ _ _ _ c.one.ensures c.new-terms.ensures.items c.in_ok-push_term.ensures.items

pub returns-clause-form : goal.returns-clause-form
returns-clause-form c = one_form _ _ _ _ c.one.ensures c.in_ok-push_term.ensures.small c.new-terms.ensures.items c.in_ok-push_term.ensures.items
