use Rattle.std.proofs.Common.{refl, subst}
use Rattle.ps_phase.specs.Phases.{IsPhasePoly}
use Rattle.ps_phase.proofs.Combining.{gathered_form, gathered_value, gathered_free}
use Rattle.ps_phase.proofs.poly.PhasePoly.gather.Goals as goal

pub invariant_of-result : goal.invariant_of-result
invariant_of-result c = subst IsPhasePoly c.deref.ensures.value (c.is_ordered.ensures c.if-is_ordered.true)

pub invariant_of-result-2 : goal.invariant_of-result-2
invariant_of-result-2 c = gathered_form _ _ _ refl c.combine.ensures.items c.combine.ensures.small c.sort_terms.ensures.sorted

pub returns-clause-value : goal.returns-clause-value
returns-clause-value c = gathered_value _ _ _ _ refl c.combine.ensures.items c.sort_terms.ensures.permutation

pub returns-clause-variables : goal.returns-clause-variables
returns-clause-variables c = gathered_free _ _ _ _ refl c.combine.ensures.items c.sort_terms.ensures.permutation

pub returns-clause-form : goal.returns-clause-form
returns-clause-form c = gathered_form _ _ _ refl c.combine.ensures.items c.combine.ensures.small c.sort_terms.ensures.sorted
