use Rattle.std.proofs.Common.{refl}
use Rattle.ps_phase.proofs.Weaves.{woven_form, woven_value, woven_free, woven_kept}
use Rattle.ps_phase.proofs.poly.PhasePoly.add_to.Goals as goal

pub invariant_of-self-2 : goal.invariant_of-self-2
invariant_of-self-2 c = woven_form c.weave.result _ _ _ _ _ refl c.deref-2.ensures.value c.weave.ensures.sum c.weave.ensures.kept c.self.invariant c.other.invariant

pub returns-clause-value : goal.returns-clause-value
returns-clause-value c = woven_value c.weave.result _ _ _ _ _ _ _ c.self.view_is c.other.view_is refl c.deref-2.ensures.value c.weave.ensures.sum

pub returns-clause-variables : goal.returns-clause-variables
returns-clause-variables c = woven_free c.weave.result _ _ _ _ _ _ _ c.self.view_is c.other.view_is refl c.deref-2.ensures.value c.weave.ensures.sum

pub returns-clause-form : goal.returns-clause-form
returns-clause-form c = woven_form c.weave.result _ _ _ _ _ refl c.deref-2.ensures.value c.weave.ensures.sum c.weave.ensures.kept c.self.invariant c.other.invariant

pub returns-clause-kept : goal.returns-clause-kept
returns-clause-kept c = woven_kept c.weave.result _ _ _ c.self.view_is c.weave.ensures.kept
