use Rattle.std.proofs.Common.{false}
use Rattle.ps_phase.proofs.Scaling.{select_form}
use Rattle.ps_phase.proofs.poly.PhasePoly.terms_without.Goals as goal

pub invariant_of-result : goal.invariant_of-result
invariant_of-result c = select_form false c.args.v _ _ _ c.deref.ensures.value c.in_ok-terms.ensures c.self.invariant

pub returns-clause-form : goal.returns-clause-form
returns-clause-form c = select_form false c.args.v _ _ _ c.deref.ensures.value c.in_ok-terms.ensures c.self.invariant
