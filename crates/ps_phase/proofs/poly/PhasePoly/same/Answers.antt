use Rattle.std.proofs.lemmas.Slice.Eq.{slice_eq-Decides}
use Rattle.ps_phase.proofs.Unique.{term_eq, same_values}
use Rattle.ps_phase.proofs.poly.PhasePoly.same.Goals as goal

pub returns : goal.returns
returns c = same_values _ _ _ _ _ (slice_eq-Decides term_eq _ _ _ c.eq.ensures) c.self.view_is c.other.view_is c.self.invariant c.other.invariant
