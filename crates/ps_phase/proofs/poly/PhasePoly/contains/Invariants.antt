use Rattle.std.proofs.Common.{◌≡◌, false, take}
use Rattle.ps_phase.specs.Phases.{phase_occurs}
use Rattle.ps_phase.proofs.poly.PhasePoly.contains.Given as goal

abbrev pub invariant-loop-term : goal.invariant-loop-term
invariant-loop-term l = phase_occurs l.v (take l.term-index l.term-items) ≡ false
