use Rattle.std.proofs.Common.{◌≡◌, false, take}
use Rattle.ps_phase.specs.Phases.{phase_occurs}
use Rattle.ps_overlap.proofs.points.first_quotient.Given as goal

abbrev pub invariant-loop-term : goal.invariant-loop-term
invariant-loop-term l = phase_occurs l.v (take l.term-index l.terms) ≡ false
