use Rattle.std.proofs.Common.{◌≡◌, ℕ, false, take}
use Rattle.ps_mono.specs.Sets.{stands}
use Rattle.ps_phase.specs.Phases.{phase_occurs}
use Rattle.ps_sum.proofs.making.phase_within.Given as goal

abbrev pub invariant-loop-term : goal.invariant-loop-term
invariant-loop-term l = (v : ℕ) → stands v l.names ≡ false → phase_occurs v (take l.term-index l.term-items) ≡ false
