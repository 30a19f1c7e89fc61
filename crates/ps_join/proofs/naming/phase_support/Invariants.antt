use Rattle.std.proofs.Common.{◌≡◌, ℕ, take}
use Rattle.ps_mono.specs.Sets.{stands}
use Rattle.ps_phase.specs.Phases.{phase_occurs}
use Rattle.ps_join.proofs.naming.phase_support.Given as goal

abbrev pub invariant-loop-term : goal.invariant-loop-term
invariant-loop-term l = (v : ℕ) → stands v l.out ≡ phase_occurs v (take l.term-index l.term-items)
