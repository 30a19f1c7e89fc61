use Rattle.std.proofs.Common.{◌≡◌, ◌%◌, take}
use Rattle.ps_mono.specs.Sets.{stands}
use Rattle.ps_phase.specs.Phases.{phase_value}
use Rattle.ps_phase.proofs.poly.PhasePoly.eval.Given as goal

abbrev pub invariant-loop-term : goal.invariant-loop-term
invariant-loop-term l = l.sum ≡ phase_value (take l.term-index l.term-items) (λ v. stands v l.at) % 4294967296
