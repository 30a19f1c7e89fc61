use Rattle.std.proofs.Common.{ℕ, ◌<◌}
use Rattle.ps_phase.specs.Placing.{Follows}
use Rattle.ps_phase.proofs.gathering.is_ordered.Given as goal

abbrev pub invariant-loop-place : goal.invariant-loop-place
invariant-loop-place l = (k : ℕ) → k < l.place → Follows l.terms k
