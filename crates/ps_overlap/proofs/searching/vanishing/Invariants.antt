use Rattle.std.proofs.Common.{ℕ, ◌<◌}
use Rattle.ps_overlap.specs.Overlapping.{Vanishes}
use Rattle.ps_overlap.proofs.searching.vanishing.Given as goal

abbrev pub invariant-loop-y : goal.invariant-loop-y
invariant-loop-y l = (z : ℕ) → z < l.y → ¬ (Vanishes l.sum z)
