-- Where a step may apply behind a sum that no step reduces.
use Rattle.std.specs.Prelude.{ℕ, ◌≡◌, ◌+◌, false, List}
use Rattle.ps_mono.specs.Sets.{stands}
use Rattle.ps_sum.specs.declared.sums.PathSum.{PathSum}
use Rattle.ps_rules.specs.Rules.{IsIrreducible}
use Rattle.ps_rules.specs.Sights.{NoneAt}
use Rattle.ps_join.specs.Joining.{IsJoinOf}

-- in T a step takes away none but the path variables of m
abbrev pub NoneBeside : PathSum → List ℕ → Type 0
NoneBeside T m = (y : ℕ) → stands (T.n + y) m ≡ false → NoneAt T y

-- so it is in S1 followed by S2, where no step reduces S1
abbrev pub AreSuspects : PathSum → PathSum → List ℕ → Type 0
AreSuspects S1 S2 m = IsIrreducible S1 → (T : PathSum) → IsJoinOf S1 S2 T → NoneBeside T m
