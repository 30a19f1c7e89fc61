-- Reducing a path sum: its first steps, one after the other, each within the limit.
use Rattle.std.specs.Prelude.{List, [], ◌∷◌}
use Rattle.ps_sum.specs.declared.sums.PathSum.{PathSum}
use Rattle.ps_sum.specs.declared.faults.Passed.{Passed}
use Rattle.ps_rules.specs.declared.steps.Step.{Step}
use Rattle.ps_rules.specs.Rules.{Applied, FirstStep, IsIrreducible, StepFits, StepPasses}

-- U is reached from S by these steps, each the first of its sum and within the limit
pub data Reduces : PathSum → List Step → PathSum → Type 0 where
  rest : {S : PathSum} → Reduces S [] S
  step : {S T U : PathSum} {s : Step} {ss : List Step} → FirstStep S s → StepFits S s → Applied S s T → Reduces T ss U → Reduces S (s ∷ ss) U

-- where reducing ends: at a sum that no step reduces, or at one whose first step passes the limit
pub data Reduction : Type 0 where
  normal : PathSum → Reduction
  over : PathSum → Passed → Reduction

abbrev pub last_sum : Reduction → PathSum
last_sum (normal T) = T
last_sum (over T p) = T

abbrev pub IsEnd : Reduction → Type 0
IsEnd (normal T) = IsIrreducible T
IsEnd (over T p) = (s : Step) × (FirstStep T s × StepPasses T s p)

-- reducing S takes these steps and ends there
pub record ReducesTo (S : PathSum) (ss : List Step) (r : Reduction) : Type 0 where
  pub taken : Reduces S ss (last_sum r)
  pub ended : IsEnd r
