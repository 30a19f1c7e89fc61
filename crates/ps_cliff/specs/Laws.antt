-- What is made of quadratic sums is quadratic.
use Rattle.std.specs.Prelude.{ℕ}
use Rattle.ps_prim.specs.declared.prims.Primitive.{Primitive as Prim}
use Rattle.ps_sum.specs.declared.sums.PathSum.{PathSum}
use Rattle.ps_join.specs.Joining.{IsLeafOf, IsIdentityOf, IsJoinOf}
use Rattle.ps_rules.specs.declared.steps.Step.{Step}
use Rattle.ps_rules.specs.Rules.{Applied}
use Rattle.ps_overlap.specs.Overlapping.{IsOverlapOf}
use Rattle.ps_cliff.specs.Quadratics.{IsCliffordGate, IsQuadratic}

-- the sum of a Clifford gate
abbrev pub LeavesAre : Type 0
LeavesAre = (n : ℕ) (g : Prim) (S : PathSum) → IsCliffordGate g → IsLeafOf n g S → IsQuadratic S

-- the sum of no gate
abbrev pub IdentitiesAre : Type 0
IdentitiesAre = (n : ℕ) (S : PathSum) → IsIdentityOf n S → IsQuadratic S

-- two quadratic sums in a row
abbrev pub JoinsStay : Type 0
JoinsStay = (S1 S2 S : PathSum) → IsQuadratic S1 → IsQuadratic S2 → IsJoinOf S1 S2 S → IsQuadratic S

-- a step from a quadratic sum
abbrev pub StepsStay : Type 0
StepsStay = (S T : PathSum) (s : Step) → IsQuadratic S → Applied S s T → IsQuadratic T

-- the overlap of two quadratic sums
abbrev pub OverlapsStay : Type 0
OverlapsStay = (S1 S2 S : PathSum) → IsQuadratic S1 → IsQuadratic S2 → IsOverlapOf S1 S2 S → IsQuadratic S
