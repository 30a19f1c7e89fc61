-- There is one sum of a gate, of no gate and of two sums in a row, and a join that passes a limit passes one.
use Rattle.std.specs.Prelude.{ℕ, ◌≡◌}
use Rattle.ps_prim.specs.declared.prims.Primitive.{Primitive as Prim}
use Rattle.ps_sum.specs.declared.sums.PathSum.{PathSum}
use Rattle.ps_sum.specs.declared.faults.Passed.{Passed}
use Rattle.ps_join.specs.Joining.{IsLeafOf, IsIdentityOf, IsJoinOf, JoinFits, JoinPasses}

abbrev pub OneLeaf : Type 0
OneLeaf = (n : ℕ) (g : Prim) (S S' : PathSum) → IsLeafOf n g S → IsLeafOf n g S' → S ≡ S'

abbrev pub OneIdentity : Type 0
OneIdentity = (n : ℕ) (S S' : PathSum) → IsIdentityOf n S → IsIdentityOf n S' → S ≡ S'

abbrev pub OneJoin : Type 0
OneJoin = (S1 S2 S S' : PathSum) → IsJoinOf S1 S2 S → IsJoinOf S1 S2 S' → S ≡ S'

-- no join passes two limits, or one with two numbers
abbrev pub OnePassed : Type 0
OnePassed = (S1 S2 : PathSum) (p p' : Passed) → JoinPasses S1 S2 p → JoinPasses S1 S2 p' → p ≡ p'

-- and one that fits passes none
abbrev pub FitsOrPasses : Type 0
FitsOrPasses = (S1 S2 : PathSum) (p : Passed) → JoinFits S1 S2 → ¬ (JoinPasses S1 S2 p)
