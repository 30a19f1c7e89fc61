-- The normal sums of a list of prims.
use Rattle.std.specs.Prelude.{ℕ, ◌≡◌, List, [], ◌∷◌, ◌++◌}
use Rattle.ps_prim.specs.declared.prims.Primitive.{Primitive as Prim}
use Rattle.ps_sum.specs.declared.sums.PathSum.{PathSum}
use Rattle.ps_rules.specs.declared.steps.Step.{Step}
use Rattle.ps_join.specs.Joining.{IsLeafOf, IsIdentityOf, IsJoinOf, JoinFits}
use Rattle.ps_reach.specs.Reductions.{normal, ReducesTo}

-- S is irreducible, and reducing gives it from the identity for no prim, from the leaf of one prim,
-- or from the join of normal sums of two parts
pub data IsNormalFor (n : ℕ) : List Prim → PathSum → Type 0 where
  none : {S0 S : PathSum} {ss : List Step} → IsIdentityOf n S0 → ReducesTo S0 ss (normal S) → IsNormalFor n [] S
  one : {g : Prim} {S0 S : PathSum} {ss : List Step} → IsLeafOf n g S0 → ReducesTo S0 ss (normal S) → IsNormalFor n (g ∷ []) S
  two : {A A1 A2 : List Prim} {S1 S2 S0 S : PathSum} {ss : List Step} → A ≡ A1 ++ A2 → IsNormalFor n A1 S1 → IsNormalFor n A2 S2
      → JoinFits S1 S2 → IsJoinOf S1 S2 S0 → ReducesTo S0 ss (normal S) → IsNormalFor n A S
