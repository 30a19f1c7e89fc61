-- Evidence that building the sum of a list of prims passes a limit.
use Rattle.std.specs.Prelude.{ℕ, ◌≡◌, ◌+◌, ◌-◌, ◌≤◌, Option, Some, None, List, [], ◌∷◌, length, take, drop}
use Rattle.ps_prim.specs.declared.prims.Primitive.{Primitive as Prim}
use Rattle.ps_sum.specs.declared.sums.PathSum.{PathSum}
use Rattle.ps_sum.specs.declared.faults.Passed.{Passed}
use Rattle.ps_rules.specs.declared.steps.Step.{Step}
use Rattle.ps_join.specs.Joining.{IsLeafOf, IsJoinOf, JoinFits, JoinPasses}
use Rattle.ps_overlap.specs.Overlapping.{IsOverlapOf, OverlapPasses}
use Rattle.ps_reach.specs.Reductions.{over, ReducesTo}
use Rattle.ps_reach.specs.Normals.{IsNormalFor}

-- a limit that is passed, where, and by which sums: by putting two together, or, where there is one, by its first step
pub record Overrun : Type 0 where
  pub passed : Passed
  pub from : ℕ
  pub middle : ℕ
  pub to : ℕ
  pub first : PathSum
  pub second : Option PathSum

-- the prims of A from one place up to another
abbrev pub part : ℕ → ℕ → List Prim → List Prim
part from to A = take (to - from) (drop from A)

-- the two sums are normal for the prims from..middle and middle..to of A
pub record TwoParts (n : ℕ) (A : List Prim) (from middle to : ℕ) (S1 S2 : PathSum) : Type 0 where
  pub ordered : (from ≤ middle) × (middle ≤ to)
  pub inside : to ≤ length A
  pub first : IsNormalFor n (part from middle A) S1
  pub second : IsNormalFor n (part middle to A) S2

-- what is reduced: the leaf of one prim of A, or the join of normal sums of two parts
pub data Begins (n : ℕ) (A : List Prim) (from middle to : ℕ) (S : PathSum) : Type 0 where
  leaf : (g : Prim) → middle ≡ from → to ≡ from + 1 → part from to A ≡ g ∷ [] → IsLeafOf n g S → Begins n A from middle to S
  joined : (S1 S2 : PathSum) → TwoParts n A from middle to S1 S2 → JoinFits S1 S2 → IsJoinOf S1 S2 S → Begins n A from middle to S

-- the evidence is true of A: the join of its two sums passes; or its one sum is reached from such a beginning, and its first step passes
abbrev pub over_by : ℕ → List Prim → Passed → ℕ → ℕ → ℕ → PathSum → Option PathSum → Type 0
over_by n A p from middle to S1 (Some S2) = TwoParts n A from middle to S1 S2 × JoinPasses S1 S2 p
over_by n A p from middle to S None = (S0 : PathSum) × ((ss : List Step) × (Begins n A from middle to S0 × ReducesTo S0 ss (over S p)))

abbrev pub IsOver : ℕ → List Prim → Overrun → Type 0
IsOver n A e = over_by n A e.passed e.from e.middle e.to e.first e.second

-- the evidence is true of the overlap of normal sums of A and B: the overlap passes; or its one sum is reached from the
-- overlap, and its first step passes
abbrev pub overlap_over_by : ℕ → List Prim → List Prim → Passed → PathSum → Option PathSum → Type 0
overlap_over_by n A B p S1 (Some S2) = (IsNormalFor n A S1 × IsNormalFor n B S2) × OverlapPasses S1 S2 p
overlap_over_by n A B p S None =
    (S1 : PathSum) × ((S2 : PathSum) × ((S0 : PathSum) × ((ss : List Step) × ((IsNormalFor n A S1 × IsNormalFor n B S2) × (IsOverlapOf S1 S2 S0 × ReducesTo S0 ss (over S p))))))

abbrev pub IsOverlapOver : ℕ → List Prim → List Prim → Overrun → Type 0
IsOverlapOver n A B e = overlap_over_by n A B e.passed e.first e.second
