-- To be one linear map is an equivalence that parts side by side keep.
use Rattle.std.specs.Prelude.{ℕ, ◌≡◌, List, ◌++◌, length}
use Rattle.ps_prim.specs.declared.prims.Primitive.{Primitive as Prim}
use Rattle.ps_prim.specs.Amplitudes.{Truths}
use Rattle.ps_prim.specs.Maps.{SameMap, DiffersAt}
use Rattle.ps_cut.specs.Windows.{firsts, seconds, AllSame}

abbrev pub MapReflexive : Type 0
MapReflexive = (n : ℕ) (A : List Prim) → SameMap n A A

abbrev pub MapSymmetric : Type 0
MapSymmetric = (n : ℕ) (A B : List Prim) → SameMap n A B → SameMap n B A

abbrev pub MapTransitive : Type 0
MapTransitive = (n : ℕ) (A B C : List Prim) → SameMap n A B → SameMap n B C → SameMap n A C

-- one map behind one map is one map
abbrev pub MapAppend : Type 0
MapAppend = (n : ℕ) (A B C D : List Prim) → SameMap n A B → SameMap n C D → SameMap n (A ++ C) (B ++ D)

-- one map behind a front and before a back is one map
abbrev pub MapBetween : Type 0
MapBetween = (n : ℕ) (P M N S : List Prim) → SameMap n M N → SameMap n (P ++ (M ++ S)) (P ++ (N ++ S))

-- lists whose windows are one map each are one map
abbrev pub WindowsSame : Type 0
WindowsSame = (n : ℕ) (ws : List (List Prim × List Prim)) → AllSame n ws → SameMap n (firsts ws) (seconds ws)

-- lists that are the maps of two that differ at an input differ there
abbrev pub MapMovesDifference : Type 0
MapMovesDifference = (n : ℕ) (A A' B B' : List Prim) (x : Truths) → SameMap n A A' → SameMap n B B' → length x ≡ n → DiffersAt n A B x → DiffersAt n A' B' x
