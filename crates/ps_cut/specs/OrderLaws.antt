-- Prims, and lists of prims, without a common qubit may stand in either order.
use Rattle.std.specs.Prelude.{ℕ, List, [], ◌∷◌, ◌++◌}
use Rattle.ps_prim.specs.declared.prims.Primitive.{Primitive as Prim}
use Rattle.ps_prim.specs.Maps.{SameMap}
use Rattle.ps_cut.specs.Orders.{AreApart, IsBeside, AreDisjoint, SwapsWith}

abbrev pub ApartSwap : Type 0
ApartSwap = (n : ℕ) (g h : Prim) → AreApart g h → SameMap n (g ∷ h ∷ []) (h ∷ g ∷ [])

-- a prim that may stand on either side of each prim of a list moves to the list's other end
abbrev pub SwapMoves : Type 0
SwapMoves = (n : ℕ) (g : Prim) (A : List Prim) → SwapsWith n g A → SameMap n (g ∷ A) (A ++ (g ∷ []))

-- a prim without a common qubit may stand on either side of each prim of a list
abbrev pub BesideSwaps : Type 0
BesideSwaps = (n : ℕ) (g : Prim) (A : List Prim) → IsBeside g A → SwapsWith n g A

-- lists without a common qubit may stand in either order
abbrev pub DisjointSwap : Type 0
DisjointSwap = (n : ℕ) (A B : List Prim) → AreDisjoint A B → SameMap n (A ++ B) (B ++ A)

-- so a list comes to the front past what it has no qubit in common with
abbrev pub PullsFront : Type 0
PullsFront = (n : ℕ) (A G R : List Prim) → AreDisjoint A G → SameMap n (A ++ (G ++ R)) (G ++ (A ++ R))

-- and to the back
abbrev pub PullsBack : Type 0
PullsBack = (n : ℕ) (A G R : List Prim) → AreDisjoint G R → SameMap n (A ++ (G ++ R)) ((A ++ R) ++ G)
