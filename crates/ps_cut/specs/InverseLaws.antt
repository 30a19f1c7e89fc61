-- Each prim and each list of prims is undone by another.
use Rattle.std.specs.Prelude.{ℕ, List, [], ◌∷◌, ◌++◌}
use Rattle.ps_prim.specs.declared.prims.Primitive.{Primitive as Prim}
use Rattle.ps_prim.specs.Maps.{IsWithin, AllWithin, SameMap}
use Rattle.ps_cut.specs.Inverses.{inverse, undo}

-- ---- one prim
abbrev pub InverseWithin : Type 0
InverseWithin = (n : ℕ) (g : Prim) → IsWithin n g → IsWithin n (inverse g)

abbrev pub InverseBehind : Type 0
InverseBehind = (n : ℕ) (g : Prim) → IsWithin n g → SameMap n (g ∷ inverse g ∷ []) []

abbrev pub InverseBefore : Type 0
InverseBefore = (n : ℕ) (g : Prim) → IsWithin n g → SameMap n (inverse g ∷ g ∷ []) []

-- ---- a list
abbrev pub UndoWithin : Type 0
UndoWithin = (n : ℕ) (A : List Prim) → AllWithin n A → AllWithin n (undo A)

abbrev pub UndoBehind : Type 0
UndoBehind = (n : ℕ) (A : List Prim) → AllWithin n A → SameMap n (A ++ undo A) []

abbrev pub UndoBefore : Type 0
UndoBefore = (n : ℕ) (A : List Prim) → AllWithin n A → SameMap n (undo A ++ A) []
