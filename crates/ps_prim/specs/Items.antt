-- The lists of prims that an item of a circuit may have.
use Rattle.std.specs.Prelude.{ℕ, ◌≤◌, List, [], ◌∷◌, length}
use Rattle.std.specs.Coded.{×_prop, Unit-prop, le_prop}
use Rattle.ps_prim.specs.declared.prims.Primitive.{Primitive as Prim}
use Rattle.ps_prim.specs.declared.prims.Primitive.TheVariants.{U, Cx}
use Rattle.ps_prim.specs.Maps.{IsWithin, AllWithin}

-- at most 4,096 prims on qubits below 64, with the two qubits of a Cx different
abbrev pub IsItem : List Prim → Type 0
IsItem prims = (length prims ≤ 4096) × AllWithin 64 prims

pub IsWithin-prop : (n : ℕ) (g : Prim) → IsProp (IsWithin n g)
IsWithin-prop n (U theta phi lambda q) = hlevel (le_prop)
IsWithin-prop n (Cx c t) = hlevel (le_prop)

pub AllWithin-prop : (n : ℕ) (A : List Prim) → IsProp (AllWithin n A)
AllWithin-prop n [] = Unit-prop
AllWithin-prop n (g ∷ gs) = ×_prop (IsWithin-prop n g) (AllWithin-prop n gs)

pub IsItem-prop : (A : List Prim) → IsProp (IsItem A)
IsItem-prop A = ×_prop le_prop (AllWithin-prop 64 A)
