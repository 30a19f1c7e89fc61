-- The prim that undoes a prim, and the list that undoes a list.
use Rattle.std.specs.Prelude.{ℕ, ◌-◌, ◌%◌, List, [], ◌∷◌, ◌++◌}
use Rattle.ps_prim.specs.declared.prims.Primitive.{Primitive as Prim}
use Rattle.ps_prim.specs.declared.prims.Primitive.TheVariants.{U, Cx}

-- the angle that with this one is a whole turn or none
unfoldable pub opposite : ℕ → ℕ
opposite a = (4294967296 - a % 4294967296) % 4294967296

-- the prim that undoes this one: U with opposite angles, of which phi and lambda change places
unfoldable pub inverse : Prim → Prim
inverse (U theta phi lambda q) = U (opposite theta) (opposite lambda) (opposite phi) q
inverse (Cx c t) = Cx c t

-- the list that undoes this one: what undoes each prim, the last of them first
unfoldable pub undo : List Prim → List Prim
undo [] = []
undo (g ∷ gs) = undo gs ++ (inverse g ∷ [])
