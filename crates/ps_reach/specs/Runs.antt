-- The items of a segment, and the prims that they come to.
use Rattle.std.specs.Prelude.{List, [], ◌∷◌, ◌++◌}
use Rattle.std.specs.declared.sync.Arc.{Arc}
use Rattle.std.specs.declared.alloc.Global.{Global}
use Rattle.ps_prim.specs.declared.prims.Primitive.{Primitive as Prim}
use Rattle.ps_prim.specs.declared.items.Item.{Item}
use Rattle.ps_prim.specs.Items.{IsItem}

abbrev pub prims_of : Arc Item Global → List Prim
prims_of a = a.value.prims

-- each item has at most 4,096 prims, on qubits below 64, with the two qubits of a Cx different
abbrev pub AllItems : List (List Prim) → Type 0
AllItems [] = Unit {0}
AllItems (i ∷ is) = IsItem i × AllItems is

-- all prims of the items, in order
unfoldable pub run_of : List (List Prim) → List Prim
run_of [] = []
run_of (i ∷ is) = i ++ run_of is
