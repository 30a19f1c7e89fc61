-- Circuits of Clifford gates.
use Rattle.std.specs.Prelude.{List, [], ◌∷◌}
use Rattle.std.specs.declared.sync.Arc.{Arc}
use Rattle.std.specs.declared.alloc.Global.{Global}
use Rattle.ps_prim.specs.declared.prims.Primitive.{Primitive as Prim}
use Rattle.ps_prim.specs.declared.items.Item.{Item}
use Rattle.ps_cliff.specs.Quadratics.{IsCliffordGate}

-- each gate is a Clifford gate
abbrev pub AreClifford : List Prim → Type 0
AreClifford [] = Unit {0}
AreClifford (g ∷ gs) = IsCliffordGate g × AreClifford gs

-- each gate of each item
abbrev pub IsClifford : List (Arc Item Global) → Type 0
IsClifford [] = Unit {0}
IsClifford (i ∷ is) = AreClifford i.value.prims × IsClifford is
