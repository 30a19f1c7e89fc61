-- Entries of maps by names, as they are kept.
use Rattle.std.specs.Prelude.{ℕ, List}
use Rattle.std.specs.declared.vec.Vec.{Vec}
use Rattle.std.specs.declared.sync.Arc.{Arc}
use Rattle.std.specs.declared.alloc.Global.{Global}
use Rattle.ps_prim.specs.declared.prims.Primitive.{Primitive as Prim}
use Rattle.ps_prim.specs.declared.items.Item.{Item}
use Rattle.qasm_expand.specs.declared.registers.Extent.{Extent}
use Rattle.qasm_expand.specs.Tables.{Register, Bound}

abbrev pub bound_of : (Vec ℕ Global) × ℕ → Bound
bound_of e = record { name = e.0.items; def = e.1 }

abbrev pub register_with : (Vec ℕ Global) × Extent → Register
register_with e = record { name = e.0.items; quantum = e.1.quantum; first = e.1.first; size = e.1.size }

abbrev pub extent_of : Register → Extent
extent_of r = record { quantum = r.quantum; first = r.first; size = r.size }

-- the prims of an item, which may be shared
abbrev pub prims_in : Arc Item Global → List Prim
prims_in a = a.value.prims
