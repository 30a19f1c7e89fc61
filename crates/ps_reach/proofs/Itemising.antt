-- Items keep their bounds.
use Rattle.std.proofs.Common.{List, [], ◌∷◌, map}
use Rattle.std.specs.declared.sync.Arc.{Arc}
use Rattle.std.specs.declared.alloc.Global.{Global}
use Rattle.ps_prim.specs.declared.items.Item.{Item}
use Rattle.ps_reach.specs.Runs.{prims_of, AllItems}

pub all_items : (list : List (Arc Item Global)) → AllItems (map prims_of list)
all_items [] = tt
all_items (a ∷ more) = (a.value.bounded, all_items more)
