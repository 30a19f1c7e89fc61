use Rattle.std.proofs.Common.{◌≡◌, take, map, length}
use Rattle.ps_reach.specs.Runs.{prims_of}
use Rattle.ps_local.specs.Wires.{AreMasks}
use Rattle.ps_local.proofs.wires.masks.Given as goal

abbrev pub invariant-loop-item : goal.invariant-loop-item
invariant-loop-item l = AreMasks l.masks.items (map prims_of (take l.item-index l.items)) × (length l.masks.items ≡ l.item-index)
