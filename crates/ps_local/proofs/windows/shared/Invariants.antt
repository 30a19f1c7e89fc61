use Rattle.std.proofs.Common.{◌≡◌, take, map}
use Rattle.ps_reach.specs.Runs.{prims_of}
use Rattle.ps_local.proofs.windows.shared.Given as goal

abbrev pub invariant-loop-item : goal.invariant-loop-item
invariant-loop-item l = map prims_of l.list.items ≡ map prims_of (take l.item-index l.items)
