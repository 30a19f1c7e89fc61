use Rattle.std.proofs.Common.{◌≡◌, ◌++◌, [], take, map}
use Rattle.ps_reach.specs.Runs.{prims_of}
use Rattle.ps_normal.proofs.children.both_items.Given as goal

abbrev pub invariant-first : goal.invariant-first
invariant-first l = map prims_of l.list.items ≡ [] ++ map prims_of (take l.item-index l.item-items)

abbrev pub invariant-second : goal.invariant-second
invariant-second l = map prims_of l.list.items ≡ l.fn.first ++ map prims_of (take l.item-index l.item-items)
