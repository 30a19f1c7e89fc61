use Rattle.std.proofs.Common.{◌≡◌, ◌++◌, drop, map}
use Rattle.ps_reach.specs.Runs.{prims_of}
use Rattle.ps_local.specs.Wires.{kept}
use Rattle.ps_local.proofs.wires.rest.Given as goal

abbrev pub invariant-loop-i : goal.invariant-loop-i
invariant-loop-i l = map prims_of l.list.items ++ kept (drop l.i l.out) (map prims_of (drop l.i l.items)) ≡ kept l.out (map prims_of l.items)
