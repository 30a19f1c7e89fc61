use Rattle.std.proofs.Common.{◌≡◌, take, map}
use Rattle.ps_reach.specs.Runs.{prims_of}
use Rattle.ps_local.proofs.ends.common_front.Given as goal

abbrev pub invariant-loop-i : goal.invariant-loop-i
invariant-loop-i l = take l.i (map prims_of l.first) ≡ take l.i (map prims_of l.second)
