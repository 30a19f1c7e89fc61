use Rattle.std.proofs.Common.{◌≡◌, drop, map, length, ◌-◌}
use Rattle.ps_reach.specs.Runs.{prims_of}
use Rattle.ps_local.proofs.ends.common_back.Given as goal

abbrev pub invariant-loop-i : goal.invariant-loop-i
invariant-loop-i l = drop (length l.first - l.i) (map prims_of l.first) ≡ drop (length l.second - l.i) (map prims_of l.second)
