use Rattle.std.proofs.Common.{map}
use Rattle.ps_reach.specs.Runs.{prims_of}
use Rattle.ps_local.specs.Windows.{AreWindowsTo}
use Rattle.ps_local.proofs.windows.found_windows.Given as goal

abbrev pub invariant-loop : goal.invariant-loop
invariant-loop l = AreWindowsTo l.n (map prims_of l.first) (map prims_of l.second) l.at
