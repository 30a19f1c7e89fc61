use Rattle.std.proofs.Common.{map}
use Rattle.ps_reach.specs.Runs.{prims_of}
use Rattle.ps_local.specs.Windows.{AreIn}
use Rattle.ps_local.proofs.windows.first_window.Given as goal

abbrev pub invariant-loop : goal.invariant-loop
invariant-loop l = AreIn (map prims_of l.first) (map prims_of l.second) l.end
