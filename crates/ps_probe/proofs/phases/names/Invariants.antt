use Rattle.std.proofs.Common.{◌≡◌}
use Rattle.ps_probe.specs.Tallies.{names_from}
use Rattle.ps_probe.proofs.phases.names.Given as goal

abbrev pub invariant-loop-i : goal.invariant-loop-i
invariant-loop-i l = l.names.items ≡ names_from l.first l.i
