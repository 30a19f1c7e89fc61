use Rattle.std.proofs.Common.{◌≡◌, ◌≤◌}
use Rattle.ps_probe.specs.Patterns.{free_count}
use Rattle.ps_probe.proofs.pattern.Pattern.free.Given as goal

abbrev pub invariant-loop-i : goal.invariant-loop-i
invariant-loop-i l = (l.free ≡ free_count l.self l.i) × (l.free ≤ l.i)
