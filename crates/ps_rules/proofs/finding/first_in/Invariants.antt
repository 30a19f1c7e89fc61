use Rattle.std.proofs.Common.{◌+◌}
use Rattle.ps_rules.specs.Sights.{NoneFrom}
use Rattle.ps_rules.proofs.finding.first_in.Given as goal

abbrev pub invariant-loop-i : goal.invariant-loop-i
invariant-loop-i l = NoneFrom l.sum l.low (l.low + l.i)
