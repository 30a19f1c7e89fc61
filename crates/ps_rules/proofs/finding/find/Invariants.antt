use Rattle.std.proofs.Common.{◌≤◌}
use Rattle.ps_rules.specs.Sights.{NoneFrom}
use Rattle.ps_rules.proofs.finding.find.Given as goal

abbrev pub invariant-loop-y : goal.invariant-loop-y
invariant-loop-y l = NoneFrom l.sum 0 l.y × (l.tried ≤ 8)
