use Rattle.std.proofs.Common.{◌*◌}
use Rattle.ps_rules.specs.Sights.{NoneFrom}
use Rattle.ps_rules.proofs.finding.first_of_all.Given as goal

abbrev pub invariant-loop-window : goal.invariant-loop-window
invariant-loop-window l = NoneFrom l.sum 0 (l.window * 128)
