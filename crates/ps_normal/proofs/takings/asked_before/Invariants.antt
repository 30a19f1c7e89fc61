use Rattle.std.proofs.Common.{◌≤◌}
use Rattle.ps_normal.proofs.takings.asked_before.Given as goal

-- the count of yeses does not fall
abbrev pub invariant-steps : goal.invariant-steps
invariant-steps g l = g.S.Stop.yeses l.fn.stop ≤ g.S.Stop.yeses l.stop
