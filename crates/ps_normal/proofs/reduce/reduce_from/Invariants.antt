use Rattle.std.proofs.Common.{◌*◌, ◌≤◌, pos, negsuc, ◌≤ℤ◌}
use Rattle.std.specs.Prelude.{IfSome, IsNone, ◌-ℤ◌}
use Rattle.ps_rules.specs.Rules.{FirstStep, IsIrreducible}
use Rattle.ps_reach.specs.Reductions.{Reduces}
use Rattle.ps_normal.proofs.reduce.reduce_from.Given as goal

-- the steps so far lead to the current sum, whose scale stays above the floor, and whose first step is known
abbrev pub invariant-reducing : goal.invariant-reducing
invariant-reducing g l =
    record {
      reached : Reduces l.fn.sum l.steps.items l.current;
      floor : negsuc 1999999999 ≤ℤ (l.current.k -ℤ pos (2 * l.current.m));
      first : IfSome l.next (λ s. FirstStep l.current s);
      none : IsNone l.next → IsIrreducible l.current;
      never_falls : g.S.Stop.yeses l.fn.stop ≤ g.S.Stop.yeses l.stop;
    }

abbrev pub decreases-reducing : goal.decreases-reducing
decreases-reducing g l = l.current.m
