use Rattle.std.proofs.Common.{subst, ◌+◌, ◌*◌, ◌≤◌}
use Rattle.ps_sum.specs.declared.sums.PathSum.{PathSum}
use Rattle.ps_join.proofs.running.Running.is_near.Goals as goal

pub returns-then-self-le-MOST_VARIABLES : goal.returns-then-self-le-MOST_VARIABLES
returns-then-self-le-MOST_VARIABLES c = λ t. record {
  named = subst (λ (s : PathSum). 2 * s.n + s.m ≤ 512) c.self.view_is c.if-self-le-MOST_VARIABLES.true;
  short = c.is_short.ensures t;
}
