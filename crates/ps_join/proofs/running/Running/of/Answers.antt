use Rattle.std.proofs.Common.{ap, sym, subst, length}
use Rattle.ps_phase.specs.Phases.{IsPhasePoly}
use Rattle.ps_join.specs.Changing.{NoLonger}
use Rattle.ps_join.proofs.Totals.{total_none, none_named}
use Rattle.ps_join.proofs.running.Running.of.Goals as goal

pub invariant_of-result : goal.invariant_of-result
invariant_of-result c = (
  subst IsPhasePoly (sym c.zero.ensures) tt,
  (none_named c.args.sum c.zero.result c.zero.ensures, (subst (NoLonger _) c.polys.ensures c.longest-longest.ensures, tt)),
)

pub returns : goal.returns
returns c = sym (total_none c.args.sum c.zero.result _ _ (ap length c.zero.ensures))
