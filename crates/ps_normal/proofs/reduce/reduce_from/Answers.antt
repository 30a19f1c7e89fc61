use Rattle.std.proofs.Common.{arith, subst}
use Rattle.std.specs.Prelude.{IfSome}
use Rattle.ps_rules.specs.Rules.{FirstStep}
use Rattle.ps_normal.proofs.Floors.{applied_floor, reached_start, reached_more}
use Rattle.ps_normal.proofs.reduce.reduce_from.Goals as goal

pub reducing-init : goal.reducing-init
reducing-init g c = record {
  reached = reached_start c.args.sum _ c.clear.ensures.items;
  floor = c.requires.floor;
  first = c.requires.first;
  none = c.requires.none;
  never_falls = omega arith;
}

pub reducing-preserved : goal.reducing-preserved
reducing-preserved g c = record {
  reached = reached_more c.args.sum c.reducing.current c.in-Ok.reduced c.in-Some.step c.reducing.steps.items _ c.reducing.invariant.reached (subst (λ o. IfSome o (λ s. FirstStep c.reducing.current s)) c.in-Some.is c.reducing.invariant.first) c.in-Ok.ensures.fits c.in-Ok.ensures.sum c.in_ok-push-in-Ok.ensures.items;
  floor = applied_floor c.reducing.current c.in-Ok.reduced c.in-Some.step c.in-Ok.ensures.sum c.reducing.invariant.floor;
  first = c.find-next.ensures.first;
  none = c.find-next.ensures.none.0;
  never_falls = omega (arith, c.reducing.invariant.never_falls, c.asked.ensures.never_falls);
}
