use Rattle.std.proofs.Common.{length}
use Rattle.ps_sum.specs.Counts.{raw_bool}
use Rattle.ps_rules.proofs.Limits.{above_at, none_short, none_end}
use Rattle.ps_rules.proofs.measuring.outs_above.Goals as goal

pub returns-then-count-gt-LIMIT : goal.returns-then-count-gt-LIMIT
returns-then-count-gt-LIMIT c = above_at (λ f. raw_bool c.args.v (length c.args.by.now) f) c.args.outs.now c.loop-poly.poly-index c.poly-item.result _ c.loop-poly-test.true c.poly-item.is (c.told_count-count.ensures.above c.if-count-gt-LIMIT.true) c.if-count-gt-LIMIT.true c.loop-poly.invariant

pub loop-poly-preserved : goal.loop-poly-preserved
loop-poly-preserved c = none_short (λ f. raw_bool c.args.v (length c.args.by.now) f) c.args.outs.now c.loop-poly.poly-index c.poly-item.result c.loop-poly-test.true c.poly-item.is (c.told_count-count.ensures.within c.if-count-gt-LIMIT.false) c.loop-poly.invariant

pub returns : goal.returns
returns c = none_end (λ f. raw_bool c.args.v (length c.args.by.now) f) c.args.outs.now c.loop-poly.poly-index c.loop-poly-test.false c.loop-poly.invariant
