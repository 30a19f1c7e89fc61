use Rattle.std.proofs.Common.{refl}
use Rattle.ps_rules.proofs.Gathers.{poly_start, poly_more}
use Rattle.ps_rules.proofs.spoiling.add_poly.Goals as goal

pub loop-mono-preserved : goal.loop-mono-preserved
loop-mono-preserved c = poly_more c.args.out.now c.monos-mono-items.result.now c.loop-mono.mono-index c.mono-item.result c.loop-mono.out _ c.loop-mono-test.true c.mono-item.is c.add.ensures.values c.loop-mono.invariant

pub loop-mono-init : goal.loop-mono-init
loop-mono-init c = poly_start c.args.out.now c.monos-mono-items.result.now c.args.out.now refl
