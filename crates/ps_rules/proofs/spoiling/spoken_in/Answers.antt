use Rattle.ps_rules.proofs.Gathers.{outs_start, outs_more}
use Rattle.ps_rules.proofs.spoiling.spoken_in.Goals as goal

pub loop-poly-init : goal.loop-poly-init
loop-poly-init c = outs_start c.args.outs.now c.zero-out.result c.zero-out.ensures

pub loop-poly-preserved : goal.loop-poly-preserved
loop-poly-preserved c = outs_more c.args.outs.now c.loop-poly.poly-index c.poly-item.result c.loop-poly.out _ c.loop-poly-test.true c.poly-item.is c.add_poly.ensures c.loop-poly.invariant
