use Rattle.std.proofs.Common.{length}
use Rattle.ps_sum.proofs.Counting.{size_start, size_more, size_end}
use Rattle.ps_sum.proofs.sums.PathSum.size.Goals as goal

pub loop-poly-init : goal.loop-poly-init
loop-poly-init c = size_start (length c.args.self.now.phase) _ _ c.polys-poly-items.result.now c.count.ensures c.min-total.ensures

pub loop-poly-preserved : goal.loop-poly-preserved
loop-poly-preserved c = size_more (length c.args.self.now.phase) c.polys-poly-items.result.now c.loop-poly.poly-index c.poly-item.result c.loop-poly.total _ _ _ c.loop-poly-test.true c.poly-item.is c.count-in-loop-poly.ensures c.min.ensures c.min-total-in-loop-poly.ensures c.loop-poly.invariant

pub returns : goal.returns
returns c = size_end (length c.args.self.now.phase) _ c.polys-poly-items.result.now c.loop-poly.poly-index c.loop-poly.total c.polys-poly-items.ensures c.loop-poly-test.false c.loop-poly.invariant
