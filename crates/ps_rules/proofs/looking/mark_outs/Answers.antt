use Rattle.std.proofs.Common.{take}
use Rattle.ps_sum.specs.Outs.{outs_occur}
use Rattle.ps_rules.proofs.Windows.{outs_start, outs_more, outs_end}
use Rattle.ps_rules.proofs.looking.mark_outs.Goals as goal

pub loop-poly-init : goal.loop-poly-init
loop-poly-init c = outs_start c.args.outs.now c.args.base c.args.sights.now c.requires.fresh

pub loop-poly-preserved : goal.loop-poly-preserved
loop-poly-preserved c = outs_more c.args.outs.now c.args.base c.loop-poly.poly-index c.poly-item.result c.mark_poly.new.sights c.loop-poly-test.true c.poly-item.is
    (c.mark_poly.ensures (λ v. outs_occur v (take c.loop-poly.poly-index c.args.outs.now)) c.loop-poly.invariant)

pub returns : goal.returns
returns c = outs_end c.args.outs.now c.args.base c.loop-poly.poly-index c.loop-poly.sights c.loop-poly-test.false c.loop-poly.invariant
