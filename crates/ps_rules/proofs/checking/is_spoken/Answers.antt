use Rattle.ps_rules.proofs.Windows.{spoken_here, spoken_next, spoken_end}
use Rattle.ps_rules.proofs.checking.is_spoken.Goals as goal

pub returns-then-contains : goal.returns-then-contains
returns-then-contains c = spoken_here c.args.v c.args.outs.now c.loop-poly.poly-index c.poly-item.result c.contains.result c.loop-poly-test.true c.poly-item.is c.contains.ensures c.if-contains.true c.loop-poly.invariant

pub loop-poly-preserved : goal.loop-poly-preserved
loop-poly-preserved c = spoken_next c.args.v c.args.outs.now c.loop-poly.poly-index c.poly-item.result c.contains.result c.loop-poly-test.true c.poly-item.is c.contains.ensures c.if-contains.false c.loop-poly.invariant

pub returns : goal.returns
returns c = spoken_end c.args.v c.args.outs.now c.loop-poly.poly-index c.loop-poly-test.false c.loop-poly.invariant
