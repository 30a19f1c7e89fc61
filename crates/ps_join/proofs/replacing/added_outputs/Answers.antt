use Rattle.std.proofs.Common.{arith}
use Rattle.ps_join.proofs.Pairs.{moved_pair, pair_fits, pair_part}
use Rattle.ps_join.proofs.replacing.added_outputs.Goals as goal

pub returns-then-count-lt-SHORT-2-clause-part : goal.returns-then-count-lt-SHORT-2-clause-part
returns-then-count-lt-SHORT-2-clause-part c =
    pair_part c.args.names.now.n c.args.names.now.m1 c.args.names.now.m2 c.in-Some.low c.in-Some.high c.args.outs.now c.index-outs-low.result c.index-outs-high.result c.args.poly.now c.in_ok-sum.sum
    (moved_pair _ _ _ _ _ _ c.in-Some.low-is c.in-Some.high-is c.in-Some.ensures) c.requires.wide c.index-outs-low.is c.index-outs-high.is c.requires.outs_below
    c.in_ok-sum.ensures.form c.in_ok-sum.ensures.value c.in_ok-sum.ensures.variables

pub returns-then-count-lt-SHORT-2-clause-fits : goal.returns-then-count-lt-SHORT-2-clause-fits
returns-then-count-lt-SHORT-2-clause-fits c =
    pair_fits c.args.names.now.n c.args.names.now.m1 c.args.names.now.m2 c.in-Some.low c.in-Some.high c.args.outs.now c.index-outs-low.result c.index-outs-high.result c.args.poly.now
    (moved_pair _ _ _ _ _ _ c.in-Some.low-is c.in-Some.high-is c.in-Some.ensures) c.requires.wide c.args.names.now.room c.index-outs-low.is c.index-outs-high.is c.requires.formed c.requires.outs_below
    (omega (arith, c.count.ensures, c.if-count-lt-SHORT.true)) (omega (arith, c.count-then-count-lt-SHORT.ensures, c.if-count-lt-SHORT-2.true))
