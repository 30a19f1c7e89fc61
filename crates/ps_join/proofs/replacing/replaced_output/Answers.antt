use Rattle.std.proofs.Common.{arith}
use Rattle.ps_join.proofs.Chains.{kept_fits, kept_over, over_same}
use Rattle.ps_join.proofs.replacing.replaced_output.Goals as goal

pub returns-in-Ok-clause-fits : goal.returns-in-Ok-clause-fits
returns-in-Ok-clause-fits c =
    kept_fits c.args.names.now.n c.args.names.now.m1 c.args.names.now.m2 c.args.i c.args.outs.now c.index-outs-i.result c.args.poly.now c.requires.inside c.requires.wide c.args.names.now.room c.index-outs-i.is c.requires.formed c.requires.outs_below
    (c.is_input.ensures.0 c.if-is_input.true) (omega (arith, c.in-Ok.ensures.fits, c.count.ensures))

pub returns-in-Err-clause-over : goal.returns-in-Err-clause-over
returns-in-Err-clause-over c =
    kept_over c.args.names.now.n c.args.names.now.m1 c.args.names.now.m2 c.args.i c.args.outs.now c.index-outs-i.result c.args.poly.now _ c.requires.inside c.requires.wide c.args.names.now.room c.index-outs-i.is (c.is_input.ensures.0 c.if-is_input.true)
    (over_same _ _ _ c.count.ensures c.in-Err.ensures.over)
