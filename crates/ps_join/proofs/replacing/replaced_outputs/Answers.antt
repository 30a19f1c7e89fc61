use Rattle.std.proofs.Common.{arith}
use Rattle.ps_join.proofs.Chains.{outputs_start, outputs_step, outputs_parts, outputs_fit, outputs_over, output_below}
use Rattle.ps_join.proofs.replacing.replaced_outputs.Goals as goal

pub loop-i-init : goal.loop-i-init
loop-i-init c = outputs_start c.args.names.now.n c.args.names.now.m1 c.args.names.now.m2 c.args.outs.now c.args.polys.now _ c.in_ok-parts.ensures.items

pub replaced_output-requires-clause-below : goal.replaced_output-requires-clause-below
replaced_output-requires-clause-below c = output_below c.args.polys.now c.loop-i.i _ c.index-polys-i.result (omega (arith, c.requires.second_wide, c.loop-i-test.true)) c.index-polys-i.is c.requires.below

pub loop-i-preserved : goal.loop-i-preserved
loop-i-preserved c =
    outputs_step c.args.names.now.n c.args.names.now.m1 c.args.names.now.m2 c.args.outs.now c.args.polys.now c.loop-i.i c.index-polys-i.result c.loop-i.parts.items _ _ (omega (arith, c.requires.second_wide, c.loop-i-test.true)) c.index-polys-i.is c.in-Ok-push.ensures.items
    c.in-Ok.ensures.part c.in-Ok.ensures.fits c.loop-i.invariant

pub returns-in-Err-clause-over : goal.returns-in-Err-clause-over
returns-in-Err-clause-over c =
    outputs_over c.args.names.now.n c.args.names.now.m1 c.args.names.now.m2 c.args.outs.now c.args.polys.now c.loop-i.i c.index-polys-i.result c.loop-i.parts.items _ (omega (arith, c.requires.second_wide, c.loop-i-test.true)) c.index-polys-i.is c.in-Err.ensures.over c.loop-i.invariant

pub returns-clause-parts : goal.returns-clause-parts
returns-clause-parts c = outputs_parts c.args.names.now.n c.args.names.now.m1 c.args.names.now.m2 c.args.outs.now c.args.polys.now c.loop-i.i c.loop-i.parts.items (omega (arith, c.requires.second_wide, c.loop-i-test.false)) c.loop-i.invariant

pub returns-clause-fits : goal.returns-clause-fits
returns-clause-fits c = outputs_fit c.args.names.now.n c.args.names.now.m1 c.args.names.now.m2 c.args.outs.now c.args.polys.now c.loop-i.i c.loop-i.parts.items (omega (arith, c.requires.second_wide, c.loop-i-test.false)) c.loop-i.invariant
