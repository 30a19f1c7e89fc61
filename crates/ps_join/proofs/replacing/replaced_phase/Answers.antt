use Rattle.ps_join.proofs.Chains.{phase_start, phase_step, phase_part, phase_fits, phase_over, phase_idle}
use Rattle.ps_join.proofs.replacing.replaced_phase.Goals as goal

pub loop-input-init : goal.loop-input-init
loop-input-init c = phase_start c.args.names.now.n c.args.names.now.m1 c.args.names.now.m2 c.args.outs.now c.args.poly.now _ c.requires.below c.in_ok-phase.ensures.named c.in_ok-phase.ensures.variables

pub replace_phase-requires-clause-form : goal.replace_phase-requires-clause-form
replace_phase-requires-clause-form c = c.loop-input.invariant.form

pub replace_phase-requires-clause-free : goal.replace_phase-requires-clause-free
replace_phase-requires-clause-free c = λ z. phase_idle c.args.names.now.n c.args.names.now.m1 c.args.names.now.m2 c.args.outs.now c.args.poly.now c.loop-input.input c.own-own.result _ _ c.contains-may.result c.loop-input-test.true c.own-own.ensures.value c.phase_support-support.ensures c.contains-may.ensures z c.loop-input.invariant

pub loop-input-preserved : goal.loop-input-preserved
loop-input-preserved c =
    phase_step c.args.names.now.n c.args.names.now.m1 c.args.names.now.m2 c.args.outs.now c.args.poly.now c.loop-input.input c.own-own.result c.index-outs-input.result c.loop-input.phase _ c.requires.wide c.requires.outs_below c.loop-input-test.true c.index-outs-input.is c.own-own.ensures.value
    c.in-Ok.ensures.fits c.in-Ok.ensures.after c.in-Ok.ensures.variables c.loop-input.invariant

pub returns-in-Err-clause-over : goal.returns-in-Err-clause-over
returns-in-Err-clause-over c =
    phase_over c.args.names.now.n c.args.names.now.m1 c.args.names.now.m2 c.args.outs.now c.args.poly.now c.loop-input.input c.own-own.result c.index-outs-input.result c.loop-input.phase _ c.requires.wide c.loop-input-test.true c.index-outs-input.is c.own-own.ensures.value c.in-Err.ensures.over c.loop-input.invariant

pub returns-clause-part : goal.returns-clause-part
returns-clause-part c = phase_part c.args.names.now.n c.args.names.now.m1 c.args.names.now.m2 c.args.outs.now c.args.poly.now c.loop-input.input c.loop-input.phase c.loop-input-test.false c.loop-input.invariant

pub returns-clause-fits : goal.returns-clause-fits
returns-clause-fits c = phase_fits c.args.names.now.n c.args.names.now.m1 c.args.names.now.m2 c.args.outs.now c.args.poly.now c.loop-input.input c.loop-input.phase c.requires.wide c.loop-input-test.false c.loop-input.invariant
