use Rattle.std.proofs.Common.{arith}
use Rattle.ps_join.proofs.Chains.{phase_part, phase_fits}
use Rattle.ps_join.proofs.Touching.{lone_loop}
use Rattle.ps_join.proofs.gating.lone_phase.Goals as goal

pub returns-clause-part : goal.returns-clause-part
returns-clause-part c = phase_part c.args.names.now.n c.args.names.now.m1 c.args.names.now.m2 c.args.outs.now c.args.poly.now c.args.names.now.n c.in_ok-phase.phase (omega arith)
    (lone_loop c.args.names.now.n c.args.names.now.m1 c.args.names.now.m2 c.args.outs.now c.args.poly.now c.args.q c.own-own.result c.index-outs-q.result c.in_ok-named.named c.in_ok-phase.phase
    c.requires.wide c.requires.outs_below c.requires.below c.requires.inside c.requires.only c.index-outs-q.is c.own-own.ensures.value c.in_ok-named.ensures.named c.in_ok-named.ensures.variables
    (omega (arith, c.count.ensures, c.if-count-gt-MOST_TERMS.false)) (omega (arith, c.raw_phase.ensures, c.if-raw_phase-gt-MOST_TERMS.false))
    (record { form = c.in_ok-phase.ensures.form; value = c.in_ok-phase.ensures.value }) c.in_ok-phase.ensures.variables (omega (arith, c.count-2.ensures, c.if-count-gt-MOST_TERMS-2.false)))

pub returns-clause-fits : goal.returns-clause-fits
returns-clause-fits c = phase_fits c.args.names.now.n c.args.names.now.m1 c.args.names.now.m2 c.args.outs.now c.args.poly.now c.args.names.now.n c.in_ok-phase.phase c.requires.wide (omega arith)
    (lone_loop c.args.names.now.n c.args.names.now.m1 c.args.names.now.m2 c.args.outs.now c.args.poly.now c.args.q c.own-own.result c.index-outs-q.result c.in_ok-named.named c.in_ok-phase.phase
    c.requires.wide c.requires.outs_below c.requires.below c.requires.inside c.requires.only c.index-outs-q.is c.own-own.ensures.value c.in_ok-named.ensures.named c.in_ok-named.ensures.variables
    (omega (arith, c.count.ensures, c.if-count-gt-MOST_TERMS.false)) (omega (arith, c.raw_phase.ensures, c.if-raw_phase-gt-MOST_TERMS.false))
    (record { form = c.in_ok-phase.ensures.form; value = c.in_ok-phase.ensures.value }) c.in_ok-phase.ensures.variables (omega (arith, c.count-2.ensures, c.if-count-gt-MOST_TERMS-2.false)))
