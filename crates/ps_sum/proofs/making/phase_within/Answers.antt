use Rattle.std.proofs.Common.{refl}
use Rattle.ps_sum.proofs.Withins.{phase_start, phase_next, phase_end, phase_out, never}
use Rattle.ps_sum.proofs.making.phase_within.Goals as goal

pub loop-term-init : goal.loop-term-init
loop-term-init c = phase_start c.args.names.now

pub loop-term-preserved : goal.loop-term-preserved
loop-term-preserved c = phase_next c.args.names.now c.terms-term-items.result.now c.loop-term.term-index c.term-item.result c.holds.result c.loop-term-test.true c.term-item.is c.holds.ensures c.if-not-holds.false c.loop-term.invariant

pub returns-then-not-holds-clause-exactly : goal.returns-then-not-holds-clause-exactly
returns-then-not-holds-clause-exactly c =
    (λ e. absurd (never e), phase_out c.args.names.now c.args.poly.now c.terms-term-items.result.now c.loop-term.term-index c.term-item.result c.holds.result c.terms-term-items.ensures.value c.loop-term-test.true c.term-item.is c.holds.ensures c.if-not-holds.true)

pub returns-clause-exactly : goal.returns-clause-exactly
returns-clause-exactly c = (phase_end c.args.names.now c.args.poly.now c.terms-term-items.result.now c.loop-term.term-index c.terms-term-items.ensures.value c.loop-term-test.false c.loop-term.invariant, λ h. refl)
