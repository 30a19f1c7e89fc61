use Rattle.std.proofs.Common.{refl}
use Rattle.ps_sum.proofs.Withins.{bool_start, bool_next, bool_end, bool_out, never}
use Rattle.ps_sum.proofs.making.bool_within.Goals as goal

pub loop-mono-init : goal.loop-mono-init
loop-mono-init c = bool_start c.args.names.now

pub loop-mono-preserved : goal.loop-mono-preserved
loop-mono-preserved c = bool_next c.args.names.now c.monos-mono-items.result.now c.loop-mono.mono-index c.mono-item.result c.holds.result c.loop-mono-test.true c.mono-item.is c.holds.ensures c.if-not-holds.false c.loop-mono.invariant

pub returns-then-not-holds-clause-exactly : goal.returns-then-not-holds-clause-exactly
returns-then-not-holds-clause-exactly c =
    (λ e. absurd (never e), bool_out c.args.names.now c.args.poly.now c.monos-mono-items.result.now c.loop-mono.mono-index c.mono-item.result c.holds.result c.monos-mono-items.ensures.items c.loop-mono-test.true c.mono-item.is c.holds.ensures c.if-not-holds.true)

pub returns-clause-exactly : goal.returns-clause-exactly
returns-clause-exactly c = (bool_end c.args.names.now c.args.poly.now c.monos-mono-items.result.now c.loop-mono.mono-index c.monos-mono-items.ensures.items c.loop-mono-test.false c.loop-mono.invariant, λ h. refl)
