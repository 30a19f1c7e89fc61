use Rattle.ps_sum.proofs.Lifts.{mono_free}
use Rattle.ps_overlap.proofs.Paired.{halved_start, halved_more, halved_value, moved_at, MonosNotMoved, small_mono}
use Rattle.ps_overlap.proofs.pairing.push_moved_halves.Goals as goal

pub loop-mono-init : goal.loop-mono-init
loop-mono-init c = halved_start (moved_at c.args.n c.args.by) (MonosNotMoved c.args.n c.args.by c.args.monos.now) c.args.w.now c.args.monos.now c.args.out.now.items

pub moved_mono-requires-clause-small : goal.moved_mono-requires-clause-small
moved_mono-requires-clause-small c = small_mono c.args.by c.args.monos.now c.loop-mono.mono-index c.mono-item.result c.loop-mono-test.true c.mono-item.is c.requires.small

pub loop-mono-preserved : goal.loop-mono-preserved
loop-mono-preserved c = halved_more (moved_at c.args.n c.args.by) (MonosNotMoved c.args.n c.args.by c.args.monos.now) c.args.w.now c.args.monos.now c.args.out.now.items c.loop-mono.out.items _ c.loop-mono.mono-index c.of.result c.mono-item.result c.moved_mono.result c.union.result c.loop-mono-test.true c.mono-item.is c.moved_mono.ensures.value
    (λ u o. c.moved_mono.ensures.variables u (λ v e. mono_free v c.args.monos.now c.loop-mono.mono-index c.mono-item.result c.loop-mono-test.true c.mono-item.is (o v e))) c.union.ensures.members c.of.ensures c.in_ok-push.ensures.items c.loop-mono.invariant

pub returns-clause-value : goal.returns-clause-value
returns-clause-value c = halved_value (moved_at c.args.n c.args.by) (MonosNotMoved c.args.n c.args.by c.args.monos.now) c.args.w.now c.args.monos.now c.args.out.now.items c.loop-mono.out.items c.loop-mono.mono-index c.loop-mono-test.false c.loop-mono.invariant

pub returns-clause-variables : goal.returns-clause-variables
returns-clause-variables c = c.loop-mono.invariant.free
