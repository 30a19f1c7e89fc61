use Rattle.std.proofs.Common.{◌≡◌, false, refl}
use Rattle.ps_bool.specs.Polys.{occurs}
use Rattle.ps_sum.proofs.Lifts.{mono_free}
use Rattle.ps_overlap.proofs.Paired.{halved_start, halved_more, halved_value, as_is}
use Rattle.ps_overlap.proofs.pairing.push_halves.Goals as goal

pub loop-mono-init : goal.loop-mono-init
loop-mono-init c = halved_start as_is (λ u. occurs u c.args.monos.now ≡ false) c.args.w.now c.args.monos.now c.args.out.now.items

pub loop-mono-preserved : goal.loop-mono-preserved
loop-mono-preserved c = halved_more as_is (λ u. occurs u c.args.monos.now ≡ false) c.args.w.now c.args.monos.now c.args.out.now.items c.loop-mono.out.items _ c.loop-mono.mono-index c.of.result c.mono-item.result c.mono-item.result c.union.result c.loop-mono-test.true c.mono-item.is (λ a. refl)
    (λ v o. mono_free v c.args.monos.now c.loop-mono.mono-index c.mono-item.result c.loop-mono-test.true c.mono-item.is o) c.union.ensures.members c.of.ensures c.in_ok-push.ensures.items c.loop-mono.invariant

pub returns-clause-value : goal.returns-clause-value
returns-clause-value c = halved_value as_is (λ u. occurs u c.args.monos.now ≡ false) c.args.w.now c.args.monos.now c.args.out.now.items c.loop-mono.out.items c.loop-mono.mono-index c.loop-mono-test.false c.loop-mono.invariant

pub returns-clause-variables : goal.returns-clause-variables
returns-clause-variables c = c.loop-mono.invariant.free
