use Rattle.std.proofs.Common.{ℕ, ◌<◌, ◌≤◌, List, subst, length, sym, ◌∙◌}
use Rattle.ps_rules.specs.Closing.{closed_mono}
use Rattle.ps_rules.proofs.Twice.{monos_twice, name_is, pair_is}
use Rattle.ps_rules.proofs.Mapped.{mono_at, mapped_more, mapped_end}
use Rattle.ps_rules.proofs.settling.close_monos_twice.Goals as goal

pub loop-mono-init : goal.loop-mono-init
loop-mono-init c = c.deref_mut-mono-items.ensures.value

pub close_twice-requires-clause-high : goal.close_twice-requires-clause-high
close_twice-requires-clause-high c = name_is _ _ _ c.of-pair.ensures.high (mono_at c.args.high.gone (λ m. closed_mono c.args.low.gone (closed_mono c.args.high.gone m)) c.args.monos.now.items c.loop-mono.mono-items c.loop-mono.mono-index _ (subst (λ (r : List (List ℕ)). c.loop-mono.mono-index < length r) c.deref_mut-mono-items.ensures.value c.loop-mono-test.true) c.loop-mono.invariant c.requires.high)

pub close_twice-requires-clause-low : goal.close_twice-requires-clause-low
close_twice-requires-clause-low c = name_is _ _ _ c.of-pair.ensures.low (mono_at c.args.low.gone (λ m. closed_mono c.args.low.gone (closed_mono c.args.high.gone m)) c.args.monos.now.items c.loop-mono.mono-items c.loop-mono.mono-index _ (subst (λ (r : List (List ℕ)). c.loop-mono.mono-index < length r) c.deref_mut-mono-items.ensures.value c.loop-mono-test.true) c.loop-mono.invariant c.requires.low)

pub close_twice-requires-clause-below : goal.close_twice-requires-clause-below
close_twice-requires-clause-below c w h = mono_at w (λ m. closed_mono c.args.low.gone (closed_mono c.args.high.gone m)) c.args.monos.now.items c.loop-mono.mono-items c.loop-mono.mono-index _ (subst (λ (r : List (List ℕ)). c.loop-mono.mono-index < length r) c.deref_mut-mono-items.ensures.value c.loop-mono-test.true) c.loop-mono.invariant (c.requires.below w (subst (λ (n : ℕ). n ≤ w) c.of-pair.ensures.names h))

pub loop-mono-preserved : goal.loop-mono-preserved
loop-mono-preserved c = mapped_more (λ m. closed_mono c.args.low.gone (closed_mono c.args.high.gone m)) c.args.monos.now.items c.loop-mono.mono-items c.loop-mono.mono-index c.close_twice.new.mono _ (subst (λ (r : List (List ℕ)). c.loop-mono.mono-index < length r) c.deref_mut-mono-items.ensures.value c.loop-mono-test.true) (pair_is c.of-pair.result.low c.of-pair.result.high c.args.low.gone c.args.high.gone _ _ c.of-pair.ensures.low c.of-pair.ensures.high c.close_twice.ensures) c.loop-mono.invariant

pub returns : goal.returns
returns c =
    mapped_end (λ m. closed_mono c.args.low.gone (closed_mono c.args.high.gone m)) c.args.monos.now.items c.loop-mono.mono-items c.loop-mono.mono-index c.args.monos.now.len (subst (λ (r : List (List ℕ)). length r ≤ c.loop-mono.mono-index) c.deref_mut-mono-items.ensures.value c.loop-mono-test.false) c.args.monos.now.ok.0 c.loop-mono.invariant
    ∙ sym (monos_twice c.args.low.gone c.args.high.gone c.args.monos.now.items)
