use Rattle.std.proofs.Common.{ℕ, ◌<◌, ◌≤◌, List, subst, length}
use Rattle.ps_rules.specs.Closing.{closed_mono}
use Rattle.ps_rules.proofs.Mapped.{mono_at, mapped_more, mapped_end}
use Rattle.ps_rules.proofs.settling.close_monos.Goals as goal

pub loop-mono-init : goal.loop-mono-init
loop-mono-init c = c.deref_mut-mono-items.ensures.value

pub close_mono-requires-clause-apart : goal.close_mono-requires-clause-apart
close_mono-requires-clause-apart c = mono_at c.args.closing.gone (λ m. closed_mono c.args.closing.gone m) c.args.monos.now.items c.loop-mono.mono-items c.loop-mono.mono-index _ (subst (λ (r : List (List ℕ)). c.loop-mono.mono-index < length r) c.deref_mut-mono-items.ensures.value c.loop-mono-test.true) c.loop-mono.invariant c.requires.apart

pub close_mono-requires-clause-below : goal.close_mono-requires-clause-below
close_mono-requires-clause-below c w h = mono_at w (λ m. closed_mono c.args.closing.gone m) c.args.monos.now.items c.loop-mono.mono-items c.loop-mono.mono-index _ (subst (λ (r : List (List ℕ)). c.loop-mono.mono-index < length r) c.deref_mut-mono-items.ensures.value c.loop-mono-test.true) c.loop-mono.invariant (c.requires.below w h)

pub loop-mono-preserved : goal.loop-mono-preserved
loop-mono-preserved c = mapped_more (λ m. closed_mono c.args.closing.gone m) c.args.monos.now.items c.loop-mono.mono-items c.loop-mono.mono-index c.close_mono.new.mono _ (subst (λ (r : List (List ℕ)). c.loop-mono.mono-index < length r) c.deref_mut-mono-items.ensures.value c.loop-mono-test.true) c.close_mono.ensures c.loop-mono.invariant

pub returns : goal.returns
returns c = mapped_end (λ m. closed_mono c.args.closing.gone m) c.args.monos.now.items c.loop-mono.mono-items c.loop-mono.mono-index c.args.monos.now.len (subst (λ (r : List (List ℕ)). length r ≤ c.loop-mono.mono-index) c.deref_mut-mono-items.ensures.value c.loop-mono-test.false) c.args.monos.now.ok.0 c.loop-mono.invariant
