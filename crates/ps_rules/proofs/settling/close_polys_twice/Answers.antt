use Rattle.std.proofs.Common.{ℕ, ◌<◌, ◌≤◌, ◌∙◌, List, ap, subst, length, sym}
use Rattle.ps_rules.specs.Closing.{closed_monos}
use Rattle.ps_rules.proofs.Twice.{polys_twice}
use Rattle.ps_rules.proofs.Mapped.{poly_at, mapped_more, mapped_end}
use Rattle.ps_rules.proofs.settling.close_polys_twice.Goals as goal

pub loop-poly-init : goal.loop-poly-init
loop-poly-init c = c.deref_mut-poly-items.ensures.value

pub closed_poly_twice-requires-clause-high : goal.closed_poly_twice-requires-clause-high
closed_poly_twice-requires-clause-high c = poly_at c.args.high.gone (λ f. closed_monos c.args.low.gone (closed_monos c.args.high.gone f)) c.args.polys.now.items c.loop-poly.poly-items c.loop-poly.poly-index _ c.replace-old.result (subst (λ (r : List (List (List ℕ))). c.loop-poly.poly-index < length r) c.deref_mut-poly-items.ensures.value c.loop-poly-test.true) c.loop-poly.invariant c.replace-old.ensures.value c.requires.high

pub closed_poly_twice-requires-clause-low : goal.closed_poly_twice-requires-clause-low
closed_poly_twice-requires-clause-low c = poly_at c.args.low.gone (λ f. closed_monos c.args.low.gone (closed_monos c.args.high.gone f)) c.args.polys.now.items c.loop-poly.poly-items c.loop-poly.poly-index _ c.replace-old.result (subst (λ (r : List (List (List ℕ))). c.loop-poly.poly-index < length r) c.deref_mut-poly-items.ensures.value c.loop-poly-test.true) c.loop-poly.invariant c.replace-old.ensures.value c.requires.low

pub closed_poly_twice-requires-clause-below : goal.closed_poly_twice-requires-clause-below
closed_poly_twice-requires-clause-below c w h = poly_at w (λ f. closed_monos c.args.low.gone (closed_monos c.args.high.gone f)) c.args.polys.now.items c.loop-poly.poly-items c.loop-poly.poly-index _ c.replace-old.result (subst (λ (r : List (List (List ℕ))). c.loop-poly.poly-index < length r) c.deref_mut-poly-items.ensures.value c.loop-poly-test.true) c.loop-poly.invariant c.replace-old.ensures.value (c.requires.below w h)

pub loop-poly-preserved : goal.loop-poly-preserved
loop-poly-preserved c = mapped_more (λ f. closed_monos c.args.low.gone (closed_monos c.args.high.gone f)) c.args.polys.now.items c.loop-poly.poly-items c.loop-poly.poly-index c.closed_poly_twice.result _ (subst (λ (r : List (List (List ℕ))). c.loop-poly.poly-index < length r) c.deref_mut-poly-items.ensures.value c.loop-poly-test.true) (c.closed_poly_twice.ensures ∙ ap (λ (f : List (List ℕ)). closed_monos c.args.low.gone (closed_monos c.args.high.gone f)) c.replace-old.ensures.value) c.loop-poly.invariant

pub returns : goal.returns
returns c =
    mapped_end (λ f. closed_monos c.args.low.gone (closed_monos c.args.high.gone f)) c.args.polys.now.items c.loop-poly.poly-items c.loop-poly.poly-index c.args.polys.now.len (subst (λ (r : List (List (List ℕ))). length r ≤ c.loop-poly.poly-index) c.deref_mut-poly-items.ensures.value c.loop-poly-test.false) c.args.polys.now.ok.0 c.loop-poly.invariant
    ∙ sym (polys_twice c.args.low.gone c.args.high.gone c.args.polys.now.items)
