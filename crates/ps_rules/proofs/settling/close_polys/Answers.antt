use Rattle.std.proofs.Common.{ℕ, ◌<◌, ◌≤◌, ◌∙◌, List, ap, subst, length}
use Rattle.ps_rules.specs.Closing.{closed_monos}
use Rattle.ps_rules.proofs.Mapped.{poly_at, mapped_more, mapped_end}
use Rattle.ps_rules.proofs.settling.close_polys.Goals as goal

pub loop-poly-init : goal.loop-poly-init
loop-poly-init c = c.deref_mut-poly-items.ensures.value

pub closed_poly-requires-clause-apart : goal.closed_poly-requires-clause-apart
closed_poly-requires-clause-apart c = poly_at c.args.closing.gone (λ f. closed_monos c.args.closing.gone f) c.args.polys.now.items c.loop-poly.poly-items c.loop-poly.poly-index _ c.replace-old.result (subst (λ (r : List (List (List ℕ))). c.loop-poly.poly-index < length r) c.deref_mut-poly-items.ensures.value c.loop-poly-test.true) c.loop-poly.invariant c.replace-old.ensures.value c.requires.apart

pub closed_poly-requires-clause-below : goal.closed_poly-requires-clause-below
closed_poly-requires-clause-below c w h = poly_at w (λ f. closed_monos c.args.closing.gone f) c.args.polys.now.items c.loop-poly.poly-items c.loop-poly.poly-index _ c.replace-old.result (subst (λ (r : List (List (List ℕ))). c.loop-poly.poly-index < length r) c.deref_mut-poly-items.ensures.value c.loop-poly-test.true) c.loop-poly.invariant c.replace-old.ensures.value (c.requires.below w h)

pub loop-poly-preserved : goal.loop-poly-preserved
loop-poly-preserved c = mapped_more (λ f. closed_monos c.args.closing.gone f) c.args.polys.now.items c.loop-poly.poly-items c.loop-poly.poly-index c.closed_poly.result _ (subst (λ (r : List (List (List ℕ))). c.loop-poly.poly-index < length r) c.deref_mut-poly-items.ensures.value c.loop-poly-test.true) (c.closed_poly.ensures ∙ ap (closed_monos c.args.closing.gone) c.replace-old.ensures.value) c.loop-poly.invariant

pub returns : goal.returns
returns c = mapped_end (λ f. closed_monos c.args.closing.gone f) c.args.polys.now.items c.loop-poly.poly-items c.loop-poly.poly-index c.args.polys.now.len (subst (λ (r : List (List (List ℕ))). length r ≤ c.loop-poly.poly-index) c.deref_mut-poly-items.ensures.value c.loop-poly-test.false) c.args.polys.now.ok.0 c.loop-poly.invariant
