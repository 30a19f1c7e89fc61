-- An inner product of a number with itself.
use Rattle.std.proofs.Common.{◌≡◌, ℕ, zero, suc, ap, sym, ◌∙◌, arith}
use Rattle.std.proofs.Math.IntN.{ℤ, pos, negsuc, ◌+ℤ◌, ◌-ℤ◌, ◌*ℤ◌, neg_ℤ, +ℤ_idr}
use Rattle.std.proofs.Common.{◌≤ℤ◌}
use Rattle.std.proofs.lemmas.Int.{ints}
use Rattle.ps_ring.specs.Numbers.{Number}
use Rattle.ps_ring.specs.Inner.{window, inner}
use Rattle.ps_ring.specs.InnerLaws.{InnerSelf, InnerNone}
use Rattle.ps_ring.proofs.Products.{zero_square}
use Rattle.ps_ring.proofs.Windows.{window_ext}
use Rattle.ps_ring.proofs.Inners.{inner_turned}

window_up : (n : ℕ) (f : ℤ → ℤ) → ((i : ℤ) → pos 0 ≤ℤ f i) → pos 0 ≤ℤ window n f
unfolding window
window_up zero f h = omega (arith, ints)
window_up (suc n) f h = let a = window_up n f h in let b = h (pos n) in omega (arith, ints)

window_none : (n : ℕ) (f : ℤ → ℤ) → ((i : ℤ) → pos 0 ≤ℤ f i) → window (suc n) f ≡ pos 0 → f (pos 0) ≡ pos 0
unfolding window
window_none zero f h e = omega (arith, ints)
window_none (suc n) f h e =
    let a = window_up (suc n) f h in let b = h (pos (suc n)) in
    window_none n f h (omega (arith, ints))

square_up : (a : ℤ) → pos 0 ≤ℤ (a *ℤ a)
square_up (pos n) = omega (arith, ints)
square_up (negsuc n) = omega (arith, ints)

self_up : (a b : ℤ) → a ≡ b → pos 0 ≤ℤ (a *ℤ b)
self_up a b e = rw (← e) (square_up a)

pub inner_up : (c : Number) → pos 0 ≤ℤ inner c c (pos 0)
unfolding inner
inner_up c = window_up 2147483648 _ (λ i. self_up (c i) (c (i +ℤ pos 0)) (ap c (sym (+ℤ_idr i))))

inner_first : (c : Number) → inner c c (pos 0) ≡ pos 0 → c (pos 0) ≡ pos 0
unfolding inner
inner_first c e = zero_square (c (pos 0)) (window_none 2147483647 (λ i. c i *ℤ c (i +ℤ pos 0)) (λ i. self_up (c i) (c (i +ℤ pos 0)) (ap c (sym (+ℤ_idr i)))) e)

pub inner_none : InnerNone
inner_none c h e j =
    let t : inner (λ i. c (i -ℤ neg_ℤ j)) (λ i. c (i -ℤ neg_ℤ j)) (pos 0) ≡ pos 0 = inner_turned c c h h (neg_ℤ j) (neg_ℤ j) (pos 0) ∙ ap (inner c c) (omega (arith, ints)) ∙ e in
    ap c (omega (arith, ints)) ∙ inner_first (λ i. c (i -ℤ neg_ℤ j)) t

pub inner_self : InnerSelf
unfolding inner
inner_self c = window_ext 2147483648 _ (λ i. c i *ℤ c i) (λ i. ap (λ r. c i *ℤ c r) (+ℤ_idr i))
