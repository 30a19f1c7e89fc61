-- Sums over a window of integers.
use mathlib.Core.Path.{fun_ext}
use Rattle.std.proofs.Common.{◌≡◌, ℕ, zero, suc, refl, ap, sym, ◌∙◌, arith, ◌<◌}
use Rattle.std.proofs.Math.IntN.{ℤ, pos, negsuc, ◌+ℤ◌, ◌-ℤ◌, ◌*ℤ◌, neg_ℤ, *ℤ-zero}
use Rattle.std.proofs.lemmas.Int.{ints}
use Rattle.ps_ring.specs.Inner.{window}
use Rattle.ps_ring.proofs.Products.{sum_mul}

pub window_ext : (n : ℕ) (f g : ℤ → ℤ) → ((i : ℤ) → f i ≡ g i) → window n f ≡ window n g
window_ext n f g h = ap (window n) (fun_ext h)

pub window_add : (n : ℕ) (f g : ℤ → ℤ) → window n (λ i. f i +ℤ g i) ≡ window n f +ℤ window n g
unfolding window
window_add zero f g = refl
window_add (suc n) f g = let h = window_add n f g in omega (arith, ints)

pub window_neg : (n : ℕ) (f : ℤ → ℤ) → window n (λ i. neg_ℤ (f i)) ≡ neg_ℤ (window n f)
unfolding window
window_neg zero f = refl
window_neg (suc n) f = let h = window_neg n f in omega (arith, ints)

window_next : (n : ℕ) (f : ℤ → ℤ) → window n (λ i. f (i +ℤ pos 1)) +ℤ f (pos 0) ≡ window n f +ℤ f (pos n)
unfolding window
window_next zero f = refl
window_next (suc n) f =
    let h = window_next n f in
    let e : f (pos n +ℤ pos 1) ≡ f (pos (suc n)) = ap f (omega (arith, ints)) in
    omega (arith, ints)

-- f comes again after n
abbrev pub Again : ℕ → (ℤ → ℤ) → Type 0
Again n f = (i : ℤ) → f (i +ℤ pos n) ≡ f i

again_turned : (n : ℕ) (f : ℤ → ℤ) (p : ℤ) → Again n f → Again n (λ i. f (i -ℤ p))
again_turned n f p h i =
    let e : i +ℤ pos n -ℤ p ≡ i -ℤ p +ℤ pos n = omega (arith, ints) in
    ap f e ∙ h (i -ℤ p)

window_step : (n : ℕ) (f : ℤ → ℤ) → Again n f → window n (λ i. f (i +ℤ pos 1)) ≡ window n f
window_step n f h =
    let e = window_next n f in
    let d : f (pos 0 +ℤ pos n) ≡ f (pos n) = ap f (omega (arith, ints)) in
    let g = h (pos 0) in
    omega (arith, ints)

window_back : (n : ℕ) (f : ℤ → ℤ) → Again n f → (p : ℕ) → window n (λ i. f (i -ℤ pos p)) ≡ window n f
window_back n f h zero = window_ext n _ f (λ i. ap f (omega (arith, ints)))
window_back n f h (suc p) =
    sym (window_step n (λ i. f (i -ℤ pos (suc p))) (again_turned n f (pos (suc p)) h))
    ∙ window_ext n _ (λ i. f (i -ℤ pos p)) (λ i. ap f (omega (arith, ints))) ∙ window_back n f h p

window_forth : (n : ℕ) (f : ℤ → ℤ) → Again n f → (p : ℕ) → window n (λ i. f (i -ℤ negsuc p)) ≡ window n f
window_forth n f h zero = window_ext n _ (λ i. f (i +ℤ pos 1)) (λ i. refl) ∙ window_step n f h
window_forth n f h (suc p) =
    window_ext n _ (λ i. f (i +ℤ pos 1 -ℤ negsuc p)) (λ i. ap f (omega (arith, ints)))
    ∙ window_step n (λ i. f (i -ℤ negsuc p)) (again_turned n f (negsuc p) h) ∙ window_forth n f h p

pub window_turned : (n : ℕ) (f : ℤ → ℤ) → Again n f → (p : ℤ) → window n (λ i. f (i -ℤ p)) ≡ window n f
window_turned n f h (pos p) = window_back n f h p
window_turned n f h (negsuc p) = window_forth n f h p

-- only the first is not 0
pub window_first : (n : ℕ) (f : ℤ → ℤ) → ((i : ℕ) → i < n → f (pos (suc i)) ≡ pos 0) → window (suc n) f ≡ f (pos 0)
unfolding window
window_first zero f h = omega (arith, ints)
window_first (suc n) f h =
    let e = window_first n f (λ i l. h i (omega arith)) in
    let z = h n (omega arith) in
    omega (arith, ints)

pub window_times : (n : ℕ) (k : ℤ) (f : ℤ → ℤ) → window n (λ i. k *ℤ f i) ≡ k *ℤ window n f
unfolding window
window_times zero k f = sym (*ℤ-zero k)
window_times (suc n) k f = ap (λ r. r +ℤ k *ℤ f (pos n)) (window_times n k f) ∙ sym (sum_mul k (window n f) (f (pos n)))

pub window_zero : (n : ℕ) → window n (λ i. pos 0) ≡ pos 0
unfolding window
window_zero zero = refl
window_zero (suc n) = ap (λ k. k +ℤ pos 0) (window_zero n)
