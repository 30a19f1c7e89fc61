-- Powers of the root of 2, and numbers over them.
use mathlib.Core.Path.{fun_ext}
use Rattle.std.proofs.Common.{◌≡◌, ℕ, zero, suc, ◌+◌, ◌-◌, ◌^◌, refl, ap, sym, ◌∙◌, arith, suc-add, zero-add, add_comm, ap₂}
use Rattle.std.proofs.Math.IntN.{ℤ, pos, negsuc, ◌+ℤ◌, ◌-ℤ◌, ◌*ℤ◌}
use Rattle.std.proofs.lemmas.Int.{ints}
use Rattle.ps_ring.specs.Numbers.{Number, IsNumber, sqrt2, root2, above, SameScaled}
use Rattle.ps_ring.specs.NumberLaws.{RootEven, RootOdd, SameReflexive, SameSymmetric, SameTransitive, SameByPowers, SamePowers}
use Rattle.ps_ring.proofs.Products.{mul_sum, sum_mul}
use Rattle.ps_ring.proofs.Turned.{sqrt2_twice, sqrt2_number}

pub above_is : (k k' : ℤ) → pos (above k k') +ℤ k ≡ pos (above k' k) +ℤ k'
unfolding above
above_is (pos a) (pos b) = omega (arith, ints)
above_is (pos a) (negsuc b) = omega (arith, ints)
above_is (negsuc a) (pos b) = omega (arith, ints)
above_is (negsuc a) (negsuc b) = omega (arith, ints)

pub above_zero : (k k' : ℤ) (d : ℕ) → k ≡ k' +ℤ pos d → above k k' ≡ 0
unfolding above
above_zero (pos a) (pos b) d e = omega (arith, ints)
above_zero (pos a) (negsuc b) d e = refl
above_zero (negsuc a) (pos b) d e = omega (arith, ints)
above_zero (negsuc a) (negsuc b) d e = omega (arith, ints)

pub same_by : (k k' : ℤ) (d : ℕ) → k ≡ k' +ℤ pos d → (c c' : Number) → ((j : ℤ) → c j ≡ root2 d c' j) → SameScaled k c k' c'
unfolding root2
same_by k k' d e c c' h j =
    let z = above_zero k k' d e in
    let s : above k' k ≡ d = omega (arith, ints, above_is k k') in
    rw (z, s) (h j)

pub root2_number : (e : ℕ) (c : Number) → IsNumber c → IsNumber (root2 e c)
unfolding root2
root2_number zero c h = h
root2_number (suc e) c h = sqrt2_number (root2 e c) (root2_number e c h)

pub root2_add : (d e : ℕ) (c : Number) → root2 (d + e) c ≡ root2 d (root2 e c)
unfolding root2
root2_add zero e c = ap (λ n. root2 n c) (zero-add e)
root2_add (suc d) e c = ap (λ n. root2 n c) (suc-add d e) ∙ ap sqrt2 (root2_add d e c)

pub root2_swap : (d e : ℕ) (c : Number) → root2 d (root2 e c) ≡ root2 e (root2 d c)
root2_swap d e c = sym (root2_add d e c) ∙ ap (λ n. root2 n c) (add_comm d e) ∙ root2_add e d c

sqrt2_cancel : (c c' : Number) → IsNumber c → IsNumber c' → sqrt2 c ≡ sqrt2 c' → c ≡ c'
sqrt2_cancel c c' h h' e = fun_ext (λ j.
    let a = sqrt2_twice c h j in
    let b = sqrt2_twice c' h' j in
    let d : sqrt2 (sqrt2 c) j ≡ sqrt2 (sqrt2 c') j = ap (λ u. sqrt2 u j) e in
    omega (arith, ints))

pub root2_cancel : (d : ℕ) (c c' : Number) → IsNumber c → IsNumber c' → root2 d c ≡ root2 d c' → c ≡ c'
unfolding root2
root2_cancel zero c c' h h' e = e
root2_cancel (suc d) c c' h h' e = root2_cancel d c c' h h' (sqrt2_cancel _ _ (root2_number d c h) (root2_number d c' h') e)

-- how two exponents with the right difference stand to those of SameScaled
apart : (k k' : ℤ) (a b : ℕ) → pos a +ℤ k ≡ pos b +ℤ k' → (a ≡ (a - above k k') + above k k') × (b ≡ (a - above k k') + above k' k)
unfolding above
apart (pos m) (pos n) a b e = omega (arith, ints)
apart (pos m) (negsuc n) a b e = omega (arith, ints)
apart (negsuc m) (pos n) a b e = omega (arith, ints)
apart (negsuc m) (negsuc n) a b e = omega (arith, ints)

-- any two exponents with the right difference show SameScaled, and follow from it
pub same_from : (k k' : ℤ) (a b : ℕ) (c c' : Number) → IsNumber c → IsNumber c' → pos a +ℤ k ≡ pos b +ℤ k' → root2 a c ≡ root2 b c' → SameScaled k c k' c'
same_from k k' a b c c' h h' e r j =
    let s = apart k k' a b e in
    let t : root2 (a - above k k') (root2 (above k k') c) ≡ root2 (a - above k k') (root2 (above k' k) c')
    = sym (root2_add (a - above k k') (above k k') c) ∙ ap (λ n. root2 n c) (sym s.0) ∙ r ∙ ap (λ n. root2 n c') s.1 ∙ root2_add (a - above k k') (above k' k) c' in
    ap (λ u. u j) (root2_cancel (a - above k k') _ _ (root2_number (above k k') c h) (root2_number (above k' k) c' h') t)

pub same_path : (k k' : ℤ) (c c' : Number) → SameScaled k c k' c' → root2 (above k k') c ≡ root2 (above k' k) c'
same_path k k' c c' h = fun_ext h

pub same_reflexive : SameReflexive
same_reflexive k c j = refl

pub same_sym : SameSymmetric
same_sym k k' c c' h j = sym (h j)

pub same_trans : SameTransitive
same_trans k k' k'' c c' c'' h h'' e f =
    let a = above k k' in
    let b = above k' k in
    let d = above k' k'' in
    let g = above k'' k' in
    same_from k k'' (d + a) (b + g) c c'' h h'' (omega (arith, ints, above_is k k', above_is k' k''))
    (root2_add d a c ∙ ap (root2 d) (same_path k k' c c' e) ∙ root2_swap d b c' ∙ ap (root2 b) (same_path k' k'' c' c'' f) ∙ sym (root2_add b g c''))

pub twice_power : (n : ℕ) (v : ℤ) → pos (2 ^ suc n) *ℤ v ≡ pos (2 ^ n) *ℤ v +ℤ pos (2 ^ n) *ℤ v
twice_power n v = let e : 2 ^ suc n ≡ 2 ^ n + 2 ^ n = omega arith in ap (λ r. pos r *ℤ v) e ∙ mul_sum (pos (2 ^ n)) (pos (2 ^ n)) v

pub root2_even : RootEven
unfolding root2
root2_even zero c h j = omega (arith, ints)
root2_even (suc n) c h j =
    let e : suc n + suc n ≡ suc (suc (n + n)) = omega arith in
    let r = root2_even n c h j in
    ap (λ k. root2 k c j) e ∙ sqrt2_twice (root2 (n + n) c) (root2_number (n + n) c h) j ∙ ap₂ (λ a b. a +ℤ b) r r ∙ sym (twice_power n (c j))

pub root2_odd : RootOdd
unfolding root2 sqrt2
root2_odd e c h j = ap₂ (λ a b. a +ℤ b) (root2_even e c h (j -ℤ pos 536870912)) (root2_even e c h (j +ℤ pos 536870912)) ∙ sym (sum_mul (pos (2 ^ e)) (c (j -ℤ pos 536870912)) (c (j +ℤ pos 536870912)))

pub same_by_powers : SameByPowers
same_by_powers k k' a b c c' h h' e r = same_from k k' a b c c' h h' e (fun_ext r)

pub same_powers : SamePowers
same_powers k k' a b c c' e s j =
    let d = apart k k' a b e in
    ap (λ n. root2 n c j) d.0 ∙ ap (λ u. u j) (root2_add (a - above k k') (above k k') c) ∙ ap (λ u. root2 (a - above k k') u j) (same_path k k' c c' s)
    ∙ sym (ap (λ u. u j) (root2_add (a - above k k') (above k' k) c')) ∙ ap (λ n. root2 n c' j) (sym d.1)
