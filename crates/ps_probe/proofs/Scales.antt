-- Which scales a sum that is 1 can have, and what its phases count to.
use Rattle.std.proofs.Common.{◌≡◌, ℕ, zero, suc, ◌+◌, ◌/◌, ◌%◌, ◌^◌, ◌<◌, ◌≤◌, refl, ap, sym, ◌∙◌, arith, Bool, true, false, cond, nat_eq, List, [], ◌∷◌, ◌⊎◌, inl, inr}
use Rattle.std.proofs.Math.IntN.{ℤ, pos, negsuc, ◌+ℤ◌, ◌-ℤ◌, ◌*ℤ◌, nat_abs}
use Rattle.std.specs.Prelude.{◌≤ℤ◌, IsTrue}
use Rattle.std.proofs.lemmas.Int.{ints}
use Rattle.std.proofs.lemmas.Bool.Decides.{nat_tests}
use Rattle.std.proofs.lemmas.Nat.{pow_below}
use Rattle.ps_ring.specs.Truths.{Truths, same_bits}
use Rattle.ps_ring.specs.Numbers.{Number, IsNumber, one, unit_at, when, sqrt2, root2, above}
use Rattle.ps_ring.specs.Sums.{total, PathValues, signed_count}
use Rattle.ps_ring.proofs.Turned.{one_number, sqrt2_twice}
use Rattle.ps_ring.proofs.Ones.{one_first}
use Rattle.ps_ring.proofs.Roots.{root2_number, root2_even, root2_odd, same_path}
use Rattle.ps_ring.proofs.StepLaws.{signed_number}
use Rattle.ps_prim.specs.Overlaps.{IsOne}
use Rattle.std.proofs.Common.{to_z, of_z, w32}
use Rattle.std.specs.Int.Signed.{lt_z}
use lib.Dec.{ltb}
use Rattle.ps_sum.specs.declared.sums.PathSum.{PathSum}
use Rattle.ps_overlap.proofs.Made.{kept_scale}
use Rattle.ps_probe.specs.Tallies.{tallied}

-- ---- a scale below 0
root_of_one : sqrt2 one (pos 536870912) ≡ pos 1
unfolding sqrt2 one unit_at
root_of_one = refl

no_half : (a : ℤ) → a +ℤ a ≡ pos 1 → ⊥
no_half a e = omega (arith, ints, e)

no_root : (d : Number) → IsNumber d → sqrt2 d ≡ one → ⊥
no_root d h e = no_half (d (pos 536870912)) (sym (sqrt2_twice d h (pos 536870912)) ∙ ap (λ u. sqrt2 u (pos 536870912)) e ∙ root_of_one)

below_zero : (S : PathValues) (x : Truths) (a : ℕ) → S.k ≡ negsuc a → IsOne S x → ⊥
unfolding root2 above
below_zero S x a e h =
    let p : root2 (above S.k (pos 0)) (signed_count S x []) ≡ root2 (above (pos 0) S.k) one = same_path S.k (pos 0) (signed_count S x []) one h in
    let u : above S.k (pos 0) ≡ suc a = ap (λ k. above k (pos 0)) e ∙ omega arith in
    let v : above (pos 0) S.k ≡ 0 = ap (λ k. above (pos 0) k) e in
    no_root (root2 a (signed_count S x [])) (root2_number a (signed_count S x []) (signed_number S x []))
    (ap (λ n. root2 n (signed_count S x [])) (sym u) ∙ p ∙ ap (λ n. root2 n one) v)

-- ---- what is counted
at_zero : (S : PathValues) (k : ℕ) → S.k ≡ pos k → (above S.k (pos 0) ≡ 0) × (above (pos 0) S.k ≡ k)
unfolding above
at_zero S k e = (ap (λ z. above z (pos 0)) e ∙ omega arith, ap (λ z. above (pos 0) z) e ∙ omega arith)

pub one_counts : (S : PathValues) (x : Truths) (k : ℕ) → S.k ≡ pos k → (((j : ℤ) → signed_count S x [] j ≡ root2 k one j) → IsOne S x) × (IsOne S x → (j : ℤ) → signed_count S x [] j ≡ root2 k one j)
unfolding root2
one_counts S x k e = (
  λ f j. ap (λ n. root2 n (signed_count S x []) j) (at_zero S k e).0 ∙ f j ∙ ap (λ n. root2 n one j) (sym (at_zero S k e).1),
  λ h j. sym (ap (λ n. root2 n (signed_count S x []) j) (at_zero S k e).0) ∙ h j ∙ ap (λ n. root2 n one j) (at_zero S k e).1,
)

-- ---- a scale that is too great
unit_most : (r : ℕ) → unit_at r ≤ℤ pos 1
unfolding unit_at
unit_most r = by (nat_eq r 0) (nat_eq r 2147483648)
  where
    by : (a b : Bool) → cond a (pos 1) (cond b (negsuc 0) (pos 0)) ≤ℤ pos 1
    by true b = omega (arith, ints)
    by false true = omega (arith, ints)
    by false false = omega (arith, ints)

one_most : (j : ℤ) → one j ≤ℤ pos 1
unfolding one
one_most j = unit_most (nat_abs j % 4294967296)

when_most : (b : Bool) (v : ℤ) → v ≤ℤ pos 1 → when b v ≤ℤ pos 1
unfolding when
when_most true v h = h
when_most false v h = omega (arith, ints)

two_more : (n : ℕ) → 2 ^ suc n ≡ 2 ^ n + 2 ^ n
two_more n = omega arith

total_most : (m : ℕ) (F : Truths → ℤ) → ((y : Truths) → F y ≤ℤ pos 1) → total m F ≤ℤ pos (2 ^ m)
unfolding total
total_most zero F h = h []
total_most (suc m) F h =
    let a = total_most m (λ ys. F (false ∷ ys)) (λ y. h (false ∷ y)) in
    let b = total_most m (λ ys. F (true ∷ ys)) (λ y. h (true ∷ y)) in
    let t = two_more m in
    omega (arith, ints, a, b, t)

count_most : (S : PathValues) (x : Truths) (j : ℤ) → signed_count S x [] j ≤ℤ pos (2 ^ S.m)
unfolding signed_count
count_most S x j = total_most S.m _ (λ y. when_most (same_bits (S.outs x y) []) _ (one_most (j -ℤ pos (S.phase x y))))

times_one : (v : ℤ) → v *ℤ pos 1 ≡ v
times_one v = omega (arith, ints)

-- the power of the root of 2 is 2^e somewhere
power_at : (k e : ℕ) → (k ≡ e + e) ⊎ (k ≡ suc (e + e)) → (j : ℤ) × (root2 k one j ≡ pos (2 ^ e))
power_at k e (inl h) = (pos 0, ap (λ n. root2 n one (pos 0)) h ∙ root2_even e one one_number (pos 0) ∙ ap (λ v. pos (2 ^ e) *ℤ v) one_first ∙ times_one (pos (2 ^ e)))
power_at k e (inr h) = (pos 536870912, ap (λ n. root2 n one (pos 536870912)) h ∙ root2_odd e one one_number (pos 536870912) ∙ ap (λ v. pos (2 ^ e) *ℤ v) root_of_one ∙ times_one (pos (2 ^ e)))

halved : (k : ℕ) → (k ≡ k / 2 + k / 2) ⊎ (k ≡ suc (k / 2 + k / 2))
halved k = by (k % 2) refl
  where
    by : (r : ℕ) → k % 2 ≡ r → (k ≡ k / 2 + k / 2) ⊎ (k ≡ suc (k / 2 + k / 2))
    by zero e = inl (omega (arith, e))
    by (suc r) e = inr (omega (arith, e))

too_great : (S : PathValues) (x : Truths) (k : ℕ) → S.k ≡ pos k → 34 ≤ k → S.m ≤ 16 → IsOne S x → ⊥
too_great S x k e l m h =
    let w = power_at k (k / 2) (halved k) in
    let c : signed_count S x [] w.0 ≡ pos (2 ^ (k / 2)) = (one_counts S x k e).1 h w.0 ∙ w.1 in
    let b = count_most S x w.0 in
    let p : 2 ^ S.m < 2 ^ (k / 2) = pow_below S.m (k / 2) (omega (arith, l, m)) in
    omega (arith, ints, c, b, p)

pub out_of_range : (S : PathValues) (x : Truths) → S.m ≤ 16 → (S.k ≤ℤ negsuc 0) ⊎ (pos 34 ≤ℤ S.k) → IsOne S x → ⊥
out_of_range S x m r h = by S.k refl r
  where
    by : (k : ℤ) → S.k ≡ k → (k ≤ℤ negsuc 0) ⊎ (pos 34 ≤ℤ k) → ⊥
    by (pos k) e (inl l) = absurd (omega (arith, ints, l))
    by (pos k) e (inr l) = too_great S x k e (omega (arith, ints, l)) m h
    by (negsuc a) e s = below_zero S x a e h

-- ---- the answer of a tally
pub never_one : (S : PathValues) (x : Truths) → S.m ≤ 16 → (S.k ≤ℤ negsuc 0) ⊎ (pos 34 ≤ℤ S.k) → (IsTrue false → IsOne S x) × (IsOne S x → IsTrue false)
never_one S x m r = (λ t. absurd (never t), λ h. absurd (out_of_range S x m r h))
  where
    never : IsTrue false → ⊥
    never k = cc

pub tally_tells : (S : PathValues) (x : Truths) (k : ℕ) (ps qs : List ℕ) (b : Bool) → S.k ≡ pos k → qs ≡ ps → ((j : ℤ) → signed_count S x [] j ≡ tallied ps j) → (IsTrue b → (j : ℤ) → tallied qs j ≡ root2 k one j) × (((j : ℤ) → tallied qs j ≡ root2 k one j) → IsTrue b)
    → (IsTrue b → IsOne S x) × (IsOne S x → IsTrue b)
tally_tells S x k ps qs b e q s t = (
  λ h. (one_counts S x k e).0 (λ j. s j ∙ ap (λ (r : List ℕ). tallied r j) (sym q) ∙ t.0 h j),
  λ h. t.1 (λ j. ap (λ (r : List ℕ). tallied r j) q ∙ sym (s j) ∙ (one_counts S x k e).1 h j),
)

-- ---- the tests of the scale
kept : (S : PathSum) → to_z w32 (of_z w32 S.k) ≡ S.k
kept S = kept_scale S.k S.k refl S.scaled

is_low : (k : ℤ) → lt_z k (pos 0) ≡ true → k ≤ℤ negsuc 0
is_low (pos a) h = absurd (let w : ltb a 0 ≡ true = h in grind (arith, nat_tests, w))
is_low (negsuc a) h = omega (arith, ints)

is_high : (k : ℤ) → lt_z (pos 33) k ≡ true → pos 34 ≤ℤ k
is_high (pos b) h = let w : 34 ≤ b = (let u : ltb 33 b ≡ true = h in grind (arith, nat_tests, u)) in omega (arith, ints, w)
is_high (negsuc b) h = absurd (clash h)
  where
    clash : false ≡ true → ⊥
    clash k = cc

is_inside : (k : ℤ) → lt_z k (pos 0) ≡ false → k ≡ pos (nat_abs k)
is_inside (pos a) h = refl
is_inside (negsuc a) h = absurd (clash h)
  where
    clash : true ≡ false → ⊥
    clash k = cc

pub scale_low : (S : PathSum) → lt_z (to_z w32 (of_z w32 S.k)) (pos 0) ≡ true → S.k ≤ℤ negsuc 0
scale_low S h = is_low S.k (ap (λ k. lt_z k (pos 0)) (sym (kept S)) ∙ h)

pub scale_high : (S : PathSum) → lt_z (pos 33) (to_z w32 (of_z w32 S.k)) ≡ true → pos 34 ≤ℤ S.k
scale_high S h = is_high S.k (ap (λ k. lt_z (pos 33) k) (sym (kept S)) ∙ h)

pub scale_inside : (S : PathSum) → lt_z (to_z w32 (of_z w32 S.k)) (pos 0) ≡ false → S.k ≡ pos (nat_abs (to_z w32 (of_z w32 S.k)))
scale_inside S h = is_inside S.k (ap (λ k. lt_z k (pos 0)) (sym (kept S)) ∙ h) ∙ ap (λ k. pos (nat_abs k)) (sym (kept S))
