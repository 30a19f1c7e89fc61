-- Columns that are equal have inner product 1; and what is not 1.
use mathlib.Core.Path.{fun_ext}
use Rattle.std.proofs.Common.{◌≡◌, ℕ, ◌+◌, ◌*◌, ◌^◌, ap, sym, ◌∙◌, arith, ◌<◌, length, pow-add, pow_pos}
use Rattle.std.proofs.Math.IntN.{ℤ, pos, ◌-ℤ◌, ◌*ℤ◌, +ℤ_idr}
use Rattle.std.proofs.lemmas.Int.{ints}
use Rattle.std.proofs.Math.Pow.{pow-lt}
use borrow.Author.Differences.{up}
use Rattle.ps_ring.specs.Numbers.{Number, IsNumber, one, root2, above, SameScaled}
use Rattle.ps_ring.specs.Inner.{inner}
use Rattle.ps_ring.proofs.Products.{mul_assoc_z, mul_cancel}
use Rattle.ps_ring.proofs.Turned.{one_number, turned_number}
use Rattle.ps_ring.proofs.Ones.{one_first, phases_meet}
use Rattle.ps_ring.proofs.Roots.{root2_even, root2_cancel, above_is, same_path, same_from}
use Rattle.ps_ring.proofs.Inners.{inner_turned, inner_number, inner_one, inner_roots}
use Rattle.ps_ring.proofs.Totals.{total_ext}
use Rattle.ps_prim.specs.Amplitudes.{Truths, Column, amplitude, turns}
use Rattle.ps_prim.specs.Columns.{inner_over, SameIsOne}
use Rattle.ps_prim.specs.Overlaps.{PhaseIsOne, PhaseIsTurn}
use Rattle.ps_prim.proofs.Equal.{own, over_times_left}

-- columns that are equal as far as they are scaled, of which the second has inner product 1 with itself
pub equal_inner : (n a b : ℕ) (v w : Column) → ((z : Truths) → length z ≡ n → (i : ℤ) → pos (2 ^ b) *ℤ v z i ≡ pos (2 ^ a) *ℤ w z i) → (j : ℤ) → inner_over n w w j ≡ pos (2 ^ (b + b)) *ℤ one j
    → inner_over n v w j ≡ pos (2 ^ (a + b)) *ℤ one j
unfolding inner_over
equal_inner n a b v w s j own_w =
    let p = 2 ^ b in
    let q = 2 ^ a in
    let moved : pos p *ℤ inner_over n v w j ≡ pos q *ℤ inner_over n w w j
    = sym (over_times_left n (pos p) v w j) ∙ total_ext n _ _ (λ z lz. ap (λ c. inner c (w z) j) (fun_ext (s z lz))) ∙ over_times_left n (pos q) w w j in
    let ww = ap (λ r. pos q *ℤ r) own_w in
    let e : q * 2 ^ (b + b) ≡ p * 2 ^ (a + b) = ap (λ r. q * r) (pow-add 2 b b) ∙ mul_shuffle q p ∙ ap (λ r. p * r) (sym (pow-add 2 a b)) in
    mul_cancel p _ _ (pow_pos b) (moved ∙ ww ∙ sym (mul_assoc_z (pos q) (pos (2 ^ (b + b))) (one j)) ∙ ap (λ r. pos r *ℤ one j) e ∙ mul_assoc_z (pos p) (pos (2 ^ (a + b))) (one j))
  where
    mul_shuffle : (q p : ℕ) → q * (p * p) ≡ p * (q * p)
    mul_shuffle q p = omega arith

pub same_is_one : SameIsOne
same_is_one n A B x hA hB l s j = equal_inner n (turns A) (turns B) (amplitude A x) (amplitude B x) s j (own n B x hB l j)

-- ---- a phase alone
turned_own : (p : ℤ) → inner (λ j. one (j -ℤ p)) (λ j. one (j -ℤ p)) (pos 0) ≡ pos 1
turned_own p = inner_turned one one one_number one_number p p (pos 0) ∙ inner_one one _ ∙ ap one (omega (arith, ints)) ∙ one_first

powers_same : (a b : ℕ) → pos (2 ^ a) ≡ pos (2 ^ b) → a ≡ b
powers_same a b e =
    let d : 2 ^ a ≡ 2 ^ b = ap up e in
    let x : a < b → ⊥ = λ h. let k = pow-lt h in omega arith in
    let y : b < a → ⊥ = λ h. let k = pow-lt h in omega arith in
    omega arith

right_one : (k : ℤ) → k *ℤ pos 1 ≡ k
right_one k = omega (arith, ints)

same_size : (a b : ℕ) (c d : Number) → IsNumber c → IsNumber d → inner c c (pos 0) ≡ pos 1 → inner d d (pos 0) ≡ pos 1 → root2 a c ≡ root2 b d → a ≡ b
same_size a b c d h k e f r = powers_same a b (sym (size a c h e) ∙ ap (λ u. inner u u (pos 0)) r ∙ size b d k f)
  where
    size : (a : ℕ) (c : Number) → IsNumber c → inner c c (pos 0) ≡ pos 1 → inner (root2 a c) (root2 a c) (pos 0) ≡ pos (2 ^ a)
    size a c h e = ap (λ u. u (pos 0)) (inner_roots a a c c h h) ∙ root2_even a (inner c c) (inner_number c c h) (pos 0) ∙ ap (λ r. pos (2 ^ a) *ℤ r) e ∙ right_one (pos (2 ^ a))

there : (p : ℕ) → pos p -ℤ pos p ≡ pos 0
there p = omega (arith, ints)

pub one_turned : (p : ℕ) → IsNumber (λ j. one (j -ℤ pos p))
one_turned p j = turned_number one one_number (pos p) j

pub phase_is_turn : PhaseIsTurn
phase_is_turn k p q h =
    let T : Number = λ j. one (j -ℤ pos p) in
    let Q : Number = λ j. one (j -ℤ pos q) in
    let r = same_path k (pos 0) T Q h in
    let e = same_size (above k (pos 0)) (above (pos 0) k) T Q (one_turned p) (one_turned q) (turned_own (pos p)) (turned_own (pos q)) r in
    let t : T ≡ Q = root2_cancel (above k (pos 0)) T Q (one_turned p) (one_turned q) (r ∙ ap (λ n. root2 n Q) (sym e)) in
    let m : one (pos p -ℤ pos q) ≡ pos 1 = sym (ap (λ (c : Number). c (pos p)) t) ∙ ap one (there p) ∙ one_first in
    (omega (arith, ints, above_is k (pos 0)), phases_meet p q m)

pub phase_is_one : PhaseIsOne
phase_is_one k p h = phase_is_turn k p 0 (λ j. h j ∙ ap (λ (c : Number). root2 (above (pos 0) k) c j) (fun_ext (λ i. ap one (sym (+ℤ_idr i)))))

-- a number that is another as far as it is scaled
pub same_scaled_even : (a b : ℕ) (I d : Number) → IsNumber I → IsNumber d → ((j : ℤ) → I j ≡ pos (2 ^ (a + b)) *ℤ d j) → SameScaled (pos ((a + a) + (b + b))) I (pos 0) d
unfolding root2
same_scaled_even a b I d h k e =
    let s : (a + a) + (b + b) ≡ (a + b) + (a + b) = omega arith in
    same_from (pos ((a + a) + (b + b))) (pos 0) 0 ((a + a) + (b + b)) I d h k (omega (arith, ints)) (fun_ext (λ j. e j ∙ sym (root2_even (a + b) d k j) ∙ ap (λ k. root2 k d j) (sym s)))
