-- Inner products of numbers.
use mathlib.Core.Path.{fun_ext}
use Rattle.std.proofs.Common.{◌≡◌, ℕ, zero, suc, ◌+◌, refl, ap, ap₂, sym, ◌∙◌, arith, ◌<◌}
use Rattle.std.proofs.Math.IntN.{ℤ, pos, negsuc, ◌+ℤ◌, ◌-ℤ◌, ◌*ℤ◌, neg_ℤ, zero-*ℤ, *ℤ-zero, +ℤ_idl, +ℤ_idr}
use Rattle.std.proofs.lemmas.Int.{ints}
use Rattle.std.proofs.lemmas.Bool.Decides.{nat_tests}
use Rattle.ps_ring.specs.Numbers.{Number, IsNumber, one, unit_at, sqrt2, root2}
use Rattle.ps_ring.specs.Inner.{inner}
use Rattle.ps_ring.specs.InnerLaws.{InnerIsNumber, InnerAddsLeft, InnerAddsRight, InnerTurnedBoth, InnerTurnedRight, InnerRootLeft, InnerRootRight, InnerOfOne}
use Rattle.ps_ring.proofs.Products.{mul_sum, sum_mul, opposite_mul, opposites}
use Rattle.ps_ring.proofs.Ones.{one_first}
use Rattle.ps_ring.proofs.Roots.{root2_number, root2_add}
use Rattle.ps_ring.proofs.Windows.{Again, window_ext, window_add, window_neg, window_turned, window_first, window_zero}

-- ---- of numbers
product_again : (c d : Number) → IsNumber c → IsNumber d → (j : ℤ) → Again 2147483648 (λ i. c i *ℤ d (i +ℤ j))
product_again c d h k j i =
    let e : i +ℤ pos 2147483648 +ℤ j ≡ i +ℤ j +ℤ pos 2147483648 = omega (arith, ints) in
    ap₂ (λ r s. r *ℤ s) (h i) (ap d e ∙ k (i +ℤ j)) ∙ opposites (c i) (d (i +ℤ j))

-- phases on both sides
pub inner_turned : (c d : Number) → IsNumber c → IsNumber d → (p q j : ℤ) → inner (λ i. c (i -ℤ p)) (λ i. d (i -ℤ q)) j ≡ inner c d (j +ℤ p -ℤ q)
unfolding inner
inner_turned c d h k p q j =
    window_ext 2147483648 _ (λ i. c (i -ℤ p) *ℤ d (i -ℤ p +ℤ (j +ℤ p -ℤ q))) (λ i. ap (λ r. c (i -ℤ p) *ℤ d r) (omega (arith, ints)))
    ∙ window_turned 2147483648 (λ i. c i *ℤ d (i +ℤ (j +ℤ p -ℤ q))) (product_again c d h k (j +ℤ p -ℤ q)) p

pub inner_number : InnerIsNumber
unfolding inner
inner_number c d k j =
    window_ext 2147483648 _ (λ i. neg_ℤ (c i *ℤ d (i +ℤ j))) (λ i.
    let e : i +ℤ (j +ℤ pos 2147483648) ≡ i +ℤ j +ℤ pos 2147483648 = omega (arith, ints) in
    ap (λ r. c i *ℤ r) (ap d e ∙ k (i +ℤ j)) ∙ opposite_mul (c i) (d (i +ℤ j)))
    ∙ window_neg 2147483648 (λ i. c i *ℤ d (i +ℤ j))

pub inner_add_left : InnerAddsLeft
unfolding inner
inner_add_left c c' d j = window_ext 2147483648 _ (λ i. c i *ℤ d (i +ℤ j) +ℤ c' i *ℤ d (i +ℤ j)) (λ i. mul_sum (c i) (c' i) (d (i +ℤ j))) ∙ window_add 2147483648 _ _

pub inner_add_right : InnerAddsRight
unfolding inner
inner_add_right c d d' j = window_ext 2147483648 _ (λ i. c i *ℤ d (i +ℤ j) +ℤ c i *ℤ d' (i +ℤ j)) (λ i. sum_mul (c i) (d (i +ℤ j)) (d' (i +ℤ j))) ∙ window_add 2147483648 _ _

one_later : (i : ℕ) → i < 2147483647 → one (pos (suc i)) ≡ pos 0
unfolding one unit_at
one_later i l = grind (arith, nat_tests)

pub inner_one : InnerOfOne
unfolding inner
inner_one d j =
    window_first 2147483647 (λ i. one i *ℤ d (i +ℤ j)) (λ i l. ap (λ r. r *ℤ d (pos (suc i) +ℤ j)) (one_later i l) ∙ zero-*ℤ (d (pos (suc i) +ℤ j)))
    ∙ ap (λ r. r *ℤ d (pos 0 +ℤ j)) one_first ∙ one_times (d (pos 0 +ℤ j)) ∙ ap d (+ℤ_idl j)
  where
    one_times : (v : ℤ) → pos 1 *ℤ v ≡ v
    one_times v = omega (arith, ints)

pub inner_turned_both : InnerTurnedBoth
inner_turned_both c d h k p j = inner_turned c d h k p p j ∙ ap (inner c d) (omega (arith, ints))

-- ---- a phase, and roots, on one side
pub inner_left : (c d : Number) → IsNumber c → IsNumber d → (p j : ℤ) → inner (λ i. c (i -ℤ p)) d j ≡ inner c d (j +ℤ p)
inner_left c d h k p j = ap (λ e. inner (λ i. c (i -ℤ p)) e j) (fun_ext (λ i. ap d (sym (+ℤ_idr i)))) ∙ inner_turned c d h k p (pos 0) j ∙ ap (inner c d) (+ℤ_idr (j +ℤ p))

pub inner_right : InnerTurnedRight
inner_right c d h k p j = ap (λ e. inner e (λ i. d (i -ℤ p)) j) (fun_ext (λ i. ap c (sym (+ℤ_idr i)))) ∙ inner_turned c d h k (pos 0) p j ∙ ap (λ r. inner c d (r -ℤ p)) (+ℤ_idr j)

pub inner_sqrt2_left : InnerRootLeft
unfolding sqrt2
inner_sqrt2_left c d h k j =
    let a = inner_add_left (λ i. c (i -ℤ pos 536870912)) (λ i. c (i -ℤ negsuc 536870911)) d j in
    let b = inner_left c d h k (pos 536870912) j in
    let e = inner_left c d h k (negsuc 536870911) j in
    omega (arith, ints)

pub inner_sqrt2_right : InnerRootRight
unfolding sqrt2
inner_sqrt2_right c d h k j =
    let a = inner_add_right c (λ i. d (i -ℤ pos 536870912)) (λ i. d (i -ℤ negsuc 536870911)) j in
    let b = inner_right c d h k (pos 536870912) j in
    let e = inner_right c d h k (negsuc 536870911) j in
    omega (arith, ints)

inner_root2_left : (a : ℕ) (c d : Number) → IsNumber c → IsNumber d → inner (root2 a c) d ≡ root2 a (inner c d)
unfolding root2
inner_root2_left zero c d h k = refl
inner_root2_left (suc a) c d h k = fun_ext (inner_sqrt2_left (root2 a c) d (root2_number a c h) k) ∙ ap sqrt2 (inner_root2_left a c d h k)

inner_root2_right : (a : ℕ) (c d : Number) → IsNumber c → IsNumber d → inner c (root2 a d) ≡ root2 a (inner c d)
unfolding root2
inner_root2_right zero c d h k = refl
inner_root2_right (suc a) c d h k = fun_ext (inner_sqrt2_right c (root2 a d) h (root2_number a d k)) ∙ ap sqrt2 (inner_root2_right a c d h k)

pub inner_roots : (a b : ℕ) (c d : Number) → IsNumber c → IsNumber d → inner (root2 a c) (root2 b d) ≡ root2 (a + b) (inner c d)
inner_roots a b c d h k = inner_root2_left a c (root2 b d) h (root2_number b d k) ∙ ap (root2 a) (inner_root2_right b c d h k) ∙ sym (root2_add a b (inner c d))

-- ---- nothing on one side
pub inner_none_right : (c : Number) (j : ℤ) → inner c (λ i. pos 0) j ≡ pos 0
unfolding inner
inner_none_right c j = window_ext 2147483648 _ (λ i. pos 0) (λ i. *ℤ-zero (c i)) ∙ window_zero 2147483648

pub inner_none_left : (c : Number) (j : ℤ) → inner (λ i. pos 0) c j ≡ pos 0
unfolding inner
inner_none_left c j = window_ext 2147483648 _ (λ i. pos 0) (λ i. zero-*ℤ (c (i +ℤ j))) ∙ window_zero 2147483648
