-- Lists of prims that only permute the basis inputs and turn phases.
use Rattle.std.proofs.Common.{◌≡◌, ◌≢◌, ℕ, zero, suc, refl, ap, ap₂, sym, ◌∙◌, arith, ◌<◌, ◌+◌, ◌*◌, ◌%◌, ◌^◌, cond, Bool, true, false, List, [], ◌∷◌, length, set, pow_pos, add-zero}
use Rattle.std.proofs.Math.IntN.{ℤ, pos, ◌+ℤ◌, ◌-ℤ◌, ◌*ℤ◌, neg_ℤ, *ℤ_comm, *ℤ-zero, +ℤ_idr}
use Rattle.std.proofs.lemmas.Int.{ints}
use Rattle.std.proofs.lemmas.List.{set-get_or}
use Rattle.ps_ring.specs.Numbers.{Number, IsNumber, one, when}
use Rattle.ps_ring.proofs.Products.{mul_assoc_z, mul_cancel}
use Rattle.ps_ring.proofs.Turned.{one_number, turned_same}
use Rattle.ps_ring.proofs.Whens.{when_equal, when-true, when-false}
use Rattle.ps_ring.proofs.Roots.{twice_power}
use Rattle.ps_ring.proofs.Ones.{one_first, phases_meet}
use Rattle.ps_prim.specs.declared.prims.Primitive.{Primitive as Prim}
use Rattle.ps_prim.specs.declared.prims.Primitive.TheVariants.{U, Cx}
use Rattle.ps_prim.specs.Amplitudes.{Truths, Column, bit, same_bits, first_phase, second_phase, entry, exchanged, act, run, start, amplitude, turns}
use Rattle.ps_prim.specs.Plain.{IsPlain, PlainEmpty, PlainCx, PlainTurn, PlainSame, PlainOutputDiffers, PlainPhaseDiffers}
use Rattle.ps_prim.proofs.Appended.{amplitude-last, turns-append}
use Rattle.ps_prim.proofs.Bits.{same_bits-refl, same_bits-true, same_bits-false, length-exchanged, same_bits-exchanged}
use Rattle.ps_prim.proofs.Columns.{amplitude_number}

one_times : (k : ℤ) → k ≡ pos 1 *ℤ k
one_times k = omega (arith, ints)

pub plain_empty : PlainEmpty
unfolding amplitude run start turns
plain_empty n = record {
  width = λ x lx. lx;
  value = λ x z lx j. ap (λ i. when (same_bits x z) (one i)) (sym (+ℤ_idr j)) ∙ one_times _;
}

pub plain_cx : PlainCx
unfolding act turns
plain_cx n A f P c t h hc ht d = record {
  width = λ x lx. length-exchanged c t (f x) ∙ h.width x lx;
  value = λ x z lx j.
      let k : t < length (f x) = omega (arith, h.width x lx) in
      ap (λ v. v z j) (amplitude-last A (Cx c t) x) ∙ h.value x (exchanged c t z) lx j
      ∙ ap₂ (λ b e. pos (2 ^ e) *ℤ when b (one (j -ℤ pos (P x)))) (same_bits-exchanged c t (f x) z k d) (sym (turns-append A (Cx c t ∷ []) ∙ add-zero (turns A)));
}

-- ---- U at theta 0
half_up : (c : Number) → IsNumber c → (i k : ℤ) → i ≡ k +ℤ pos 2147483648 → c i ≡ neg_ℤ (c k)
half_up c h i k e = ap c e ∙ h k

-- p where b is true, else 0
shift : Bool → ℤ → ℤ
shift true p = p
shift false p = pos 0

turn_row : (t f l : ℤ) → t ≡ pos 0 → (b : Bool) (u : Bool → Number) → ((r : Bool) → IsNumber (u r)) → (j : ℤ) → entry t f l b false (u false) j +ℤ entry t f l b true (u true) j ≡ u b (j -ℤ shift b (f +ℤ l)) +ℤ u b (j -ℤ shift b (f +ℤ l))
unfolding entry first_phase second_phase shift
turn_row t f l e false u h j =
    let a : u false (j -ℤ t) ≡ u false (j -ℤ pos 0) = ap (u false) (omega (arith, ints)) in
    let b : u false (j -ℤ neg_ℤ t) ≡ u false (j -ℤ pos 0) = ap (u false) (omega (arith, ints)) in
    let c : u true (j -ℤ (l -ℤ t -ℤ pos 1073741824)) ≡ neg_ℤ (u true (j -ℤ (l +ℤ t +ℤ pos 1073741824))) = half_up (u true) (h true) _ _ (omega (arith, ints)) in
    omega (arith, ints)
turn_row t f l e true u h j =
    let a : u true (j -ℤ (f +ℤ l +ℤ t)) ≡ u true (j -ℤ (f +ℤ l)) = ap (u true) (omega (arith, ints)) in
    let b : u true (j -ℤ (f +ℤ l -ℤ t)) ≡ u true (j -ℤ (f +ℤ l)) = ap (u true) (omega (arith, ints)) in
    let c : u false (j -ℤ (f +ℤ t -ℤ pos 1073741824)) ≡ neg_ℤ (u false (j -ℤ (f -ℤ t +ℤ pos 1073741824))) = half_up (u false) (h false) _ _ (omega (arith, ints)) in
    omega (arith, ints)

shift_is : (b : Bool) (m n : ℕ) → shift b (pos m +ℤ pos n) ≡ pos (cond b (m + n) 0)
unfolding shift
shift_is true m n = omega (arith, ints)
shift_is false m n = refl

-- each amplitude stands doubled and turned by its own bit
act_turn : (phi lambda q : ℕ) (v : Column) → ((z : Truths) → IsNumber (v z)) → (z : Truths) (j : ℤ) → act (U 0 phi lambda q) v z j ≡ v z (j -ℤ pos (cond (bit z q) (2 * phi + 2 * lambda) 0)) +ℤ v z (j -ℤ pos (cond (bit z q) (2 * phi + 2 * lambda) 0))
unfolding act
act_turn phi lambda q v h z j =
    turn_row (pos 0) (pos (2 * phi)) (pos (2 * lambda)) refl (bit z q) (λ r. v (set z q r)) (λ r. h (set z q r)) j
    ∙ ap₂ (λ (y : Truths) p. v y (j -ℤ p) +ℤ v y (j -ℤ p)) (set-get_or z q false) (shift_is (bit z q) (2 * phi) (2 * lambda))

pub plain_turn : PlainTurn
unfolding turns
plain_turn n A f P phi lambda q h = record {
  width = h.width;
  value = λ x z lx j.
      let r : amplitude A x z (j -ℤ pos (cond (bit z q) (2 * phi + 2 * lambda) 0)) ≡ pos (2 ^ turns A) *ℤ when (same_bits (f x) z) (one (j -ℤ pos (P x + cond (bit (f x) q) (2 * phi + 2 * lambda) 0)))
      = h.value x z lx _ ∙ ap (λ w. pos (2 ^ turns A) *ℤ w) (when_equal (same_bits (f x) z) _ _ (λ e.
      ap (λ y. one (j -ℤ pos (cond (bit y q) (2 * phi + 2 * lambda) 0) -ℤ pos (P x))) (sym (same_bits-true (f x) z e)) ∙ ap one (omega (arith, ints)))) in
      ap (λ v. v z j) (amplitude-last A (U 0 phi lambda q) x) ∙ act_turn phi lambda q (amplitude A x) (amplitude_number A x) z j ∙ ap₂ (λ a b. a +ℤ b) r r
      ∙ sym (twice_power (turns A) _) ∙ ap (λ e. pos (2 ^ e) *ℤ when (same_bits (f x) z) (one (j -ℤ pos (P x + cond (bit (f x) q) (2 * phi + 2 * lambda) 0)))) (suc_is (turns A) ∙ sym (turns-append A (U 0 phi lambda q ∷ [])));
}
  where
    suc_is : (k : ℕ) → suc k ≡ k + (0 + 1)
    suc_is k = omega arith

-- ---- other functions with the same values
pub plain_equal : (n : ℕ) (A : List Prim) (f g : Truths → Truths) (P Q : Truths → ℕ) → IsPlain n A f P → ((x : Truths) → length x ≡ n → f x ≡ g x) → ((x : Truths) → length x ≡ n → P x % 4294967296 ≡ Q x % 4294967296) → IsPlain n A g Q
plain_equal n A f g P Q h e d = record {
  width = λ x lx. ap length (sym (e x lx)) ∙ h.width x lx;
  value = λ x z lx j. h.value x z lx j ∙ ap₂ (λ y r. pos (2 ^ turns A) *ℤ when (same_bits y z) r) (e x lx) (turned_same one one_number (P x) (Q x) (d x lx) j);
}

-- ---- two lists
crossed : (a b : ℕ) (w : ℤ) → pos b *ℤ (pos a *ℤ w) ≡ pos a *ℤ (pos b *ℤ w)
crossed a b w = sym (mul_assoc_z (pos b) (pos a) w) ∙ ap (λ r. r *ℤ w) (*ℤ_comm (pos b) (pos a)) ∙ mul_assoc_z (pos a) (pos b) w

pub plain_same : PlainSame
plain_same n A B f g P Q h k e d x lx z lz j =
    ap (λ r. pos (2 ^ turns B) *ℤ r) ((plain_equal n A f g P Q h e d).value x z lx j) ∙ crossed (2 ^ turns A) (2 ^ turns B) _ ∙ ap (λ r. pos (2 ^ turns A) *ℤ r) (sym (k.value x z lx j))

-- the amplitude at the output itself, as far as it is turned
at_own : (n : ℕ) (A : List Prim) (f : Truths → Truths) (P : Truths → ℕ) → IsPlain n A f P → (x : Truths) → length x ≡ n → amplitude A x (f x) (pos (P x)) ≡ pos (2 ^ turns A) *ℤ pos 1
at_own n A f P h x lx =
    h.value x (f x) lx (pos (P x)) ∙ ap (λ b. pos (2 ^ turns A) *ℤ when b (one (pos (P x) -ℤ pos (P x)))) (same_bits-refl (f x))
    ∙ ap (λ r. pos (2 ^ turns A) *ℤ r) (when-true _ ∙ ap one (omega (arith, ints)) ∙ one_first)

no_zero : (a b : ℕ) → 0 < a → 0 < b → pos b *ℤ (pos a *ℤ pos 1) ≢ pos 0
no_zero (suc a) (suc b) h k e = omega (arith, ints)
no_zero zero b h k e = omega arith
no_zero (suc a) zero h k e = omega arith

pub plain_output_differs : PlainOutputDiffers
plain_output_differs n A B f g P Q h k x lx d = (
  f x,
  h.width x lx,
  (
    pos (P x),
    λ e. no_zero (2 ^ turns A) (2 ^ turns B) (pow_pos (turns A)) (pow_pos (turns B))
        (ap (λ r. pos (2 ^ turns B) *ℤ r) (sym (at_own n A f P h x lx)) ∙ e
        ∙ ap (λ r. pos (2 ^ turns A) *ℤ r) (k.value x (f x) lx (pos (P x)) ∙ ap (λ b. pos (2 ^ turns B) *ℤ when b (one (pos (P x) -ℤ pos (Q x)))) (same_bits-false (g x) (f x) (λ s. d (sym s))) ∙ ap (λ r. pos (2 ^ turns B) *ℤ r) (when-false _) ∙ *ℤ-zero (pos (2 ^ turns B))) ∙ *ℤ-zero (pos (2 ^ turns A))),
  ),
)

pub plain_phase_differs : PlainPhaseDiffers
plain_phase_differs n A B f g P Q h k x lx s d = (
  f x,
  h.width x lx,
  (
    pos (P x),
    λ e.
        let r : pos (2 ^ turns A) *ℤ (pos (2 ^ turns B) *ℤ pos 1) ≡ pos (2 ^ turns A) *ℤ (pos (2 ^ turns B) *ℤ one (pos (P x) -ℤ pos (Q x)))
        = crossed (2 ^ turns B) (2 ^ turns A) (pos 1) ∙ ap (λ r. pos (2 ^ turns B) *ℤ r) (sym (at_own n A f P h x lx)) ∙ e
        ∙ ap (λ r. pos (2 ^ turns A) *ℤ r) (k.value x (f x) lx (pos (P x)) ∙ ap (λ y. pos (2 ^ turns B) *ℤ when (same_bits y (f x)) (one (pos (P x) -ℤ pos (Q x)))) (sym s)
        ∙ ap (λ b. pos (2 ^ turns B) *ℤ when b (one (pos (P x) -ℤ pos (Q x)))) (same_bits-refl (f x)) ∙ ap (λ r. pos (2 ^ turns B) *ℤ r) (when-true _)) in
        d (phases_meet (P x) (Q x) (sym (mul_cancel (2 ^ turns B) _ _ (pow_pos (turns B)) (mul_cancel (2 ^ turns A) _ _ (pow_pos (turns A)) r)))),
  ),
)
