-- Columns that are equal up to a phase, and closed sums that stand for one.
use mathlib.Core.Path.{fun_ext}
use Rattle.std.proofs.Common.{◌≡◌, ℕ, ◌+◌, ◌*◌, ◌^◌, ap, sym, ◌∙◌, arith, length, [], inl, inr, List, pow-add}
use Rattle.std.proofs.Math.IntN.{ℤ, pos, ◌+ℤ◌, ◌-ℤ◌, ◌*ℤ◌, +ℤ_idr}
use Rattle.std.proofs.lemmas.Int.{ints}
use Rattle.ps_ring.specs.Numbers.{Number, IsNumber, one, root2, above}
use Rattle.ps_ring.specs.Inner.{inner}
use Rattle.ps_ring.specs.Sums.{PathValues, signed_count}
use Rattle.ps_ring.specs.Joins.{OverlapSum}
use Rattle.ps_ring.proofs.Turned.{one_number, turned_number, turned_same}
use Rattle.ps_ring.proofs.Ones.{one_first}
use Rattle.ps_ring.proofs.Roots.{root2_even, root2_cancel, same_from, same_path, same_trans, same_sym}
use Rattle.ps_ring.proofs.Inners.{inner_turned}
use Rattle.ps_ring.proofs.Totals.{total_ext}
use Rattle.ps_ring.proofs.StepLaws.{signed_number}
use Rattle.ps_prim.specs.declared.prims.Primitive.{Primitive as Prim}
use Rattle.ps_prim.specs.Amplitudes.{Truths, Column, amplitude, turns}
use Rattle.ps_prim.specs.Maps.{AllWithin}
use Rattle.ps_prim.specs.Columns.{inner_over}
use Rattle.ps_prim.specs.Sums.{Denotes}
use Rattle.ps_prim.specs.Overlaps.{IsTurn, OverlapTurn, OverlapNoTurn}
use Rattle.ps_prim.specs.Closed.{ZeroIsNoTurn, PlainIsTurn, TurnIsPlain}
use Rattle.ps_prim.proofs.Columns.{amplitude_number}
use Rattle.ps_prim.proofs.Equal.{own, times_one, own_first, columns_equal}
use Rattle.ps_prim.proofs.Different.{equal_inner, same_scaled_even, one_turned, phase_is_turn}
use Rattle.ps_prim.proofs.Deciding.{columns_same_or_differ}
use Rattle.ps_prim.proofs.Overlaps.{overlap_denotes, over_number, same_zero}
use Rattle.ps_prim.proofs.ClosedSums.{alone, nothing, nothing_number, root2_nothing}

-- ---- a column turned by a phase
turned : ℕ → Column → Column
turned p v z j = v z (j -ℤ pos p)

turned_column : (p : ℕ) (v : Column) → ((z : Truths) → IsNumber (v z)) → (z : Truths) → IsNumber (turned p v z)
unfolding turned
turned_column p v h z j = turned_number (v z) (h z) (pos p) j

back : (j : ℤ) (p : ℕ) → j +ℤ pos p -ℤ pos p ≡ j
back j p = omega (arith, ints)

-- both turned
turned_both : (n p : ℕ) (v w : Column) → ((z : Truths) → IsNumber (v z)) → ((z : Truths) → IsNumber (w z)) → (j : ℤ) → inner_over n (turned p v) (turned p w) j ≡ inner_over n v w j
unfolding inner_over turned
turned_both n p v w h k j = total_ext n _ _ (λ z l. inner_turned (v z) (w z) (h z) (k z) (pos p) (pos p) j ∙ ap (inner (v z) (w z)) (back j p))

-- the first turned
turned_first : (n p : ℕ) (v w : Column) → ((z : Truths) → IsNumber (v z)) → ((z : Truths) → IsNumber (w z)) → (j : ℤ) → inner_over n (turned p v) w j ≡ inner_over n v w (j +ℤ pos p)
unfolding inner_over turned
turned_first n p v w h k j = total_ext n _ _ (λ z l.
    ap (λ (d : Number). inner (λ i. v z (i -ℤ pos p)) d j) (fun_ext (λ i. ap (w z) (sym (+ℤ_idr i))))
    ∙ inner_turned (v z) (w z) (h z) (k z) (pos p) (pos 0) j ∙ ap (inner (v z) (w z)) (+ℤ_idr (j +ℤ pos p)))

-- ---- overlaps
-- the inner product of both columns is the phase, as far as it is scaled
inner_is_turn : (n : ℕ) (S1 S2 S : PathValues) (A B : List Prim) → OverlapSum n S1 S2 S → Denotes n S1 A → Denotes n S2 B → (x : Truths) → length x ≡ n → (p : ℕ) → IsTurn S x p
    → (j : ℤ) → inner_over n (amplitude A x) (amplitude B x) j ≡ pos (2 ^ (turns A + turns B)) *ℤ one (j -ℤ pos p)
inner_is_turn n S1 S2 S A B e d1 d2 x l p h j =
    let u : ℕ = (turns A + turns A) + (turns B + turns B) in
    let d : Number = λ i. one (i -ℤ pos p) in
    let nI = over_number n (amplitude A x) (amplitude B x) (amplitude_number B x) in
    let even : u ≡ (turns A + turns B) + (turns A + turns B) = omega arith in
    let t = same_trans (pos u) S.k (pos 0) _ _ _ nI (one_turned p) (same_sym S.k (pos u) _ _ (overlap_denotes n S1 S2 S A B e d1 d2 x l)) h in
    same_zero u _ _ t j ∙ ap (λ k. root2 k d j) even ∙ root2_even (turns A + turns B) d (one_turned p) j

at_start : (p : ℕ) → pos 0 +ℤ pos p -ℤ pos p ≡ pos 0
at_start p = omega (arith, ints)

pub overlap_turn : OverlapTurn
unfolding turned
overlap_turn n S1 S2 S A B e d1 d2 hA hB x l p h z lz j =
    let q = 2 ^ turns A in
    let vw : inner_over n (turned p (amplitude A x)) (amplitude B x) (pos 0) ≡ pos (q * 2 ^ turns B)
    = turned_first n p (amplitude A x) (amplitude B x) (amplitude_number A x) (amplitude_number B x) (pos 0) ∙ inner_is_turn n S1 S2 S A B e d1 d2 x l p h (pos 0 +ℤ pos p)
    ∙ ap (λ r. pos (2 ^ (turns A + turns B)) *ℤ one r) (at_start p) ∙ times_one _ ∙ ap pos (pow-add 2 (turns A) (turns B)) in
    sym (columns_equal n (2 ^ turns B) q (turned p (amplitude A x)) (amplitude B x) (turned_column p (amplitude A x) (amplitude_number A x)) (amplitude_number B x)
    (turned_both n p (amplitude A x) (amplitude A x) (amplitude_number A x) (amplitude_number A x) (pos 0) ∙ own_first n A x hA l) (own_first n B x hB l) vw z lz j)

forth : (j : ℤ) (p : ℕ) → j ≡ j -ℤ pos p +ℤ pos p
forth j p = omega (arith, ints)

-- where the one column is the other turned, the overlap is the phase
overlap_turned : (n : ℕ) (S1 S2 S : PathValues) (A B : List Prim) → OverlapSum n S1 S2 S → Denotes n S1 A → Denotes n S2 B → AllWithin n B → (x : Truths) → length x ≡ n → (p : ℕ)
    → ((z : Truths) → length z ≡ n → (j : ℤ) → pos (2 ^ turns B) *ℤ turned p (amplitude A x) z j ≡ pos (2 ^ turns A) *ℤ amplitude B x z j) → IsTurn S x p
overlap_turned n S1 S2 S A B e d1 d2 hB x l p s =
    let I = inner_over n (amplitude A x) (amplitude B x) in
    let nI = over_number n (amplitude A x) (amplitude B x) (amplitude_number B x) in
    let inner_is : (j : ℤ) → I j ≡ pos (2 ^ (turns A + turns B)) *ℤ one (j -ℤ pos p)
    = λ j. ap I (forth j p) ∙ sym (turned_first n p (amplitude A x) (amplitude B x) (amplitude_number A x) (amplitude_number B x) (j -ℤ pos p))
    ∙ equal_inner n (turns A) (turns B) (turned p (amplitude A x)) (amplitude B x) s (j -ℤ pos p) (own n B x hB l (j -ℤ pos p)) in
    same_trans S.k (pos ((turns A + turns A) + (turns B + turns B))) (pos 0) _ I _ (signed_number S x []) (one_turned p) (overlap_denotes n S1 S2 S A B e d1 d2 x l)
    (same_scaled_even (turns A) (turns B) I (λ j. one (j -ℤ pos p)) nI (one_turned p) inner_is)

pub overlap_no_turn : OverlapNoTurn
unfolding turned
overlap_no_turn n S1 S2 S A B e d1 d2 hA hB x l p other =
    elim (columns_same_or_differ n (pos (2 ^ turns B)) (pos (2 ^ turns A)) (turned p (amplitude A x)) (amplitude B x) (turned_column p (amplitude A x) (amplitude_number A x)) (amplitude_number B x)) [
      | inl s ↦ absurd (other (overlap_turned n S1 S2 S A B e d1 d2 hB x l p s))
      | inr d ↦ (d.0, d.1, (d.2.0, λ w. d.2.1 (sym w)))
    ]

-- ---- closed sums
pub zero_is_no_turn : ZeroIsNoTurn
unfolding nothing
zero_is_no_turn S x p h o =
    let Q : Number = λ j. one (j -ℤ pos p) in
    let c : signed_count S x [] ≡ nothing = fun_ext h in
    let r : root2 (above (pos 0) S.k) nothing ≡ root2 (above (pos 0) S.k) Q
    = root2_nothing (above (pos 0) S.k) ∙ sym (root2_nothing (above S.k (pos 0))) ∙ ap (root2 (above S.k (pos 0))) (sym c) ∙ same_path S.k (pos 0) (signed_count S x []) Q o in
    let e : pos 0 ≡ pos 1 = ap (λ (u : Number). u (pos p)) (root2_cancel (above (pos 0) S.k) nothing Q nothing_number (one_turned p) r) ∙ ap one (there p) ∙ one_first in
    cc
  where
    there : (p : ℕ) → pos p -ℤ pos p ≡ pos 0
    there p = omega (arith, ints)

pub plain_is_turn : PlainIsTurn
unfolding root2
plain_is_turn S x p m o k e =
    same_from S.k (pos 0) 0 0 (signed_count S x []) (λ j. one (j -ℤ pos p)) (signed_number S x []) (one_turned p) (ap (λ r. pos 0 +ℤ r) k)
    (fun_ext (λ j. alone S x m o j ∙ turned_same one one_number (S.phase x []) p e j))

pub turn_is_plain : TurnIsPlain
turn_is_plain S x p m o h =
    let c : signed_count S x [] ≡ (λ j. one (j -ℤ pos (S.phase x []))) = fun_ext (alone S x m o) in
    phase_is_turn S.k (S.phase x []) p (λ j. ap (λ u. root2 (above S.k (pos 0)) u j) (sym c) ∙ h j)
