-- Two columns are equal or differ somewhere: their difference has an inner product with itself that is 0 or not.
use Rattle.std.proofs.Common.{◌≡◌, ◌≢◌, ℕ, zero, suc, ◌^◌, refl, ap, ◌∙◌, arith, true, false, List, [], ◌∷◌, length, ◌⊎◌, inl, inr}
use Rattle.std.proofs.Math.IntN.{ℤ, pos, negsuc, ◌+ℤ◌, ◌*ℤ◌, neg_ℤ, zero-*ℤ}
use Rattle.std.proofs.lemmas.Int.{ints}
use Rattle.ps_ring.specs.Numbers.{IsNumber}
use Rattle.ps_ring.specs.Inner.{window, inner}
use Rattle.ps_ring.specs.Sums.{total}
use Rattle.ps_ring.proofs.Products.{mul_opposite}
use Rattle.ps_prim.specs.declared.prims.Primitive.{Primitive as Prim}
use Rattle.ps_prim.specs.Amplitudes.{Truths, Column, amplitude, turns}
use Rattle.ps_prim.specs.Maps.{SameAt, DiffersAt}
use Rattle.ps_prim.specs.Columns.{inner_over}
use Rattle.ps_prim.proofs.Columns.{amplitude_number}
use Rattle.ps_prim.proofs.Equal.{column_none, difference_number, apart_none}

none_or_some : (a : ℤ) → (a ≡ pos 0) ⊎ (a ≢ pos 0)
none_or_some (pos zero) = inl refl
none_or_some (pos (suc n)) = inr (λ e. absurd (omega (arith, ints)))
none_or_some (negsuc n) = inr (λ e. absurd (omega (arith, ints)))

-- a sum that is not 0 has a term that is not
window_some : (n : ℕ) (f : ℤ → ℤ) → window n f ≢ pos 0 → (i : ℤ) × (f i ≢ pos 0)
unfolding window
window_some zero f h = absurd (h refl)
window_some (suc n) f h = elim (none_or_some (f (pos n))) [ inl e ↦ window_some n f (λ w. h (omega (arith, ints))) | inr d ↦ (pos n, d) ]

total_some : (m : ℕ) (F : Truths → ℤ) → total m F ≢ pos 0 → (z : Truths) × (length z ≡ m) × (F z ≢ pos 0)
unfolding total
total_some zero F h = ([], refl, h)
total_some (suc m) F h = elim (none_or_some (total m (λ y. F (false ∷ y)))) [
  | inl e ↦ let r = total_some m (λ y. F (true ∷ y)) (λ w. h (omega (arith, ints))) in (true ∷ r.0, ap suc r.1, r.2)
  | inr d ↦ let r = total_some m (λ y. F (false ∷ y)) d in (false ∷ r.0, ap suc r.1, r.2)
]

column_some : (n : ℕ) (v : Column) → inner_over n v v (pos 0) ≢ pos 0 → (z : Truths) × (length z ≡ n) × ((j : ℤ) × (v z j ≢ pos 0))
unfolding inner_over inner
column_some n v h =
    let r = total_some n (λ z. inner (v z) (v z) (pos 0)) h in
    let s = window_some 2147483648 (λ i. v r.0 i *ℤ v r.0 (i +ℤ pos 0)) r.2 in
    (r.0, r.1, (s.0, λ e. s.1 (ap (λ k. k *ℤ v r.0 (s.0 +ℤ pos 0)) e ∙ zero-*ℤ (v r.0 (s.0 +ℤ pos 0)))))

equal_none : (a b q : ℤ) → a ≡ q *ℤ b → a +ℤ neg_ℤ q *ℤ b ≡ pos 0
equal_none a b q e = let m = mul_opposite q b in omega (arith, ints)

pub columns_same_or_differ : (n : ℕ) (p q : ℤ) (v w : Column) → ((z : Truths) → IsNumber (v z)) → ((z : Truths) → IsNumber (w z))
    → ((z : Truths) → length z ≡ n → (j : ℤ) → p *ℤ v z j ≡ q *ℤ w z j) ⊎ ((z : Truths) × (length z ≡ n) × ((j : ℤ) × (p *ℤ v z j ≢ q *ℤ w z j)))
columns_same_or_differ n p q v w hv hw =
    let D : Column = λ z i. p *ℤ v z i +ℤ neg_ℤ q *ℤ w z i in
    elim (none_or_some (inner_over n D D (pos 0))) [
      | inl e ↦ inl (λ z lz j. apart_none (p *ℤ v z j) (w z j) q (column_none n D (λ y. difference_number p (neg_ℤ q) _ _ (hv y) (hw y)) e z lz j))
      | inr d ↦ let r = column_some n D d in inr (r.0, r.1, (r.2.0, λ e. r.2.1 (equal_none (p *ℤ v r.0 r.2.0) (w r.0 r.2.0) q e)))
    ]

pub same_or_differs : (n : ℕ) (A B : List Prim) (x : Truths) → SameAt n A B x ⊎ DiffersAt n A B x
same_or_differs n A B x = columns_same_or_differ n (pos (2 ^ turns B)) (pos (2 ^ turns A)) (amplitude A x) (amplitude B x) (amplitude_number A x) (amplitude_number B x)
