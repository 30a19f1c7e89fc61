-- Sums without path variables.
use mathlib.Core.Path.{fun_ext}
use Rattle.std.proofs.Common.{◌≡◌, ℕ, ◌+◌, ◌^◌, refl, ap, ap₂, sym, ◌∙◌, arith, [], ◌∷◌, length}
use Rattle.std.proofs.Math.IntN.{ℤ, pos, ◌-ℤ◌, ◌*ℤ◌}
use Rattle.std.proofs.lemmas.Int.{ints}
use Rattle.ps_ring.specs.Numbers.{Number, one, when, root2}
use Rattle.ps_ring.specs.Sums.{total, PathValues, signed_count}
use Rattle.ps_ring.proofs.Turned.{one_number, turned_same}
use Rattle.ps_ring.proofs.Roots.{root2_even, same_from}
use Rattle.ps_ring.proofs.StepLaws.{signed_number}
use Rattle.ps_prim.specs.Amplitudes.{Truths, same_bits, amplitude, turns}
use Rattle.ps_ring.specs.Joins.{PlainSum}
use Rattle.ps_prim.specs.SumLaws.{PlainDenotes, IdentityDenotes}
use Rattle.ps_prim.proofs.Columns.{amplitude_number}
use Rattle.ps_prim.proofs.Plains.{plain_empty}

root2_none : (c : Number) (j : ℤ) → c j ≡ root2 0 c j
unfolding root2
root2_none c j = refl

pub one_path : (m : ℕ) → m ≡ 0 → (F : Truths → ℤ) → total m F ≡ F []
unfolding total
one_path m e F = ap (λ k. total k F) e

no_path : (m : ℕ) → m ≡ 0 → (y : Truths) → length y ≡ m → y ≡ []
no_path m e [] l = refl
no_path m e (b ∷ y) l = absurd (omega arith)

plain_count : (n : ℕ) (f : Truths → Truths) (P : Truths → ℕ) (S : PathValues) → PlainSum n f P S → (x z : Truths) → length x ≡ n → (j : ℤ) → signed_count S x z j ≡ when (same_bits (f x) z) (one (j -ℤ pos (P x)))
unfolding signed_count
plain_count n f P S s x z lx j = one_path S.m s.m_is _ ∙ ap₂ (λ o v. when (same_bits o z) v) (s.outs_is x lx) (turned_same one one_number _ _ (s.phase_is x lx) j)

pub plain_denotes : PlainDenotes
plain_denotes n A f P S h s = record {
  width = λ x y lx ly. ap (λ w. length (S.outs x w)) (no_path S.m s.m_is y ly) ∙ ap length (s.outs_is x lx) ∙ h.width x lx;
  same = λ x z lx.
      let even : root2 (turns A + turns A) (signed_count S x z) ≡ root2 0 (amplitude A x z)
      = fun_ext (λ j. root2_even (turns A) (signed_count S x z) (signed_number S x z) j ∙ ap (λ v. pos (2 ^ turns A) *ℤ v) (plain_count n f P S s x z lx j) ∙ sym (h.value x z lx j) ∙ root2_none (amplitude A x z) j) in
      same_from S.k (pos (turns A + turns A)) (turns A + turns A) 0 _ _ (signed_number S x z) (amplitude_number A x z) (omega (arith, ints, s.k_is)) even;
}

pub identity_denotes : IdentityDenotes
identity_denotes n S s = plain_denotes n [] (λ x. x) (λ x. 0) S (plain_empty n) s
