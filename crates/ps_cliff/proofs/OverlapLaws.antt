-- The overlap of quadratic sums is quadratic.
use Rattle.std.proofs.Common.{◌≡◌, ℕ, zero, suc, ◌+◌, ◌*◌, ◌%◌, refl, ap, ap₂, sym, ◌∙◌, subst, arith, ◌≤◌, Bool, true, false, ◌&&◌, cond, List, [], ◌∷◌, ◌++◌}
use mathlib.Core.Bool.{xor}
use Rattle.ps_ring.specs.Truths.{Truths, bit}
use Rattle.ps_ring.specs.Readings.{Assignment, taken}
use Rattle.ps_ring.specs.Joins.{pairing}
use Rattle.ps_mono.specs.Truth.{times, differ}
use Rattle.ps_bool.specs.Polys.{bool_value}
use Rattle.ps_phase.specs.Phases.{phase_value}
use Rattle.ps_sum.specs.Outs.{values}
use Rattle.ps_sum.specs.Forms.{AllPolys}
use Rattle.ps_sum.specs.declared.sums.PathSum.{PathSum}
use Rattle.ps_sum.proofs.Uniqueness.{phase_read, taken_length, taken_apart}
use Rattle.ps_overlap.specs.Overlapping.{IsOverlapOf}
use Rattle.ps_cliff.specs.Quadratics.{AreAffine, IsQuadratic}
use Rattle.ps_cliff.specs.Laws.{OverlapsStay}
use Rattle.ps_cliff.proofs.Values.{Turns, turns_same, turns_add, turns_scale, turns_constant, turns_both, turns_back, Parity, parity_add, parity_variable}
use Rattle.ps_cliff.proofs.Substitution.{Substitution, turns_substituted, parity_substituted}
use Rattle.ps_cliff.proofs.Outputs.{turns_of, outs_read, parity_taken}

-- ---- the pairing
paired : (w x y : Bool) → times (w && differ x y) 2147483648 ≡ cond (w && xor x y) 2147483648 0
unfolding times differ xor
paired true true true = refl
paired true true false = refl
paired true false true = refl
paired true false false = refl
paired false x y = refl

turns_pairing : (fs gs : List (List (List ℕ))) (s : Substitution) (lo n : ℕ) → lo + n ≤ 512 → AllPolys fs → AreAffine fs → AreAffine gs → ((v : ℕ) → Parity (s v)) → Turns (λ a. pairing (taken lo n a) (values fs a) (values gs (λ v. s v a)))
unfolding pairing taken values
turns_pairing fs gs s lo zero l p q r h = turns_constant 0
turns_pairing [] gs s lo (suc n) l p q r h = turns_constant 0
turns_pairing (f ∷ fs) [] s lo (suc n) l p q r h = turns_constant 0
turns_pairing (f ∷ fs) (g ∷ gs) s lo (suc n) l p q r h = turns_add (λ a. cond (a lo && xor (bool_value f a) (bool_value g (λ v. s v a))) 2147483648 0) (λ a. pairing (taken (suc lo) n a) (values fs a) (values gs (λ v. s v a)))
    (turns_same (λ a. times (a lo && differ (bool_value f a) (bool_value g (λ v. s v a))) 2147483648) _ (λ a. ap (λ k. k % 4294967296) (paired (a lo) (bool_value f a) (bool_value g (λ v. s v a))))
    (turns_both (λ a. a lo) (λ a. differ (bool_value f a) (bool_value g (λ v. s v a))) (parity_variable lo (omega arith))
    (parity_add (bool_value f) (λ a. bool_value g (λ v. s v a)) (record { monos = f; form = p.0; linear = q.0; value = λ a. refl }) (parity_substituted g s r.0 (λ v o. h v)))))
    (turns_pairing fs gs s (suc lo) n (omega arith) p.1 q.1 r.1 h)

-- ---- two rows of variables
parity_rows : (lo n at m v : ℕ) → lo + n ≤ 512 → at + m ≤ 512 → Parity (λ a. bit (taken lo n a ++ taken at m a) v)
unfolding taken
parity_rows lo zero at m v l k = parity_taken at m v k
parity_rows lo (suc n) at m zero l k = parity_variable lo (omega arith)
parity_rows lo (suc n) at m (suc v) l k = parity_rows (suc lo) n at m v (omega arith) k

-- what the second sum reads: the inputs, and its own path variables behind those of the first
moved : PathSum → PathSum → Substitution
moved S1 S2 v a = bit (taken 0 S1.n a ++ taken (S1.n + S1.m) S2.m a) v

-- the variables of an overlap
abbrev rows : ℕ → ℕ → ℕ → Assignment → Truths
rows n m1 m2 a = taken n m1 a ++ (taken (n + m1) m2 a ++ taken (n + m1 + m2) n a)

rows_are : (n m1 m2 : ℕ) (a : Assignment) → taken n (m1 + (m2 + n)) a ≡ rows n m1 m2 a
rows_are n m1 m2 a = taken_apart n m1 (m2 + n) a ∙ ap (λ (t : Truths). taken n m1 a ++ t) (taken_apart (n + m1) m2 n a)

module _ {S1 S2 S : PathSum} (i : IsOverlapOf S1 S2 S) where
  all_named : S1.n + (S1.m + (S2.m + S1.n)) ≤ 512
  all_named = let w : S.n + S.m ≤ 512 = S.named in omega (arith, i.qubits_are, i.overlaps.m_is)

  overlap_phase : (a : Assignment) → (phase_value S.phase a + phase_value S1.phase a) % 4294967296
      ≡ (phase_value S2.phase (λ v. moved S1 S2 v a) + pairing (taken (S1.n + S1.m + S2.m) S1.n a) (values S1.outs a) (values S2.outs (λ v. moved S1 S2 v a))) % 4294967296
  unfolding moved
  overlap_phase a =
      ap₂ (λ (p r : ℕ). (p + r) % 4294967296)
      (phase_read S.n S.m S.phase S.phase_below a ∙ ap₂ (λ (n m : ℕ). phase_value S.phase (bit (taken 0 n a ++ taken n m a))) i.qubits_are i.overlaps.m_is ∙ ap (λ (t : Truths). phase_value S.phase (bit (taken 0 S1.n a ++ t))) (rows_are S1.n S1.m S2.m a))
      (phase_read S1.n S1.m S1.phase S1.phase_below a)
      ∙ i.overlaps.phase_is (taken 0 S1.n a) (taken S1.n S1.m a) (taken (S1.n + S1.m) S2.m a) (taken (S1.n + S1.m + S2.m) S1.n a) (taken_length 0 S1.n a) (taken_length S1.n S1.m a) (taken_length (S1.n + S1.m) S2.m a) (taken_length (S1.n + S1.m + S2.m) S1.n a)
      ∙ ap (λ (t : Truths). (phase_value S2.phase (bit (taken 0 S1.n a ++ taken (S1.n + S1.m) S2.m a)) + pairing (taken (S1.n + S1.m + S2.m) S1.n a) t (values S2.outs (bit (taken 0 S1.n a ++ taken (S1.n + S1.m) S2.m a)))) % 4294967296) (sym (outs_read S1.n S1.m S1.outs S1.outs_below a))

  moved_affine : (v : ℕ) → Parity (moved S1 S2 v)
  unfolding moved
  moved_affine v = let w = all_named in parity_rows 0 S1.n (S1.n + S1.m) S2.m v (omega arith) (omega arith)

  less : (p q r : ℕ) → (p + q) % 4294967296 ≡ r % 4294967296 → (r + 4294967295 * q) % 4294967296 ≡ p % 4294967296
  less p q r h = omega (arith, h)

  overlap_turns : IsQuadratic S1 → IsQuadratic S2 → Turns (phase_value S.phase)
  overlap_turns p q = turns_same (λ a. phase_value S2.phase (λ v. moved S1 S2 v a) + pairing (taken (S1.n + S1.m + S2.m) S1.n a) (values S1.outs a) (values S2.outs (λ v. moved S1 S2 v a)) + 4294967295 * phase_value S1.phase a) (phase_value S.phase)
      (λ a. less (phase_value S.phase a) (phase_value S1.phase a) _ (overlap_phase a))
      (turns_add _ (λ a. 4294967295 * phase_value S1.phase a)
      (turns_add (λ a. phase_value S2.phase (λ v. moved S1 S2 v a)) (λ a. pairing (taken (S1.n + S1.m + S2.m) S1.n a) (values S1.outs a) (values S2.outs (λ v. moved S1 S2 v a)))
      (turns_substituted S2.phase (moved S1 S2) q.terms (λ v o. moved_affine v))
      (turns_pairing S1.outs S2.outs (moved S1 S2) (S1.n + S1.m + S2.m) S1.n (let w = all_named in omega arith) S1.formed.1 p.outputs q.outputs moved_affine))
      (turns_scale 4294967295 (phase_value S1.phase) (turns_of S1 p)))

  no_outputs : AreAffine S.outs
  no_outputs = subst AreAffine (sym i.no_outs) tt

pub overlaps_stay : OverlapsStay
overlaps_stay S1 S2 S p q i = record {
  terms = turns_back S.phase S.formed.0 (overlap_turns i p q);
  outputs = no_outputs i;
}
