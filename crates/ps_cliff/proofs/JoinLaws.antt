-- A join of quadratic sums is quadratic.
use Rattle.std.proofs.Common.{◌≡◌, ℕ, ◌+◌, ◌%◌, ap, ap₂, sym, ◌∙◌, arith, ◌≤◌, ◌++◌}
use Rattle.ps_ring.specs.Truths.{Truths, bit}
use Rattle.ps_ring.specs.Readings.{Assignment, taken}
use Rattle.ps_phase.specs.Phases.{phase_value}
use Rattle.ps_sum.specs.Outs.{values}
use Rattle.ps_sum.specs.declared.sums.PathSum.{PathSum}
use Rattle.ps_sum.proofs.Uniqueness.{phase_read, taken_length, taken_apart}
use Rattle.ps_join.specs.Joining.{IsJoinOf}
use Rattle.ps_cliff.specs.Quadratics.{IsQuadratic}
use Rattle.ps_cliff.specs.Laws.{JoinsStay}
use Rattle.ps_cliff.proofs.Values.{turns_same, turns_add, turns_back, Parity}
use Rattle.ps_cliff.proofs.Substitution.{Substitution, turns_substituted}
use Rattle.ps_cliff.proofs.Outputs.{turns_of, outs_read, parity_row, parity_values, affine_as}

-- what the second sum reads: the outputs of the first, and its own path variables behind those of the first
second : PathSum → PathSum → Substitution
second S1 S2 v a = bit (values S1.outs a ++ taken (S1.n + S1.m) S2.m a) v

-- the variables of a join as inputs and the path variables of both
abbrev row : ℕ → ℕ → ℕ → Assignment → Truths
row n m1 m2 a = taken 0 n a ++ (taken n m1 a ++ taken (n + m1) m2 a)

row_is : (n m m1 m2 : ℕ) (a : Assignment) → m ≡ m1 + m2 → taken 0 n a ++ taken n m a ≡ row n m1 m2 a
row_is n m m1 m2 a e = ap (λ (k : ℕ). taken 0 n a ++ taken n k a) e ∙ ap (λ (t : Truths). taken 0 n a ++ t) (taken_apart n m1 m2 a)

sum_mod : (x y z : ℕ) → y ≡ z → (x + y) % 4294967296 ≡ (x + z) % 4294967296
sum_mod x y z e = ap (λ k. (x + k) % 4294967296) e

module _ {S1 S2 S : PathSum} (j : IsJoinOf S1 S2 S) where
  width : S.n + S.m ≤ 512
  width = S.named

  joined_phase : (a : Assignment) → phase_value S.phase a % 4294967296 ≡ (phase_value S1.phase a + phase_value S2.phase (λ v. second S1 S2 v a)) % 4294967296
  unfolding second
  joined_phase a =
      ap (λ k. k % 4294967296) (phase_read S.n S.m S.phase S.phase_below a ∙ ap (λ (n : ℕ). phase_value S.phase (bit (taken 0 n a ++ taken n S.m a))) j.n_is ∙ ap (λ t. phase_value S.phase (bit t)) (row_is S1.n S.m S1.m S2.m a j.values_are.m_is))
      ∙ j.values_are.phase_is (taken 0 S1.n a) (taken S1.n S1.m a) (taken (S1.n + S1.m) S2.m a) (taken_length 0 S1.n a) (taken_length S1.n S1.m a) (taken_length (S1.n + S1.m) S2.m a)
      ∙ ap₂ (λ (k : ℕ) (t : Truths). (k + phase_value S2.phase (bit (t ++ taken (S1.n + S1.m) S2.m a))) % 4294967296) (sym (phase_read S1.n S1.m S1.phase S1.phase_below a)) (sym (outs_read S1.n S1.m S1.outs S1.outs_below a))

  joined_outs : (a : Assignment) → values S.outs a ≡ values S2.outs (λ v. second S1 S2 v a)
  unfolding second
  joined_outs a =
      outs_read S.n S.m S.outs S.outs_below a ∙ ap (λ (n : ℕ). values S.outs (bit (taken 0 n a ++ taken n S.m a))) j.n_is ∙ ap (λ t. values S.outs (bit t)) (row_is S1.n S.m S1.m S2.m a j.values_are.m_is)
      ∙ j.values_are.outs_is (taken 0 S1.n a) (taken S1.n S1.m a) (taken (S1.n + S1.m) S2.m a) (taken_length 0 S1.n a) (taken_length S1.n S1.m a) (taken_length (S1.n + S1.m) S2.m a)
      ∙ ap (λ (t : Truths). values S2.outs (bit (t ++ taken (S1.n + S1.m) S2.m a))) (sym (outs_read S1.n S1.m S1.outs S1.outs_below a))

  second_affine : IsQuadratic S1 → (v : ℕ) → Parity (second S1 S2 v)
  unfolding second
  second_affine q v = parity_row S1.outs (S1.n + S1.m) S2.m v S1.formed.1 q.outputs (omega (arith, width, j.n_is, j.values_are.m_is))

pub joins_stay : JoinsStay
joins_stay S1 S2 S p q j = record {
  terms = turns_back S.phase S.formed.0 (turns_same (λ a. phase_value S1.phase a + phase_value S2.phase (λ v. second S1 S2 v a)) (phase_value S.phase) (λ a. sym (joined_phase j a))
      (turns_add (phase_value S1.phase) (λ a. phase_value S2.phase (λ v. second S1 S2 v a)) (turns_of S1 p) (turns_substituted S2.phase (second S1 S2) q.terms (λ v o. second_affine j p v))));
  outputs = affine_as S.outs (λ a. values S2.outs (λ v. second S1 S2 v a)) S.formed.1 (parity_values S2.outs (second S1 S2) q.outputs (λ v o. second_affine j p v)) (joined_outs j);
}
