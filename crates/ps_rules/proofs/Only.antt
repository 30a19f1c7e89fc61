-- The sum after a step is one.
use mathlib.Core.Path.{fun_ext}
use Rattle.std.proofs.Common.{◌≡◌, ℕ, ◌+◌, ◌%◌, ap, sym, ◌∙◌, arith, ◌++◌}
use Rattle.std.proofs.Math.IntN.{ℤ, pos, ◌+ℤ◌}
use Rattle.std.proofs.lemmas.Int.{ints}
use Rattle.std.proofs.lemmas.Bool.Decides.{nat_tests}
use Rattle.ps_phase.specs.Phases.{phase_value}
use Rattle.ps_ring.specs.Truths.{Truths, bit}
use Rattle.ps_ring.specs.Readings.{Assignment, opened, closed_up}
use Rattle.ps_sum.specs.declared.sums.PathSum.{PathSum}
use Rattle.ps_sum.specs.Names.{closed}
use Rattle.ps_sum.specs.Outs.{values}
use Rattle.ps_sum.proofs.Uniqueness.{sum_only}
use Rattle.ps_rules.specs.declared.steps.Step.{Step}
use Rattle.ps_rules.specs.declared.steps.Step.TheVariants.{Elim, Hh, Omega}
use Rattle.ps_rules.specs.Rules.{Lowered, Becomes, Applied}

closed_opened : (v w : ℕ) → closed v (opened v w) ≡ w
unfolding closed opened
closed_opened v w = grind (arith, nat_tests)

-- an assignment of the old variables whose names close up to b
pub closed_back : (v : ℕ) (b : Assignment) → closed_up v (λ u. b (closed v u)) ≡ b
closed_back v b = fun_ext (λ w. ap b (closed_opened v w))

one_phase : (A B : PathSum) (names : Assignment → Assignment) (P : Assignment → ℕ) (O : Assignment → Truths) (a b : Assignment) → names a ≡ b → Becomes A names P O → Becomes B names P O
    → phase_value A.phase b % 4294967296 ≡ phase_value B.phase b % 4294967296
one_phase A B names P O a b e p q = ap (λ c. phase_value A.phase c % 4294967296) (sym e) ∙ p.phase_is a ∙ sym (q.phase_is a) ∙ ap (λ c. phase_value B.phase c % 4294967296) e

one_outs : (A B : PathSum) (names : Assignment → Assignment) (P : Assignment → ℕ) (O : Assignment → Truths) (a b : Assignment) → names a ≡ b → Becomes A names P O → Becomes B names P O
    → values A.outs b ≡ values B.outs b
one_outs A B names P O a b e p q = ap (λ c. values A.outs c) (sym e) ∙ p.outs_is a ∙ sym (q.outs_is a) ∙ ap (λ c. values B.outs c) e

one_scale : (a b c k : ℤ) → a +ℤ k ≡ c → b +ℤ k ≡ c → a ≡ b
one_scale a b c k e f = omega (arith, ints)

one_sum : (S A B : PathSum) (m k : ℕ) (names : Assignment → Assignment) (P : Assignment → ℕ) (O : Assignment → Truths) → ((b : Assignment) → (a : Assignment) × (names a ≡ b))
    → Lowered S A m k → Lowered S B m k → Becomes A names P O → Becomes B names P O → A ≡ B
one_sum S A B m k names P O back l r p q = sum_only A B (record {
  n_is = l.n_is ∙ sym r.n_is;
  m_is = (let e = l.m_is in let f = r.m_is in omega arith);
  k_is = one_scale A.k B.k S.k (pos k) l.k_is r.k_is;
  phase_is = λ x y lx ly. let c = back (bit (x ++ y)) in one_phase A B names P O c.0 (bit (x ++ y)) c.1 p q;
  outs_is = λ x y lx ly. let c = back (bit (x ++ y)) in one_outs A B names P O c.0 (bit (x ++ y)) c.1 p q;
})

pub applied_only : (S A B : PathSum) (s : Step) → Applied S s A → Applied S s B → A ≡ B
applied_only S A B (Elim y0) (l, p) (r, q) = one_sum S A B 1 2 (closed_up (S.n + y0)) _ _ (λ b. (λ u. b (closed (S.n + y0) u), closed_back (S.n + y0) b)) l r p q
applied_only S A B (Hh y0 y1) (l, p) (r, q) =
    one_sum S A B 2 2 (λ a. closed_up (closed (S.n + y0) (S.n + y1)) (closed_up (S.n + y0) a)) _ _
    (λ b.
    let v = S.n + y0 in
    let w = closed (S.n + y0) (S.n + y1) in
    (λ u. b (closed w (closed v u)), ap (closed_up w) (closed_back v (λ u. b (closed w u))) ∙ closed_back w b)) l r p q
applied_only S A B (Omega y0) (l, p) (r, q) = one_sum S A B 1 1 (closed_up (S.n + y0)) _ _ (λ b. (λ u. b (closed (S.n + y0) u), closed_back (S.n + y0) b)) l r p q
