-- The sums of Clifford gates, and of no gate, are quadratic.
use Rattle.std.proofs.Common.{◌≡◌, ◌≢◌, ℕ, zero, suc, ◌+◌, ◌*◌, ◌/◌, ◌%◌, refl, ap, ap₂, sym, ◌∙◌, arith, ◌<◌, ◌≤◌, ◌⊎◌, inl, inr, Bool, true, false, ◌&&◌, cond, [], ◌∷◌, ◌++◌, set}
use Rattle.std.proofs.lemmas.Bool.{cases_lt, cases_eq}
use Rattle.std.proofs.lemmas.List.{get_or_past, get_or-set_same, get_or-set_other, length-set}
use Rattle.ps_ring.specs.Truths.{Truths, bit}
use Rattle.ps_ring.specs.Readings.{Assignment, taken}
use Rattle.ps_ring.specs.Joins.{PlainSum, TurnedSum}
use Rattle.ps_prim.specs.declared.prims.Primitive.{Primitive as Prim}
use Rattle.ps_prim.specs.declared.prims.Primitive.TheVariants.{U, Cx}
use Rattle.ps_prim.specs.Amplitudes.{exchanged}
use Rattle.ps_mono.specs.Truth.{times, differ}
use Rattle.ps_phase.specs.Phases.{phase_value}
use Rattle.ps_sum.specs.Outs.{values}
use Rattle.ps_sum.specs.Sums.{path_values}
use Rattle.ps_sum.specs.declared.sums.PathSum.{PathSum}
use Rattle.ps_sum.proofs.Uniqueness.{phase_read, taken_length}
use Rattle.ps_join.proofs.LeafSums.{exchanged_is}
use Rattle.ps_cliff.specs.Quadratics.{IsQuadratic}
use Rattle.ps_cliff.specs.Laws.{LeavesAre, IdentitiesAre}
use Rattle.ps_cliff.proofs.Values.{Turns, turns_same, turns_add, turns_scale, turns_constant, turns_quarter, turns_both, turns_back, Parity, parity_same, parity_add, parity_none, parity_variable}
use Rattle.ps_cliff.proofs.Substitution.{scaled, quarters_of}
use Rattle.ps_cliff.proofs.Outputs.{outs_read, parity_taken, affine_as}

-- ---- phases
cond_times : (b : Bool) (p : ℕ) → times b p ≡ cond b p 0
unfolding times
cond_times true p = refl
cond_times false p = refl

-- a multiple of a quarter where it is true
turns_quarters : (f : Assignment → Bool) (p : ℕ) → p % 1073741824 ≡ 0 → Parity f → Turns (λ a. cond (f a) p 0)
turns_quarters f p e h = turns_same (λ a. p / 1073741824 * times (f a) 1073741824) (λ a. cond (f a) p 0)
    (λ a. ap (λ k. k % 4294967296) (scaled (p / 1073741824) (f a) p (quarters_of p e) ∙ cond_times (f a) p))
    (turns_scale (p / 1073741824) (λ a. times (f a) 1073741824) (turns_quarter f h))

turns_half_where : (f g : Assignment → Bool) → Parity f → Parity g → Turns (λ a. cond (f a && g a) 2147483648 0)
turns_half_where f g p q = turns_same (λ a. times (f a && g a) 2147483648) (λ a. cond (f a && g a) 2147483648 0) (λ a. ap (λ k. k % 4294967296) (cond_times (f a && g a) 2147483648)) (turns_both f g p q)

-- ---- outputs
-- a row of variables of which one place has another value
parity_set : (n q v : ℕ) (f : Assignment → Bool) → 0 + n ≤ 512 → Parity f → Parity (λ a. bit (set (taken 0 n a) q (f a)) v)
parity_set n q v f l p = by (cases_eq v q)
  where
    here : v ≡ q → ((q < n) ⊎ (n ≤ q)) → Parity (λ a. bit (set (taken 0 n a) q (f a)) v)
    here e (inl d) = parity_same f (λ a. bit (set (taken 0 n a) q (f a)) v)
        (λ a. sym (ap (λ k. bit (set (taken 0 n a) q (f a)) k) e ∙ get_or-set_same (taken 0 n a) q (f a) false (let k = taken_length 0 n a in omega arith))) p
    here e (inr d) = parity_same (λ a. false) (λ a. bit (set (taken 0 n a) q (f a)) v)
        (λ a. sym (get_or_past (set (taken 0 n a) q (f a)) v false (let k = taken_length 0 n a in let m = length-set (taken 0 n a) q (f a) in omega arith))) parity_none

    by : ((v ≡ q) ⊎ (v ≢ q)) → Parity (λ a. bit (set (taken 0 n a) q (f a)) v)
    by (inl e) = here e (cases_lt q n)
    by (inr d) = parity_same (λ a. bit (taken 0 n a) v) (λ a. bit (set (taken 0 n a) q (f a)) v) (λ a. sym (get_or-set_other (taken 0 n a) q v (f a) false d)) (parity_taken 0 n v l)

-- ---- sums without path variables
module _ {n : ℕ} {f : Truths → Truths} {P : Truths → ℕ} (S : PathSum) (e : S.n ≡ n) (s : PlainSum n f P (path_values S)) where
  none_taken : (a : Assignment) → taken 0 S.n a ++ taken S.n S.m a ≡ taken 0 n a ++ []
  unfolding taken
  none_taken a = ap₂ (λ (k m : ℕ). taken 0 k a ++ taken k m a) e s.m_is

  plain_phase : (a : Assignment) → phase_value S.phase a % 4294967296 ≡ P (taken 0 n a) % 4294967296
  plain_phase a = ap (λ k. k % 4294967296) (phase_read S.n S.m S.phase S.phase_below a ∙ ap (λ t. phase_value S.phase (bit t)) (none_taken a)) ∙ s.phase_is (taken 0 n a) (taken_length 0 n a)

  plain_outs : (a : Assignment) → values S.outs a ≡ f (taken 0 n a)
  plain_outs a = outs_read S.n S.m S.outs S.outs_below a ∙ ap (λ t. values S.outs (bit t)) (none_taken a) ∙ s.outs_is (taken 0 n a) (taken_length 0 n a)

  plain_quadratic : Turns (λ a. P (taken 0 n a)) → ((v : ℕ) → Parity (λ a. bit (f (taken 0 n a)) v)) → IsQuadratic S
  plain_quadratic t p = record {
    terms = turns_back S.phase S.formed.0 (turns_same (λ a. P (taken 0 n a)) (phase_value S.phase) (λ a. sym (plain_phase a)) t);
    outputs = affine_as S.outs (λ a. f (taken 0 n a)) S.formed.1 p plain_outs;
  }

  narrow : 0 + n ≤ 512
  narrow = let w : S.n + S.m ≤ 512 = S.named in omega (arith, e)

pub identities_are : IdentitiesAre
identities_are n S i = plain_quadratic S i.n_is i.values_are (turns_constant 0) (λ v. parity_taken 0 n v (narrow S i.n_is i.values_are))

-- ---- one U with path variables
turned_worth : (n theta phi lambda q : ℕ) → Assignment → ℕ
turned_worth n theta phi lambda q a = cond (bit (taken 0 n a) q) (2 * lambda + 3221225472) 0 + cond (bit (taken 0 n a) q && a n) 2147483648 0 + cond (a n) (2 * theta) 0 + cond (a n && a (suc n)) 2147483648 0 + cond (a (suc n)) (2 * phi + 1073741824) 0

less : (p w t : ℕ) → (p + t) % 4294967296 ≡ w % 4294967296 → (w + 4294967295 * t) % 4294967296 ≡ p % 4294967296
less p w t h = omega (arith, h)

module _ {n theta phi lambda q : ℕ} (S : PathSum) (e : S.n ≡ n) (s : TurnedSum n theta phi lambda q (path_values S)) where
  two_taken : (a : Assignment) → taken 0 S.n a ++ taken S.n S.m a ≡ taken 0 n a ++ a n ∷ a (suc n) ∷ []
  unfolding taken
  two_taken a = ap₂ (λ (k m : ℕ). taken 0 k a ++ taken k m a) e s.m_is

  turned_phase : (a : Assignment) → (phase_value S.phase a + theta) % 4294967296 ≡ turned_worth n theta phi lambda q a % 4294967296
  unfolding turned_worth
  turned_phase a = ap (λ k. (k + theta) % 4294967296) (phase_read S.n S.m S.phase S.phase_below a ∙ ap (λ t. phase_value S.phase (bit t)) (two_taken a)) ∙ s.phase_is (taken 0 n a) (a n) (a (suc n)) (taken_length 0 n a)

  turned_outs : (a : Assignment) → values S.outs a ≡ set (taken 0 n a) q (a (suc n))
  turned_outs a = outs_read S.n S.m S.outs S.outs_below a ∙ ap (λ t. values S.outs (bit t)) (two_taken a) ∙ s.outs_is (taken 0 n a) (a n) (a (suc n)) (taken_length 0 n a)

  named : n + 2 ≤ 512
  named = let w : S.n + S.m ≤ 512 = S.named in omega (arith, e, s.m_is)

  turned_turns : theta % 536870912 ≡ 0 → phi % 536870912 ≡ 0 → lambda % 536870912 ≡ 0 → Turns (turned_worth n theta phi lambda q)
  unfolding turned_worth
  turned_turns t p l =
      let w = named in
      let x : Parity (λ a. bit (taken 0 n a) q) = parity_taken 0 n q (omega arith) in
      let y : Parity (λ a. a n) = parity_variable n (omega arith) in
      let z : Parity (λ a. a (suc n)) = parity_variable (suc n) (omega arith) in
      turns_add _ _ (turns_add _ _ (turns_add _ _ (turns_add _ _
      (turns_quarters (λ a. bit (taken 0 n a) q) (2 * lambda + 3221225472) (omega arith) x)
      (turns_half_where (λ a. bit (taken 0 n a) q) (λ a. a n) x y))
      (turns_quarters (λ a. a n) (2 * theta) (omega arith) y))
      (turns_half_where (λ a. a n) (λ a. a (suc n)) y z))
      (turns_quarters (λ a. a (suc n)) (2 * phi + 1073741824) (omega arith) z)

  turned_quadratic : theta % 536870912 ≡ 0 → phi % 536870912 ≡ 0 → lambda % 536870912 ≡ 0 → IsQuadratic S
  turned_quadratic t p l = record {
    terms = turns_back S.phase S.formed.0 (turns_same (λ a. turned_worth n theta phi lambda q a + 4294967295 * theta) (phase_value S.phase) (λ a. less (phase_value S.phase a) (turned_worth n theta phi lambda q a) theta (turned_phase a))
        (turns_add (turned_worth n theta phi lambda q) (λ a. 4294967295 * theta) (turned_turns t p l) (turns_constant (4294967295 * theta))));
    outputs = affine_as S.outs (λ a. set (taken 0 n a) q (a (suc n))) S.formed.1
        (λ v. let w = named in parity_set n q v (λ a. a (suc n)) (omega arith) (parity_variable (suc n) (omega arith))) turned_outs;
  }

-- ---- each gate
pub leaves_are : LeavesAre
leaves_are n (U zero phi lambda q) S c l = plain_quadratic S l.n_is l.values_are
    (turns_quarters (λ a. bit (taken 0 n a) q) (2 * phi + 2 * lambda) (omega (arith, c.1, c.2)) (parity_taken 0 n q (narrow S l.n_is l.values_are)))
    (λ v. parity_taken 0 n v (narrow S l.n_is l.values_are))
leaves_are n (U (suc theta) phi lambda q) S c l = turned_quadratic S l.n_is l.values_are c.0 c.1 c.2
leaves_are n (Cx c t) S h l = plain_quadratic S l.n_is l.values_are (turns_constant 0)
    (λ v. let w : 0 + n ≤ 512 = narrow S l.n_is l.values_are in
    parity_same (λ a. bit (set (taken 0 n a) t (differ (bit (taken 0 n a) t) (bit (taken 0 n a) c))) v) (λ a. bit (exchanged c t (taken 0 n a)) v) (λ a. ap (λ z. bit z v) (sym (exchanged_is c t (taken 0 n a))))
    (parity_set n t v (λ a. differ (bit (taken 0 n a) t) (bit (taken 0 n a) c)) w (parity_add (λ a. bit (taken 0 n a) t) (λ a. bit (taken 0 n a) c) (parity_taken 0 n t w) (parity_taken 0 n c w))))
