-- The outputs of a path sum, read at lists of truth values and as affine functions.
use Rattle.std.proofs.Common.{◌≡◌, ℕ, zero, suc, ◌+◌, refl, ap, ap₂, sym, arith, ◌<◌, ◌≤◌, ◌⊎◌, inl, inr, Bool, true, false, List, [], ◌∷◌, ◌++◌}
use Rattle.std.proofs.lemmas.Bool.{cases_lt}
use Rattle.ps_ring.specs.Truths.{Truths, bit}
use Rattle.ps_ring.specs.Readings.{Assignment, taken}
use Rattle.ps_bool.specs.Polys.{bool_value, occurs}
use Rattle.ps_phase.specs.Phases.{phase_value, phase_occurs}
use Rattle.ps_phase.proofs.Adding.{neither}
use Rattle.ps_sum.specs.Forms.{AllPolys}
use Rattle.ps_sum.specs.Outs.{values, outs_occur}
use Rattle.ps_sum.specs.declared.sums.PathSum.{PathSum}
use Rattle.ps_sum.proofs.Uniqueness.{bool_read}
use Rattle.ps_cliff.specs.Quadratics.{AreAffine, IsQuadratic}
use Rattle.ps_cliff.proofs.Values.{Turns, Parity, parity_same, parity_back, parity_constant, parity_variable}
use Rattle.ps_cliff.proofs.Substitution.{Substitution, parity_substituted, or_left, or_right}

-- ---- a quadratic sum as functions
pub turns_of : (S : PathSum) → IsQuadratic S → Turns (phase_value S.phase)
turns_of S q = record { terms = S.phase; form = S.formed.0; quadratic = q.terms; value = λ a. refl }

-- outputs that know no variable from n + m on, read at such lists
pub outs_read : (n m : ℕ) (fs : List (List (List ℕ))) → ((v : ℕ) → n + m ≤ v → outs_occur v fs ≡ false) → (a : Assignment) → values fs a ≡ values fs (bit (taken 0 n a ++ taken n m a))
unfolding values outs_occur
outs_read n m [] h a = refl
outs_read n m (f ∷ fs) h a = ap₂ (λ (b : Bool) (bs : List Bool). b ∷ bs) (bool_read n m f (λ v l. (neither _ _ (h v l)).0) a) (outs_read n m fs (λ v l. (neither _ _ (h v l)).1) a)

-- ---- affine values in a row
pub parity_taken : (lo m v : ℕ) → lo + m ≤ 512 → Parity (λ a. bit (taken lo m a) v)
unfolding taken
parity_taken lo zero v l = parity_constant false
parity_taken lo (suc m) zero l = parity_variable lo (omega arith)
parity_taken lo (suc m) (suc v) l = parity_taken (suc lo) m v (omega arith)

-- the outputs, and behind them the m variables from lo on
pub parity_row : (fs : List (List (List ℕ))) (lo m v : ℕ) → AllPolys fs → AreAffine fs → lo + m ≤ 512 → Parity (λ a. bit (values fs a ++ taken lo m a) v)
unfolding values
parity_row [] lo m v p q l = parity_taken lo m v l
parity_row (f ∷ fs) lo m zero p q l = record { monos = f; form = p.0; linear = q.0; value = λ a. refl }
parity_row (f ∷ fs) lo m (suc v) p q l = parity_row fs lo m v p.1 q.1 l

-- ---- back to the lists
-- outputs whose values are affine have affine monomials alone
pub affine_back : (fs : List (List (List ℕ))) → AllPolys fs → ((v : ℕ) → Parity (λ a. bit (values fs a) v)) → AreAffine fs
unfolding values
affine_back [] p h = tt
affine_back (f ∷ fs) p h = (parity_back f p.0 (parity_same (λ a. bit (bool_value f a ∷ values fs a) 0) (bool_value f) (λ a. refl) (h 0)), affine_back fs p.1 (λ v. parity_same (λ a. bit (bool_value f a ∷ values fs a) (suc v)) (λ a. bit (values fs a) v) (λ a. refl) (h (suc v))))

-- affine outputs at affine functions
pub parity_values : (gs : List (List (List ℕ))) (s : Substitution) → AreAffine gs → ((u : ℕ) → outs_occur u gs ≡ true → Parity (s u)) → (v : ℕ) → Parity (λ a. bit (values gs (λ u. s u a)) v)
unfolding values outs_occur
parity_values [] s q h v = parity_constant false
parity_values (g ∷ gs) s q h zero = parity_substituted g s q.0 (λ u o. h u (or_left (occurs u g) (outs_occur u gs) o))
parity_values (g ∷ gs) s q h (suc v) = parity_values gs s q.1 (λ u o. h u (or_right (occurs u g) (outs_occur u gs) o)) v

pub affine_as : (fs : List (List (List ℕ))) (g : Assignment → Truths) → AllPolys fs → ((v : ℕ) → Parity (λ a. bit (g a) v)) → ((a : Assignment) → values fs a ≡ g a) → AreAffine fs
affine_as fs g p h e = affine_back fs p (λ v. parity_same (λ a. bit (g a) v) (λ a. bit (values fs a) v) (λ a. ap (λ t. bit t v) (sym (e a))) (h v))

-- ---- the variables of a sum
not_both : {b : Bool} → b ≡ true → b ≡ false → ⊥
not_both e f = cc

pub inside : (n v : ℕ) (b : Bool) → (n ≤ v → b ≡ false) → b ≡ true → v < n
inside n v b h o = by (cases_lt v n)
  where
    by : ((v < n) ⊎ (n ≤ v)) → v < n
    by (inl l) = l
    by (inr l) = absurd (not_both o (h l))

pub phase_inside : (S : PathSum) (u : ℕ) → phase_occurs u S.phase ≡ true → u < 512
phase_inside S u o = let w : S.n + S.m ≤ 512 = S.named in let l = inside (S.n + S.m) u (phase_occurs u S.phase) (S.phase_below u) o in omega arith

pub outs_inside : (S : PathSum) (u : ℕ) → outs_occur u S.outs ≡ true → u < 512
outs_inside S u o = let w : S.n + S.m ≤ 512 = S.named in let l = inside (S.n + S.m) u (outs_occur u S.outs) (S.outs_below u) o in omega arith
