-- Affine functions in place of the variables of a quadratic phase, or of affine outputs.
use Rattle.std.proofs.Common.{◌≡◌, ℕ, ◌*◌, ◌/◌, ◌%◌, refl, ap, ap₂, sym, ◌∙◌, subst, arith, Bool, true, false, ◌&&◌, ◌||◌, nat_eq, List, [], ◌∷◌, length}
use Rattle.ps_ring.specs.Readings.{Assignment}
use Rattle.ps_mono.specs.Sets.{holds, stands}
use Rattle.ps_mono.specs.Lists.{nat_eq_same}
use Rattle.ps_mono.specs.Truth.{times}
use Rattle.ps_bool.specs.Polys.{bool_value, occurs, Each}
use Rattle.ps_phase.specs.declared.terms.Term.{Term}
use Rattle.ps_phase.specs.Phases.{phase_value, phase_occurs}
use Rattle.ps_overlap.specs.Overlapping.{EachTerm}
use Rattle.ps_cliff.specs.Quadratics.{IsQuadraticTerm, IsLinear}
use Rattle.ps_cliff.proofs.Values.{Turns, turns_same, turns_add, turns_scale, turns_constant, turns_quarter, turns_both, Parity, parity_same, parity_add, parity_none, parity_constant}

-- a function of assignments for each variable
abbrev pub Substitution : Type 0
Substitution = ℕ → Assignment → Bool

pub or_left : (x y : Bool) → x ≡ true → (x || y) ≡ true
or_left true y e = refl
or_left false y e = absurd (clash e)
  where
    clash : false ≡ true → ⊥
    clash e = cc

pub or_right : (x y : Bool) → y ≡ true → (x || y) ≡ true
or_right true y e = refl
or_right false y e = e

pub stands_first : (v : ℕ) (m : List ℕ) → stands v (v ∷ m) ≡ true
unfolding stands
stands_first v m = or_left (nat_eq v v) (stands v m) (nat_eq_same v)

pub stands_second : (u v : ℕ) (m : List ℕ) → stands v (u ∷ v ∷ m) ≡ true
unfolding stands
stands_second u v m = or_right (nat_eq v u) (stands v (v ∷ m)) (stands_first v m)

pub and_true : (x : Bool) → (x && true) ≡ x
and_true true = refl
and_true false = refl

-- ---- one monomial
parity_holds : (m : List ℕ) (s : Substitution) → IsLinear m → ((v : ℕ) → stands v m ≡ true → Parity (s v)) → Parity (λ a. holds m (λ v. s v a))
unfolding holds
parity_holds [] s l h = parity_constant true
parity_holds (v ∷ []) s l h = parity_same (s v) (λ a. s v a && true) (λ a. sym (and_true (s v a))) (h v (stands_first v []))
parity_holds (u ∷ v ∷ m) s l h = absurd (omega arith)

pub scaled : (n : ℕ) (b : Bool) (p : ℕ) → n * 1073741824 ≡ p → n * times b 1073741824 ≡ times b p
unfolding times
scaled n true p e = e
scaled n false p e = omega arith

pub quarters_of : (p : ℕ) → p % 1073741824 ≡ 0 → p / 1073741824 * 1073741824 ≡ p
quarters_of p e = omega arith

turns_none_of : (p : ℕ) (s : Substitution) → Turns (λ a. times (holds [] (λ v. s v a)) p)
unfolding holds times
turns_none_of p s = turns_constant p

turns_one_of : (v p : ℕ) (s : Substitution) → Parity (s v) → p % 1073741824 ≡ 0 → Turns (λ a. times (holds (v ∷ []) (λ v. s v a)) p)
unfolding holds
turns_one_of v p s h e = turns_same (λ a. p / 1073741824 * times (s v a) 1073741824) (λ a. times (s v a && true) p)
    (λ a. ap (λ k. k % 4294967296) (scaled (p / 1073741824) (s v a) p (quarters_of p e) ∙ ap (λ b. times b p) (sym (and_true (s v a)))))
    (turns_scale (p / 1073741824) (λ a. times (s v a) 1073741824) (turns_quarter (s v) h))

turns_two_of : (u v p : ℕ) (s : Substitution) → Parity (s u) → Parity (s v) → p ≡ 2147483648 → Turns (λ a. times (holds (u ∷ v ∷ []) (λ v. s v a)) p)
unfolding holds
turns_two_of u v p s h k e = turns_same (λ a. times (s u a && s v a) 2147483648) (λ a. times (s u a && (s v a && true)) p)
    (λ a. ap (λ k. k % 4294967296) (ap₂ (λ (b : Bool) (n : ℕ). times (s u a && b) n) (sym (and_true (s v a))) (sym e)))
    (turns_both (s u) (s v) h k)

turns_term : (t : Term) (s : Substitution) → IsQuadraticTerm t → ((v : ℕ) → stands v t.mono ≡ true → Parity (s v)) → Turns (λ a. times (holds t.mono (λ v. s v a)) t.phase)
turns_term t s q h = by t.mono refl
  where
    by : (m : List ℕ) → m ≡ t.mono → Turns (λ a. times (holds t.mono (λ v. s v a)) t.phase)
    by [] e = subst (λ (m : List ℕ). Turns (λ a. times (holds m (λ v. s v a)) t.phase)) e (turns_none_of t.phase s)
    by (v ∷ []) e = subst (λ (m : List ℕ). Turns (λ a. times (holds m (λ v. s v a)) t.phase)) e
        (turns_one_of v t.phase s (h v (subst (λ (m : List ℕ). stands v m ≡ true) e (stands_first v []))) (q.quarters (ap length (sym e))))
    by (u ∷ v ∷ []) e = subst (λ (m : List ℕ). Turns (λ a. times (holds m (λ v. s v a)) t.phase)) e
        (turns_two_of u v t.phase s (h u (subst (λ (m : List ℕ). stands u m ≡ true) e (stands_first u (v ∷ [])))) (h v (subst (λ (m : List ℕ). stands v m ≡ true) e (stands_second u v []))) (q.halves (ap length (sym e))))
    by (u ∷ v ∷ w ∷ m) e = let d = q.degree in let l = ap length e in absurd (omega arith)

-- ---- whole polynomials
pub turns_substituted : (ts : List Term) (s : Substitution) → EachTerm IsQuadraticTerm ts → ((v : ℕ) → phase_occurs v ts ≡ true → Parity (s v)) → Turns (λ a. phase_value ts (λ v. s v a))
unfolding phase_value phase_occurs
turns_substituted [] s q h = turns_constant 0
turns_substituted (t ∷ ts) s q h = turns_add (λ a. times (holds t.mono (λ v. s v a)) t.phase) (λ a. phase_value ts (λ v. s v a))
    (turns_term t s q.0 (λ v o. h v (or_left (stands v t.mono) (phase_occurs v ts) o)))
    (turns_substituted ts s q.1 (λ v o. h v (or_right (stands v t.mono) (phase_occurs v ts) o)))

pub parity_substituted : (f : List (List ℕ)) (s : Substitution) → Each IsLinear f → ((v : ℕ) → occurs v f ≡ true → Parity (s v)) → Parity (λ a. bool_value f (λ v. s v a))
unfolding bool_value occurs
parity_substituted [] s l h = parity_none
parity_substituted (m ∷ f) s l h = parity_add (λ a. holds m (λ v. s v a)) (λ a. bool_value f (λ v. s v a))
    (parity_holds m s l.0 (λ v o. h v (or_left (stands v m) (occurs v f) o)))
    (parity_substituted f s l.1 (λ v o. h v (or_right (stands v m) (occurs v f) o)))
