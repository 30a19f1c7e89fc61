-- A term that is copied to an earlier place and changed there.
use Rattle.std.proofs.Common.{◌≡◌, ℕ, zero, suc, refl, ap, ap₂, sym, ◌∙◌, arith, ◌<◌, ◌≤◌, false, List, [], ◌∷◌, length, set, get_or}
use Rattle.std.proofs.lemmas.List.{get_or-set_same}
use Rattle.ps_mono.specs.Sets.{stands}
use Rattle.ps_phase.specs.declared.terms.Term.{Term}
use Rattle.ps_phase.specs.Phases.{phase_occurs}
use Rattle.ps_phase.proofs.Adding.{neither}

-- what stands there put there again
pub set_same : {A : Type 0} (xs : List A) (i : ℕ) (d : A) → set xs i (get_or xs i d) ≡ xs
set_same [] i d = refl
set_same (x ∷ xs) zero d = refl
set_same (x ∷ xs) (suc i) d = ap (λ r. x ∷ r) (set_same xs i d)

pub set_stay : {A : Type 0} (xs : List A) (i place : ℕ) (d : A) → i ≤ place → place ≤ i → xs ≡ set xs place (get_or xs i d)
set_stay xs i place d h k = let e : i ≡ place = omega arith in sym (ap (λ n. set xs place (get_or xs n d)) e ∙ set_same xs place d)

set_over : {A : Type 0} (xs : List A) (i : ℕ) (x y : A) → set (set xs i x) i y ≡ set xs i y
set_over [] i x y = refl
set_over (z ∷ xs) zero x y = refl
set_over (z ∷ xs) (suc i) x y = ap (λ r. z ∷ r) (set_over xs i x y)

-- v is in none of the terms
pub term_free : (v : ℕ) (ts : List Term) (i : ℕ) (t d : Term) → i < length ts → t ≡ get_or ts i d → phase_occurs v ts ≡ false → stands v t.mono ≡ false
unfolding phase_occurs
term_free v [] i t d h e o = absurd (omega arith)
term_free v (x ∷ ts) zero t d h e o = ap (λ (y : Term). stands v y.mono) e ∙ (neither (stands v x.mono) (phase_occurs v ts) o).0
term_free v (x ∷ ts) (suc i) t d h e o = term_free v ts i t d (omega arith) e (neither (stands v x.mono) (phase_occurs v ts) o).1

-- mid has at `place` what xs has at i
pub record Moved (i place : ℕ) (t z : Term) (xs mid : List Term) : Type 0 where
  pub same : z ≡ t
  pub items : mid ≡ set xs place t

pub moved : (i place : ℕ) (t z : Term) (xs mid : List Term) → place < length xs → t ≡ get_or xs i t → ((d : Term) → mid ≡ set xs place (get_or xs i d)) → z ≡ get_or mid place z → Moved i place t z xs mid
moved i place t z xs mid h et f ez =
    let e : mid ≡ set xs place t = f t ∙ ap (λ (x : Term). set xs place x) (sym et) in
    record { same = ez ∙ ap (λ (r : List Term). get_or r place z) e ∙ get_or-set_same xs place t z h; items = e }

-- and then m in place of its monomial
pub moved_set : (i place : ℕ) (t z : Term) (m : List ℕ) (xs mid ys : List Term) → Moved i place t z xs mid → ys ≡ set mid place (record { mono = m; phase = z.phase }) → ys ≡ set xs place (record { mono = m; phase = t.phase })
moved_set i place t z m xs mid ys w e =
    e ∙ ap₂ (λ (r : List Term) (y : Term). set r place (record { mono = m; phase = y.phase })) w.items w.same ∙ set_over xs place t (record { mono = m; phase = t.phase })
