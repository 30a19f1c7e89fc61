-- Values, variables and coefficients, term by term.
use Rattle.std.proofs.Common.{◌≡◌, ℕ, zero, suc, ◌+◌, ◌%◌, refl, ap, ap₂, sym, ◌∙◌, subst, arith, ◌<◌, ◌≤◌, Bool, true, false, cond, nat_eq, ◌&&◌, ◌||◌, List, [], ◌∷◌, ◌++◌, length, take, get_or, ◌⊎◌, inl, inr, Less}
use Rattle.std.specs.Bool.{Decides}
use Rattle.std.specs.Cmp.Lexicographic.{pointwise}
use Rattle.std.proofs.lemmas.Bool.Decides.{Decides-eqb}
use Rattle.std.proofs.lemmas.Slice.Eq.{slice_eq-Decides}
use Rattle.std.proofs.lemmas.List.{take_more, take_all}
use Rattle.ps_phase.specs.declared.terms.Term.{Term}
use Rattle.ps_mono.specs.Sets.{mono_cmp, holds, stands}
use Rattle.ps_mono.specs.Lists.{nat_eq_same}
use Rattle.ps_mono.specs.Truth.{times}
use Rattle.ps_mono.proofs.Orders.{never_self}
use Rattle.ps_phase.specs.Phases.{phase_value, phase_occurs, coefficient, TermBefore, IsPhasePoly}
use Rattle.ps_phase.proofs.Adding.{M, neither}

-- ---- a list with one more term
pub phase_append : (xs ys : List Term) (a : ℕ → Bool) → phase_value (xs ++ ys) a ≡ phase_value xs a + phase_value ys a
unfolding phase_value
phase_append [] ys a = omega arith
phase_append (x ∷ xs) ys a = omega (arith, phase_append xs ys a)

pub one_value : (t : Term) (a : ℕ → Bool) → phase_value (t ∷ []) a ≡ times (holds t.mono a) t.phase
unfolding phase_value
one_value t a = omega arith

pub phase_more : (ts : List Term) (i : ℕ) (t : Term) (a : ℕ → Bool) → i < length ts → t ≡ get_or ts i t → phase_value (take (i + 1) ts) a ≡ phase_value (take i ts) a + times (holds t.mono a) t.phase
phase_more ts i t a h e = ap (λ (r : List Term). phase_value r a) (take_more ts i t h ∙ ap (λ (r : Term). take i ts ++ r ∷ []) (sym e)) ∙ phase_append (take i ts) (t ∷ []) a ∙ ap (λ n. phase_value (take i ts) a + n) (one_value t a)

-- ---- the loop of `eval`
pub phase_start : (ts : List Term) (s : ℕ) (a : ℕ → Bool) → s ≡ 0 → s ≡ phase_value (take 0 ts) a % M
unfolding phase_value
phase_start ts s a e = e

pub phase_skip : (ts : List Term) (i s s' : ℕ) (t : Term) (a : ℕ → Bool) (b : Bool) → i < length ts → t ≡ get_or ts i t → b ≡ holds t.mono a → ((b ≡ true) × (s' ≡ (s + t.phase) % M)) ⊎ ((b ≡ false) × (s' ≡ s)) → s ≡ phase_value (take i ts) a % M → s' ≡ phase_value (take (i + 1) ts) a % M
unfolding times
phase_skip ts i s s' t a b h e o (inl p) f = let q = ap (λ c. times c t.phase) (sym p.0 ∙ o) in let r = phase_more ts i t a h e in let w = p.1 in omega arith
phase_skip ts i s s' t a b h e o (inr p) f = let q = ap (λ c. times c t.phase) (sym p.0 ∙ o) in let r = phase_more ts i t a h e in let w = p.1 in omega arith

pub phase_end : (ts : List Term) (i s : ℕ) (a : ℕ → Bool) → length ts ≤ i → s ≡ phase_value (take i ts) a % M → s ≡ phase_value ts a % M
phase_end ts i s a h e = e ∙ ap (λ (r : List Term). phase_value r a % M) (take_all i ts h)

-- ---- the loop of `contains`
or_later : (p q : Bool) → q ≡ true → (p || q) ≡ true
or_later true q e = refl
or_later false q e = e

or_first : (p q : Bool) → p ≡ true → (p || q) ≡ true
or_first true q e = refl
or_first false q e = absurd (no e)
  where
    no : false ≡ true → ⊥
    no e = cc

pub occurs_at : (v : ℕ) (ts : List Term) (i : ℕ) (t : Term) → i < length ts → t ≡ get_or ts i t → stands v t.mono ≡ true → phase_occurs v ts ≡ true
unfolding phase_occurs
occurs_at v [] i t h e s = absurd (omega arith)
occurs_at v (u ∷ ts) zero t h e s = or_first _ _ (ap (λ (x : Term). stands v x.mono) (sym e) ∙ s)
occurs_at v (u ∷ ts) (suc i) t h e s = or_later _ _ (occurs_at v ts i t (omega arith) e s)

pub free_push : (v : ℕ) (ts : List Term) (t : Term) → phase_occurs v ts ≡ false → stands v t.mono ≡ false → phase_occurs v (ts ++ t ∷ []) ≡ false
unfolding phase_occurs
free_push v [] t h s = ap (λ b. b || false) s
free_push v (u ∷ ts) t h s = let n = neither (stands v u.mono) (phase_occurs v ts) h in ap₂ (λ (x y : Bool). x || y) n.0 (free_push v ts t n.1 s)

pub free_more : (v : ℕ) (ts : List Term) (i : ℕ) (t : Term) → i < length ts → t ≡ get_or ts i t → stands v t.mono ≡ false → phase_occurs v (take i ts) ≡ false → phase_occurs v (take (i + 1) ts) ≡ false
free_more v ts i t h e s k = ap (phase_occurs v) (take_more ts i t h ∙ ap (λ (r : Term). take i ts ++ r ∷ []) (sym e)) ∙ free_push v (take i ts) t k s

pub free_end : (v : ℕ) (ts : List Term) (i : ℕ) → length ts ≤ i → phase_occurs v (take i ts) ≡ false → phase_occurs v ts ≡ false
free_end v ts i h e = sym (ap (phase_occurs v) (take_all i ts h)) ∙ e

-- ---- assignments that agree on the variables
pub holds_agree : (m : List ℕ) (a b : ℕ → Bool) → ((v : ℕ) → stands v m ≡ true → a v ≡ b v) → holds m a ≡ holds m b
unfolding holds stands
holds_agree [] a b h = refl
holds_agree (u ∷ m) a b h = ap₂ (λ (x y : Bool). x && y) (h u (or_first _ _ (nat_eq_same u))) (holds_agree m a b (λ v s. h v (or_later _ _ s)))

pub phase_agree : (ts : List Term) (a b : ℕ → Bool) → ((v : ℕ) → phase_occurs v ts ≡ true → a v ≡ b v) → phase_value ts a ≡ phase_value ts b
unfolding phase_value phase_occurs
phase_agree [] a b h = refl
phase_agree (t ∷ ts) a b h = ap₂ (λ (x : Bool) (y : ℕ). times x t.phase + y) (holds_agree t.mono a b (λ v s. h v (or_first _ _ s))) (phase_agree ts a b (λ v s. h v (or_later _ _ s)))

-- ---- coefficients
pub mono_eq : (m k : List ℕ) → Decides (pointwise nat_eq m k) (m ≡ k)
mono_eq m k = slice_eq-Decides Decides-eqb m k (pointwise nat_eq m k) refl

one_of : {b : Bool} → b ≡ true → b ≡ false → ⊥
one_of e f = cc

not_eq : (m k : List ℕ) → (m ≡ k → ⊥) → pointwise nat_eq m k ≡ false
not_eq m k n = by (pointwise nat_eq m k) refl
  where
    by : (b : Bool) → pointwise nat_eq m k ≡ b → b ≡ false
    by false e = refl
    by true e = absurd (n ((mono_eq m k).0 e))

pub skipped : (m : List ℕ) (t : Term) (ts : List Term) → (m ≡ t.mono → ⊥) → coefficient m (t ∷ ts) ≡ coefficient m ts
unfolding coefficient
skipped m t ts n = ap (λ b. cond b t.phase (coefficient m ts)) (not_eq m t.mono n)

-- what comes later is another monomial
pub later_differs : (m : List ℕ) (ts : List Term) (i : ℕ) (t : Term) → TermBefore m ts → i < length ts → t ≡ get_or ts i t → t.mono ≡ m → ⊥
later_differs m [] i t b h e d = absurd (omega arith)
later_differs m (u ∷ ts) zero t b h e d = never_self m (subst (λ (x : List ℕ). mono_cmp m x ≡ Less) (ap (λ (x : Term). x.mono) (sym e) ∙ d) b.0)
later_differs m (u ∷ ts) (suc i) t b h e d = later_differs m ts i t b.1 (omega arith) e d

pub coefficient_at : (m : List ℕ) (ts : List Term) (i : ℕ) (t : Term) → IsPhasePoly ts → i < length ts → t ≡ get_or ts i t → t.mono ≡ m → t.phase ≡ coefficient m ts
unfolding coefficient
coefficient_at m [] i t s h e d = absurd (omega arith)
coefficient_at m (u ∷ ts) zero t s h e d = ap (λ (x : Term). x.phase) e ∙ sym (ap (λ b. cond b u.phase (coefficient m ts)) ((mono_eq m u.mono).1 (sym d ∙ ap (λ (x : Term). x.mono) e)))
coefficient_at m (u ∷ ts) (suc i) t s h e d = coefficient_at m ts i t s.2 (omega arith) e d ∙ sym (skipped m u ts (λ k. later_differs u.mono ts i t s.1 (omega arith) e (d ∙ k)))

pub coefficient_none : (m : List ℕ) (ts : List Term) → ((k : ℕ) (d : Term) → k < length ts → (get_or ts k d).mono ≡ m → ⊥) → coefficient m ts ≡ 0
unfolding coefficient
coefficient_none m [] h = refl
coefficient_none m (t ∷ ts) h = skipped m t ts (λ e. h 0 t (omega arith) (sym e)) ∙ coefficient_none m ts (λ k d l. h (suc k) d (omega arith))
