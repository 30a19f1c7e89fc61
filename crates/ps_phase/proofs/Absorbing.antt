-- Terms added to those that stand there.
use Rattle.std.proofs.Common.{◌≡◌, ◌≢◌, ℕ, zero, suc, ◌+◌, ◌%◌, refl, ap, ap₂, sym, ◌∙◌, subst, arith, ◌<◌, ◌≤◌, Bool, true, false, cond, nat_eq, ◌||◌, List, [], ◌∷◌, ◌++◌, length, drop, take, get_or, set, not}
use Rattle.std.specs.Cmp.Lexicographic.{pointwise}
use Rattle.std.proofs.lemmas.List.{take_more, take_all}
use Rattle.std.proofs.lemmas.List.Sums.{sum_by-set}
use Rattle.ps_phase.specs.declared.terms.Term.{Term}
use Rattle.ps_mono.specs.Sets.{mono_cmp, holds, stands, IsVarSet}
use Rattle.ps_mono.specs.Truth.{times}
use Rattle.ps_phase.specs.Phases.{phase_value, phase_occurs, coefficient, TermBefore, IsPhasePoly}
use Rattle.ps_phase.specs.Placing.{IsPlace, FitsOne, Fits, Absorbed}
use Rattle.ps_phase.proofs.Adding.{M, cut}
use Rattle.ps_phase.proofs.Values.{skipped, coefficient_at, later_differs, phase_more}
use Rattle.ps_phase.proofs.Combining.{value_sum}

-- ---- a term replaced by one of the same monomial
set_before : (m : List ℕ) (xs : List Term) (i : ℕ) (t : Term) → i < length xs → (get_or xs i t).mono ≡ t.mono → TermBefore m xs → TermBefore m (set xs i t)
set_before m [] i t h e b = absurd (omega arith)
set_before m (x ∷ xs) zero t h e b = (ap (mono_cmp m) (sym e) ∙ b.0, b.1)
set_before m (x ∷ xs) (suc i) t h e b = (b.0, set_before m xs i t (omega arith) e b.1)

set_form : (xs : List Term) (i : ℕ) (t : Term) → i < length xs → (get_or xs i t).mono ≡ t.mono → t.phase ≢ 0 → t.phase < M → IsPhasePoly xs → IsPhasePoly (set xs i t)
set_form [] i t h e n l s = absurd (omega arith)
set_form (x ∷ xs) zero t h e n l s = (record { set = subst IsVarSet e s.0.set; turns = n; small = l }, subst (λ (m : List ℕ). TermBefore m xs) e s.1, s.2)
set_form (x ∷ xs) (suc i) t h e n l s = (s.0, set_before x.mono xs i t (omega arith) e s.1, set_form xs i t (omega arith) e n l s.2)

set_coefficient : (m : List ℕ) (xs : List Term) (i : ℕ) (t : Term) → i < length xs → (get_or xs i t).mono ≡ t.mono → m ≢ t.mono → coefficient m (set xs i t) ≡ coefficient m xs
unfolding coefficient
set_coefficient m [] i t h e n = absurd (omega arith)
set_coefficient m (x ∷ xs) zero t h e n = skipped m t xs n ∙ sym (skipped m x xs (λ k. n (k ∙ e)))
set_coefficient m (x ∷ xs) (suc i) t h e n = ap (cond (pointwise nat_eq m x.mono) x.phase) (set_coefficient m xs i t (omega arith) e n)

set_occurs : (v : ℕ) (xs : List Term) (i : ℕ) (t : Term) → i < length xs → (get_or xs i t).mono ≡ t.mono → phase_occurs v (set xs i t) ≡ phase_occurs v xs
unfolding phase_occurs
set_occurs v [] i t h e = absurd (omega arith)
set_occurs v (x ∷ xs) zero t h e = ap (λ m. stands v m || phase_occurs v xs) (sym e)
set_occurs v (x ∷ xs) (suc i) t h e = ap (λ b. stands v x.mono || b) (set_occurs v xs i t (omega arith) e)

set_step : (b : Bool) (w v p u q : ℕ) → q ≡ (p + u) % M → w + times b p ≡ v + times b q → w % M ≡ (v + times b u) % M
unfolding times
set_step true w v p u q e f = omega arith
set_step false w v p u q e f = omega arith

set_value : (xs : List Term) (i : ℕ) (t : Term) (u : ℕ) (a : ℕ → Bool) → i < length xs → (get_or xs i t).mono ≡ t.mono → t.phase ≡ ((get_or xs i t).phase + u) % M → phase_value (set xs i t) a % M ≡ (phase_value xs a + times (holds t.mono a) u) % M
set_value xs i t u a h e f =
    let s = sum_by-set (λ (x : Term). times (holds x.mono a) x.phase) xs i t t h in
    let k : phase_value (set xs i t) a + times (holds t.mono a) (get_or xs i t).phase ≡ phase_value xs a + times (holds t.mono a) t.phase =
    ap₂ (λ (x : ℕ) (m : List ℕ). x + times (holds m a) (get_or xs i t).phase) (value_sum (set xs i t) a) (sym e) ∙ s ∙ ap (λ r. r + times (holds t.mono a) t.phase) (sym (value_sum xs a))
    in
    set_step (holds t.mono a) (phase_value (set xs i t) a) (phase_value xs a) (get_or xs i t).phase u t.phase f k

in_range : (xs : List Term) (i : ℕ) (d e : Term) → i < length xs → get_or xs i d ≡ get_or xs i e
in_range [] i d e h = absurd (omega arith)
in_range (x ∷ xs) zero d e h = refl
in_range (x ∷ xs) (suc i) d e h = in_range xs i d e (omega arith)

turns_at : (xs : List Term) (i : ℕ) (t : Term) → IsPhasePoly xs → i < length xs → t ≡ get_or xs i t → t.phase ≢ 0
turns_at [] i t s h e = absurd (omega arith)
turns_at (x ∷ xs) zero t s h e = (λ z. s.0.turns (ap (λ (y : Term). y.phase) (sym e) ∙ z))
turns_at (x ∷ xs) (suc i) t s h e = turns_at xs i t s.2 (omega arith) e

-- ---- one term absorbed: x stands at i, and t is put in its place
pub absorbed_one : (xs ts : List Term) (y x t : Term) (i : ℕ) → IsPhasePoly xs → FitsOne xs y → IsPlace y.mono xs i → x ≡ get_or xs i x → t.mono ≡ x.mono → t.phase ≡ (x.phase + y.phase) % M → ts ≡ set xs i t → Absorbed xs y ts
absorbed_one xs ts y x t i s f p ex em ep et =
    let xt : get_or xs i x ≡ get_or xs i t = in_range xs i x t p.inside in
    let mx : x.mono ≡ y.mono = ap (λ (z : Term). z.mono) ex ∙ p.mono x in
    let mt : (get_or xs i t).mono ≡ t.mono = ap (λ (z : Term). z.mono) (sym xt ∙ sym ex) ∙ sym em in
    let ty : t.mono ≡ y.mono = em ∙ mx in
    let pt : t.phase ≡ ((get_or xs i t).phase + y.phase) % M = ep ∙ ap (λ (z : Term). (z.phase + y.phase) % M) (ex ∙ xt) in
    let co : x.phase ≡ coefficient y.mono xs = coefficient_at y.mono xs i x s p.inside ex mx in
    let nz : t.phase ≢ 0 = (λ z. f.1 (ap (λ r. (r + y.phase) % M) (sym co) ∙ sym ep ∙ z)) in
    let sm : t.phase < M = omega (arith, ep) in
    record {
      form = subst IsPhasePoly (sym et) (set_form xs i t p.inside mt nz sm s);
      value = λ a. ap (λ (r : List Term). phase_value r a % M) et ∙ set_value xs i t y.phase a p.inside mt pt ∙ ap (λ m. (phase_value xs a + times (holds m a) y.phase) % M) ty;
      same = λ v. ap (phase_occurs v) et ∙ set_occurs v xs i t p.inside mt;
      others = λ m n. ap (coefficient m) et ∙ set_coefficient m xs i t p.inside mt (λ k. n (k ∙ ty));
    }

-- a term that is found fits where the sum is not zero
pub fits_at : (xs : List Term) (y x : Term) (i q u : ℕ) → IsPhasePoly xs → IsPlace y.mono xs i → x ≡ get_or xs i x → q ≡ (x.phase + y.phase) % M → u ≡ q → u ≢ 0 → FitsOne xs y
fits_at xs y x i q u s p ex eq eu n =
    let mx : x.mono ≡ y.mono = ap (λ (z : Term). z.mono) ex ∙ p.mono x in
    let co : x.phase ≡ coefficient y.mono xs = coefficient_at y.mono xs i x s p.inside ex mx in
    (λ z. turns_at xs i x s p.inside ex (co ∙ z), λ z. n (eu ∙ eq ∙ ap (λ r. (r + y.phase) % M) co ∙ z))

-- ---- the loop of `fits`
fits_push : (ts ys : List Term) (y : Term) → Fits ts ys → FitsOne ts y → Fits ts (ys ++ y ∷ [])
fits_push ts [] y f g = (g, tt)
fits_push ts (x ∷ ys) y f g = (f.0, fits_push ts ys y f.1 g)

pub fits_more : (ts ys : List Term) (i : ℕ) (y : Term) → i < length ys → y ≡ get_or ys i y → Fits ts (take i ys) → FitsOne ts y → Fits ts (take (i + 1) ys)
fits_more ts ys i y h e f g = subst (Fits ts) (sym (take_more ys i y h ∙ ap (λ (r : Term). take i ys ++ r ∷ []) (sym e))) (fits_push ts (take i ys) y f g)

pub fits_end : (ts ys : List Term) (i : ℕ) → length ys ≤ i → Fits ts (take i ys) → Fits ts ys
fits_end ts ys i h f = subst (Fits ts) (take_all i ys h) f

-- ---- the loop of `absorb`
-- ts is xs with the first i of ys added, and the others fit
pub record Absorbing (xs ys : List Term) (i : ℕ) (ts : List Term) : Type 0 where
  pub form : IsPhasePoly ts
  pub value : (a : ℕ → Bool) → phase_value ts a % M ≡ (phase_value xs a + phase_value (take i ys) a) % M
  pub same : (v : ℕ) → phase_occurs v ts ≡ phase_occurs v xs
  pub left : Fits ts (drop i ys)
  pub order : IsPhasePoly (drop i ys)

pub absorbing_start : (xs ys : List Term) → IsPhasePoly xs → IsPhasePoly ys → Fits xs ys → Absorbing xs ys 0 xs
unfolding phase_value
absorbing_start xs ys s t f = record { form = s; value = λ a. omega arith; same = λ v. refl; left = f; order = t }

kept_fits : (xs ts : List Term) (y : Term) (ys : List Term) → TermBefore y.mono ys → Absorbed xs y ts → Fits xs ys → Fits ts ys
kept_fits xs ts y [] b a f = tt
kept_fits xs ts y (z ∷ ys) b a f =
    let n : z.mono ≢ y.mono = later_differs y.mono (z ∷ ys) 0 z b (omega arith) refl in
    let c : coefficient z.mono ts ≡ coefficient z.mono xs = a.others z.mono n in
    (((λ k. f.0.0 (sym c ∙ k)), λ k. f.0.1 (ap (λ r. (r + z.phase) % M) (sym c) ∙ k)), kept_fits xs ts y ys b.1 a f.1)

pub absorbing_fits : (xs ys ts : List Term) (i : ℕ) (y : Term) → i < length ys → y ≡ get_or ys i y → Absorbing xs ys i ts → FitsOne ts y
absorbing_fits xs ys ts i y h e s = (subst (Fits ts) (cut ys i y h e) s.left).0

pub absorbing_more : (xs ys ts ts' : List Term) (i : ℕ) (y : Term) → i < length ys → y ≡ get_or ys i y → Absorbed ts y ts' → Absorbing xs ys i ts → Absorbing xs ys (i + 1) ts'
absorbing_more xs ys ts ts' i y h e a s =
    let f : Fits ts (y ∷ drop (i + 1) ys) = subst (Fits ts) (cut ys i y h e) s.left in
    let o : IsPhasePoly (y ∷ drop (i + 1) ys) = subst IsPhasePoly (cut ys i y h e) s.order in
    record {
      form = a.form;
      value = λ w. let v = a.value w in let u = s.value w in let p = phase_more ys i y w h e in omega arith;
      same = λ v. a.same v ∙ s.same v;
      left = kept_fits ts ts' y (drop (i + 1) ys) o.1 a f.1;
      order = o.2;
    }

pub absorbing_value : (xs ys ts : List Term) (i : ℕ) → length ys ≤ i → Absorbing xs ys i ts → (a : ℕ → Bool) → phase_value ts a % M ≡ (phase_value xs a + phase_value ys a) % M
absorbing_value xs ys ts i h s a = s.value a ∙ ap (λ (r : List Term). (phase_value xs a + phase_value r a) % M) (take_all i ys h)

pub not_zero : (n : ℕ) → not (nat_eq n 0) ≡ true → n ≢ 0
not_zero zero h e = absurd (no_way h)
  where
    no_way : false ≡ true → ⊥
    no_way k = cc
not_zero (suc n) h e = absurd (omega arith)
