-- A polynomial is determined by its values.
use Rattle.std.proofs.Common.{◌≡◌, ◌≢◌, ℕ, ◌%◌, refl, ap, ap₂, sym, ◌∙◌, arith, ◌<◌, Bool, true, false, ◌&&◌, nat_eq, List, [], ◌∷◌, Ordering, Less, Equal, Greater}
use Rattle.std.specs.Bool.{Decides}
use Rattle.std.specs.Cmp.Lexicographic.{pointwise}
use Rattle.std.proofs.lemmas.Bool.Decides.{Decides-eqb}
use Rattle.ps_phase.proofs.Values.{mono_eq}
use Rattle.ps_phase.specs.declared.terms.Term.{Term}
use Rattle.ps_mono.specs.Sets.{mono_cmp, holds, IsVarSet}
use Rattle.ps_mono.specs.Truth.{times}
use Rattle.ps_mono.proofs.Orders.{mono_equal, mono_flip}
use Rattle.ps_mono.proofs.Points.{point, holds-point, holds-earlier_point}
use Rattle.ps_phase.specs.Phases.{phase_value, TermBefore, IsPhasePoly, SameTurns}
use Rattle.ps_phase.proofs.Adding.{M, before_less}

-- terms that come after m are off at the point of m
pub value_off : (m : List ℕ) (ts : List Term) → IsVarSet m → IsPhasePoly ts → TermBefore m ts → phase_value ts (point m) ≡ 0
unfolding phase_value times
value_off m [] s p b = refl
value_off m (t ∷ ts) s p b =
    let h : times (holds t.mono (point m)) t.phase ≡ 0 = ap (λ c. times c t.phase) (holds-earlier_point m t.mono s p.0.set b.0) in
    let r = value_off m ts s p.2 b.1 in
    omega arith

-- at the point of its least monomial a polynomial is worth that monomial's coefficient
pub value_at_least : (t : Term) (ts : List Term) → IsPhasePoly (t ∷ ts) → phase_value (t ∷ ts) (point t.mono) ≡ t.phase
unfolding phase_value times
value_at_least t ts p =
    let h : times (holds t.mono (point t.mono)) t.phase ≡ t.phase = ap (λ c. times c t.phase) (holds-point t.mono) in
    let r = value_off t.mono ts p.0.set p.2 p.1 in
    omega arith

-- a term is never worth whole turns
turns_not : (x y : ℕ) → x ≢ 0 → x < M → x % M ≡ y % M → y ≡ 0 → ⊥
turns_not x y n l e z = n (omega arith)

pub same_terms : (f g : List Term) → IsPhasePoly f → IsPhasePoly g → SameTurns f g → f ≡ g
unfolding phase_value
same_terms [] [] s t h = refl
same_terms [] (k ∷ g) s t h = absurd (turns_not k.phase 0 t.0.turns t.0.small (ap (λ n. n % M) (sym (value_at_least k g t)) ∙ sym (h (point k.mono))) refl)
same_terms (m ∷ f) [] s t h = absurd (turns_not m.phase 0 s.0.turns s.0.small (ap (λ n. n % M) (sym (value_at_least m f s)) ∙ h (point m.mono)) refl)
same_terms (m ∷ f) (k ∷ g) s t h = by (λ d. same_terms f g s.2 t.2 d) (mono_cmp m.mono k.mono) refl
  where
    tails : m.mono ≡ k.mono → m.phase ≡ k.phase → SameTurns f g
    tails d p a =
        let e = h a in
        let q = ap₂ (λ (x : List ℕ) (y : ℕ). times (holds x a) y) d p in
        omega arith

    by : (SameTurns f g → f ≡ g) → (o : Ordering) → mono_cmp m.mono k.mono ≡ o → m ∷ f ≡ k ∷ g
    by ih Less o = absurd (turns_not m.phase _ s.0.turns s.0.small (ap (λ n. n % M) (sym (value_at_least m f s)) ∙ h (point m.mono)) (value_off m.mono (k ∷ g) s.0.set t (o, before_less m.mono k.mono g o t.1)))
    by ih Greater o = let l = mono_flip m.mono k.mono o in absurd (turns_not k.phase _ t.0.turns t.0.small (ap (λ n. n % M) (sym (value_at_least k g t)) ∙ sym (h (point k.mono))) (value_off k.mono (m ∷ f) t.0.set s (l, before_less k.mono m.mono f l s.1)))
    by ih Equal o =
        let d : m.mono ≡ k.mono = mono_equal m.mono k.mono o in
        let u : phase_value (m ∷ f) (point m.mono) ≡ m.phase = value_at_least m f s in
        let w : phase_value (k ∷ g) (point m.mono) ≡ k.phase = ap (λ x. phase_value (k ∷ g) (point x)) d ∙ value_at_least k g t in
        let e = h (point m.mono) in
        let lm = s.0.small in
        let lk = t.0.small in
        let p : m.phase ≡ k.phase = omega arith in
        ap₂ (λ (x : Term) (y : List Term). x ∷ y) (ap₂ (λ (x : List ℕ) (y : ℕ). record { mono = x; phase = y }) d p) (ih (tails d p))

-- lists that are equal exactly where r is true, and their values
pub same_values : (r : Bool) (p q f g : List Term) → Decides r (f ≡ g) → f ≡ p → g ≡ q → IsPhasePoly f → IsPhasePoly g → (r ≡ true → SameTurns p q) × (SameTurns p q → r ≡ true)
same_values r p q f g d ef eg s t = (
  λ y a. ap (λ (u : List Term). phase_value u a % M) (sym ef ∙ d.0 y ∙ eg),
  λ h. d.1 (same_terms f g s t (λ a. ap (λ (u : List Term). phase_value u a % M) ef ∙ h a ∙ sym (ap (λ (u : List Term). phase_value u a % M) eg))),
)

both_true : (p q : Bool) → (p && q) ≡ true → (p ≡ true) × (q ≡ true)
both_true true q e = (refl, e)
both_true false q e = absurd (off e)
  where
    off : false ≡ true → ⊥
    off e = cc

pub term_eq : (s t : Term) → Decides (pointwise nat_eq s.mono t.mono && nat_eq s.phase t.phase) (s ≡ t)
term_eq s t =
    let d : Decides (pointwise nat_eq s.mono t.mono) (s.mono ≡ t.mono) = mono_eq s.mono t.mono in
    let f : Decides (nat_eq s.phase t.phase) (s.phase ≡ t.phase) = Decides-eqb s.phase t.phase in (
      λ e. let b = both_true (pointwise nat_eq s.mono t.mono) (nat_eq s.phase t.phase) e in ap₂ (λ (x : List ℕ) (y : ℕ). record { mono = x; phase = y }) (d.0 b.0) (f.0 b.1),
      λ e. ap₂ (λ (x y : Bool). x && y) (d.1 (ap (λ (x : Term). x.mono) e)) (f.1 (ap (λ (x : Term). x.phase) e)),
    )
