-- At one variable at most one kind of step applies, and the first step is one.
use Rattle.std.proofs.Common.{◌≡◌, ◌≢◌, ℕ, ◌+◌, refl, ap, sym, ◌∙◌, subst, arith, ◌<◌, ◌≤◌, Bool, true, false, cond, nat_eq, nat_lt, ◌||◌, List, [], ◌∷◌, ◌⊎◌, inl, inr}
use Rattle.std.specs.Cmp.Lexicographic.{pointwise}
use Rattle.std.proofs.lemmas.Bool.{cases_lt}
use Rattle.ps_mono.specs.Sets.{stands}
use Rattle.ps_mono.specs.Lists.{nat_eq_same}
use Rattle.ps_phase.specs.declared.terms.Term.{Term}
use Rattle.ps_phase.specs.Phases.{phase_occurs, coefficient}
use Rattle.ps_phase.proofs.Values.{mono_eq}
use Rattle.ps_sum.specs.declared.sums.PathSum.{PathSum}
use Rattle.ps_rules.specs.declared.steps.Step.{Step}
use Rattle.ps_rules.specs.declared.steps.Step.TheVariants.{Elim, Hh, Omega}
use Rattle.ps_rules.specs.Terms.{EachWith, IsHalf, both}
use Rattle.ps_rules.specs.Rules.{ElimApplies, HhApplies, OmegaApplies, Applies, FirstStep, first_of}

true_or : (p q : Bool) → p ≡ true → (p || q) ≡ true
true_or p q e = ap (λ b. b || q) e

or_true : (p q : Bool) → q ≡ true → (p || q) ≡ true
or_true true q e = refl
or_true false q e = e

-- ---- a product of two variables
pub both_first : (u v : ℕ) → stands u (both u v) ≡ true
unfolding both stands
both_first u v = by (nat_lt u v)
  where
    by : (b : Bool) → stands u (cond b (u ∷ v ∷ []) (v ∷ u ∷ [])) ≡ true
    by true = true_or _ _ (nat_eq_same u)
    by false = or_true _ _ (true_or _ _ (nat_eq_same u))

pub both_second : (u v : ℕ) → stands v (both u v) ≡ true
unfolding both stands
both_second u v = by (nat_lt u v)
  where
    by : (b : Bool) → stands v (cond b (u ∷ v ∷ []) (v ∷ u ∷ [])) ≡ true
    by true = or_true _ _ (true_or _ _ (nat_eq_same v))
    by false = true_or _ _ (nat_eq_same v)

pub alone_stands : (v : ℕ) → stands v (v ∷ []) ≡ true
unfolding stands
alone_stands v = true_or _ _ (nat_eq_same v)

-- ---- a coefficient is that of a term
pub occurs_coefficient : (v : ℕ) (m : List ℕ) (ts : List Term) → stands v m ≡ true → coefficient m ts ≢ 0 → phase_occurs v ts ≡ true
unfolding phase_occurs coefficient
occurs_coefficient v m [] s n = absurd (n refl)
occurs_coefficient v m (t ∷ ts) s n = by (pointwise nat_eq m t.mono) refl n (occurs_coefficient v m ts s)
  where
    by : (b : Bool) → pointwise nat_eq m t.mono ≡ b → cond b t.phase (coefficient m ts) ≢ 0 → (coefficient m ts ≢ 0 → phase_occurs v ts ≡ true) → (stands v t.mono || phase_occurs v ts) ≡ true
    by true e k r = true_or _ _ (ap (stands v) (sym ((mono_eq m t.mono).0 e)) ∙ s)
    by false e k r = or_true _ _ (r k)

pub each_coefficient : (v : ℕ) (R : Term → Type 0) (m : List ℕ) (ts : List Term) → stands v m ≡ true → EachWith v R ts → coefficient m ts ≢ 0 → R (record { mono = m; phase = coefficient m ts })
unfolding coefficient
each_coefficient v R m [] s h n = absurd (n refl)
each_coefficient v R m (t ∷ ts) s h n = by (pointwise nat_eq m t.mono) refl n (each_coefficient v R m ts s h.1)
  where
    by : (b : Bool) → pointwise nat_eq m t.mono ≡ b → cond b t.phase (coefficient m ts) ≢ 0 → (coefficient m ts ≢ 0 → R (record { mono = m; phase = coefficient m ts })) → R (record { mono = m; phase = cond b t.phase (coefficient m ts) })
    by true e k r =
        let d : m ≡ t.mono = (mono_eq m t.mono).0 e in
        subst (λ (x : List ℕ). R (record { mono = x; phase = t.phase })) (sym d) (h.0 (ap (stands v) (sym d) ∙ s))
    by false e k r = r k

none_is_not_some : {b : Bool} → b ≡ false → b ≡ true → ⊥
none_is_not_some e f = cc

-- ---- at one variable
quarter_some : (c : ℕ) → (c ≡ 1073741824) ⊎ (c ≡ 3221225472) → c ≢ 0
quarter_some c (inl e) = λ z. omega arith
quarter_some c (inr e) = λ z. omega arith

quarter_not_half : (c : ℕ) → (c ≡ 1073741824) ⊎ (c ≡ 3221225472) → c ≢ 2147483648
quarter_not_half c (inl e) = λ z. omega arith
quarter_not_half c (inr e) = λ z. omega arith

pub elim_not_hh : (S : PathSum) (y0 y1 : ℕ) → ElimApplies S y0 → HhApplies S y0 y1 → ⊥
elim_not_hh S y0 y1 e h = none_is_not_some e.absent (occurs_coefficient (S.n + y0) (both (S.n + y0) (S.n + y1)) S.phase (both_first (S.n + y0) (S.n + y1)) (λ z. let k = h.product in omega arith))

pub elim_not_omega : (S : PathSum) (y0 : ℕ) → ElimApplies S y0 → OmegaApplies S y0 → ⊥
elim_not_omega S y0 e o = none_is_not_some e.absent (occurs_coefficient (S.n + y0) ((S.n + y0) ∷ []) S.phase (alone_stands (S.n + y0)) (quarter_some _ o.quarter))

pub hh_not_omega : (S : PathSum) (y0 y1 : ℕ) → HhApplies S y0 y1 → OmegaApplies S y0 → ⊥
hh_not_omega S y0 y1 h o = quarter_not_half _ o.quarter (each_coefficient (S.n + y0) IsHalf ((S.n + y0) ∷ []) S.phase (alone_stands (S.n + y0)) h.halves (quarter_some _ o.quarter))

-- two steps are of one kind
abbrev pub SameKind : Step → Step → Type 0
SameKind (Elim y0) (Elim z0) = Unit {0}
SameKind (Elim y0) (Hh z0 z1) = ⊥
SameKind (Elim y0) (Omega z0) = ⊥
SameKind (Hh y0 y1) (Elim z0) = ⊥
SameKind (Hh y0 y1) (Hh z0 z1) = Unit {0}
SameKind (Hh y0 y1) (Omega z0) = ⊥
SameKind (Omega y0) (Elim z0) = ⊥
SameKind (Omega y0) (Hh z0 z1) = ⊥
SameKind (Omega y0) (Omega z0) = Unit {0}

-- at one variable at most one kind of step applies
pub one_kind : (S : PathSum) (s t : Step) → first_of s ≡ first_of t → Applies S s → Applies S t → SameKind s t
one_kind S (Elim y0) (Elim z0) e p q = tt
one_kind S (Elim y0) (Hh z0 z1) e p q = elim_not_hh S z0 z1 (subst (ElimApplies S) e p) q
one_kind S (Elim y0) (Omega z0) e p q = elim_not_omega S z0 (subst (ElimApplies S) e p) q
one_kind S (Hh y0 y1) (Elim z0) e p q = elim_not_hh S y0 y1 (subst (ElimApplies S) (sym e) q) p
one_kind S (Hh y0 y1) (Hh z0 z1) e p q = tt
one_kind S (Hh y0 y1) (Omega z0) e p q = hh_not_omega S y0 y1 p (subst (OmegaApplies S) (sym e) q)
one_kind S (Omega y0) (Elim z0) e p q = elim_not_omega S y0 (subst (ElimApplies S) (sym e) q) p
one_kind S (Omega y0) (Hh z0 z1) e p q = hh_not_omega S z0 z1 q (subst (OmegaApplies S) e p)
one_kind S (Omega y0) (Omega z0) e p q = tt

-- ---- the first step is one
one_place : (S : PathSum) (s t : Step) → FirstStep S s → FirstStep S t → first_of s ≡ first_of t
one_place S s t f g = by (cases_lt (first_of s) (first_of t)) (cases_lt (first_of t) (first_of s))
  where
    by : ((first_of s < first_of t) ⊎ (first_of t ≤ first_of s)) → ((first_of t < first_of s) ⊎ (first_of s ≤ first_of t)) → first_of s ≡ first_of t
    by (inl l) r = absurd (g.least s l f.applies)
    by (inr l) (inl r) = absurd (f.least t r g.applies)
    by (inr l) (inr r) = omega arith

one_second : (S : PathSum) (y0 y1 z0 z1 : ℕ) → y0 ≡ z0 → FirstStep S (Hh y0 y1) → FirstStep S (Hh z0 z1) → y1 ≡ z1
one_second S y0 y1 z0 z1 e f g = by (cases_lt y1 z1) (cases_lt z1 y1)
  where
    by : ((y1 < z1) ⊎ (z1 ≤ y1)) → ((z1 < y1) ⊎ (y1 ≤ z1)) → y1 ≡ z1
    by (inl l) r = absurd (g.second_least y1 l (subst (λ y. HhApplies S y y1) e f.applies))
    by (inr l) (inl r) = absurd (f.second_least z1 r (subst (λ y. HhApplies S y z1) (sym e) g.applies))
    by (inr l) (inr r) = omega arith

pub first_only : (S : PathSum) (s t : Step) → FirstStep S s → FirstStep S t → s ≡ t
first_only S s t f g = by s t f g (one_place S s t f g) (one_kind S s t (one_place S s t f g) f.applies g.applies)
  where
    by : (s t : Step) → FirstStep S s → FirstStep S t → first_of s ≡ first_of t → SameKind s t → s ≡ t
    by (Elim y0) (Elim z0) f g e k = ap Elim e
    by (Elim y0) (Hh z0 z1) f g e k = absurd k
    by (Elim y0) (Omega z0) f g e k = absurd k
    by (Hh y0 y1) (Elim z0) f g e k = absurd k
    by (Hh y0 y1) (Hh z0 z1) f g e k = let d = one_second S y0 y1 z0 z1 e f g in cc
    by (Hh y0 y1) (Omega z0) f g e k = absurd k
    by (Omega y0) (Elim z0) f g e k = absurd k
    by (Omega y0) (Hh z0 z1) f g e k = absurd k
    by (Omega y0) (Omega z0) f g e k = ap Omega e
