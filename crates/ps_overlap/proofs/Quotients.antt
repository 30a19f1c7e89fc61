-- The terms with a variable, divided by it.
use Rattle.std.proofs.Common.{◌≡◌, ◌≢◌, ℕ, ◌+◌, ◌%◌, refl, ap, ap₂, ◌∙◌, arith, ◌<◌, ◌≤◌, Bool, true, false, ◌&&◌, ◌||◌, cond, nat_eq, List, [], ◌∷◌}
use Rattle.ps_mono.specs.Sets.{stands, holds, IsVarSet, Below}
use Rattle.ps_mono.specs.Lists.{nat_eq_true}
use Rattle.ps_mono.specs.Truth.{times, differ}
use Rattle.ps_bool.specs.Polys.{bool_value, occurs, Before, Ascending, AllSets, IsPoly}
use Rattle.ps_bool.proofs.Unique.{bool_value-agree}
use Rattle.ps_phase.specs.declared.terms.Term.{Term}
use Rattle.ps_phase.specs.Phases.{phase_value, phase_occurs, TermBefore, IsPhasePoly}
use Rattle.ps_phase.specs.Adding.{terms_where, terms_with, terms_without}
use Rattle.ps_phase.proofs.Scaling.{split_value}
use Rattle.ps_phase.proofs.Values.{phase_agree}
use Rattle.ps_ring.specs.Readings.{Assignment, Ignores}
use Rattle.ps_overlap.specs.Overlapping.{EachTerm, divided}
use Rattle.ps_overlap.proofs.Dividing.{divided_set, divided_less, holds_divided}

clash : {b : Bool} → b ≡ true → b ≡ false → ⊥
clash e f = cc

-- the monomials of the terms, each divided by v
abbrev pub quotients : ℕ → List Term → List (List ℕ)
quotients v [] = []
quotients v (t ∷ ts) = divided v t.mono ∷ quotients v ts

abbrev pub AllHave : ℕ → List Term → Type 0
AllHave v ts = EachTerm (λ t. stands v t.mono ≡ true) ts

pub all_have : (v : ℕ) (ts : List Term) → AllHave v (terms_with v ts)
unfolding terms_where differ
all_have v [] = tt
all_have v (t ∷ ts) = by (stands v t.mono) refl (all_have v ts)
  where
    by : (b : Bool) → stands v t.mono ≡ b → AllHave v (terms_where true v ts) → AllHave v (cond (differ true b) (terms_where true v ts) (t ∷ terms_where true v ts))
    by true e r = (e, r)
    by false e r = r

-- ---- their form
quotient_before : (v : ℕ) (m : List ℕ) (ts : List Term) → IsVarSet m → stands v m ≡ true → TermBefore m ts → IsPhasePoly ts → AllHave v ts → Before (divided v m) (quotients v ts)
quotient_before v m [] s h b p a = tt
quotient_before v m (t ∷ ts) s h b p a = (divided_less v m t.mono s p.0.set h a.0 b.0, quotient_before v m ts s h b.1 p.2 a.1)

quotients_ascend : (v : ℕ) (ts : List Term) → IsPhasePoly ts → AllHave v ts → Ascending (quotients v ts)
quotients_ascend v [] p a = tt
quotients_ascend v (t ∷ ts) p a = (quotient_before v t.mono ts p.0.set a.0 p.1 p.2 a.1, quotients_ascend v ts p.2 a.1)

quotients_sets : (v : ℕ) (ts : List Term) → IsPhasePoly ts → AllSets (quotients v ts)
quotients_sets v [] p = tt
quotients_sets v (t ∷ ts) p = (divided_set v t.mono p.0.set, quotients_sets v ts p.2)

pub quotients_poly : (v : ℕ) (ts : List Term) → IsPhasePoly ts → AllHave v ts → IsPoly (quotients v ts)
quotients_poly v ts p a = record { in_order = quotients_ascend v ts p a; sets = quotients_sets v ts p }

-- ---- their value
half_step : (b h r : Bool) (x : ℕ) → x % 4294967296 ≡ cond (b && r) 2147483648 0 % 4294967296 → (times (b && h) 2147483648 + x) % 4294967296 ≡ cond (b && differ h r) 2147483648 0 % 4294967296
unfolding times differ
half_step true true true x e = omega arith
half_step true true false x e = omega arith
half_step true false true x e = omega arith
half_step true false false x e = omega arith
half_step false true true x e = omega arith
half_step false true false x e = omega arith
half_step false false true x e = omega arith
half_step false false false x e = omega arith

half_values : (v : ℕ) (ts : List Term) (a : Assignment) → AllHave v ts → EachTerm (λ t. t.phase ≡ 2147483648) ts → phase_value ts a % 4294967296 ≡ cond (a v && bool_value (quotients v ts) a) 2147483648 0 % 4294967296
unfolding phase_value bool_value
half_values v [] a h p = none (a v)
  where
    none : (b : Bool) → 0 % 4294967296 ≡ cond (b && false) 2147483648 0 % 4294967296
    none true = refl
    none false = refl
half_values v (t ∷ ts) a h p =
    ap₂ (λ (c : Bool) (q : ℕ). (times c q + phase_value ts a) % 4294967296) (holds_divided v t.mono a h.0) p.0
    ∙ half_step (a v) (holds (divided v t.mono) a) (bool_value (quotients v ts) a) (phase_value ts a) (half_values v ts a h.1 p.1)

two_kinds : (x y p c : ℕ) → x + y ≡ p → y % 4294967296 ≡ c % 4294967296 → p % 4294967296 ≡ (x + c) % 4294967296
two_kinds x y p c e f = omega arith

pub phase_was : (v : ℕ) (ts : List Term) → EachTerm (λ t. t.phase ≡ 2147483648) (terms_with v ts) → (a : Assignment)
    → phase_value ts a % 4294967296 ≡ (phase_value (terms_without v ts) a + cond (a v && bool_value (quotients v (terms_with v ts)) a) 2147483648 0) % 4294967296
phase_was v ts h a = two_kinds (phase_value (terms_without v ts) a) (phase_value (terms_with v ts) a) (phase_value ts a) _ (split_value v ts a) (half_values v (terms_with v ts) a (all_have v ts) h)

-- ---- their variables
none_left : (v : ℕ) (ts : List Term) → phase_occurs v (terms_without v ts) ≡ false
unfolding terms_where phase_occurs differ
none_left v [] = refl
none_left v (t ∷ ts) = by (stands v t.mono) refl (none_left v ts)
  where
    by : (q : Bool) → stands v t.mono ≡ q → phase_occurs v (terms_where false v ts) ≡ false → phase_occurs v (cond (differ false q) (terms_where false v ts) (t ∷ terms_where false v ts)) ≡ false
    by true e r = r
    by false e r = ap₂ (λ (x y : Bool). x || y) e r

pub rest_free : (v : ℕ) (ts : List Term) → Ignores ℕ v (phase_value (terms_without v ts))
rest_free v ts a b h = phase_agree (terms_without v ts) a b (λ u o. h u (λ e. clash o (ap (λ w. phase_occurs w (terms_without v ts)) e ∙ none_left v ts)))

pub below_stands : (n u : ℕ) (m : List ℕ) → Below n m → stands u m ≡ true → u < n
unfolding stands
below_stands n u [] b h = absurd (off h)
  where
    off : false ≡ true → ⊥
    off e = cc
below_stands n u (w ∷ m) b h = by (nat_eq u w) refl h (below_stands n u m b.1)
  where
    by : (t : Bool) → nat_eq u w ≡ t → (t || stands u m) ≡ true → (stands u m ≡ true → u < n) → u < n
    by true e k ih = let d : u ≡ w = nat_eq_true u w e in let l : w < n = b.0 in omega arith
    by false e k ih = ih k

pub quotients_below : (n v u : ℕ) (ts : List Term) → EachTerm (λ t. Below n (divided v t.mono)) ts → occurs u (quotients v ts) ≡ true → u < n
unfolding occurs
quotients_below n v u [] b h = absurd (off h)
  where
    off : false ≡ true → ⊥
    off e = cc
quotients_below n v u (t ∷ ts) b h = by (stands u (divided v t.mono)) refl h (quotients_below n v u ts b.1)
  where
    by : (q : Bool) → stands u (divided v t.mono) ≡ q → (q || occurs u (quotients v ts)) ≡ true → (occurs u (quotients v ts) ≡ true → u < n) → u < n
    by true e k ih = below_stands n u (divided v t.mono) b.0 e
    by false e k ih = ih k

pub value_free : (n v : ℕ) (ts : List Term) → n ≤ v → EachTerm (λ t. Below n (divided v t.mono)) ts → Ignores Bool v (bool_value (quotients v ts))
value_free n v ts l b a c h = bool_value-agree (quotients v ts) a c (λ u o. let m : u < n = quotients_below n v u ts b o in let d : u ≢ v = omega arith in h u d)
