-- Polynomials under the names that a join gives the second sum's variables.
use Rattle.std.proofs.Common.{◌≡◌, ℕ, zero, suc, ◌+◌, ◌%◌, refl, ap, ap₂, sym, ◌∙◌, arith, ◌<◌, ◌≤◌, Bool, true, false, nat_eq, ◌||◌, List, [], ◌∷◌, ◌++◌, length, take, get_or, ◌⊎◌, inl, inr}
use Rattle.std.proofs.lemmas.Bool.Decides.{nat_tests}
use Rattle.std.proofs.lemmas.Bool.{cases_lt}
use Rattle.std.proofs.lemmas.List.{take_more, take_all}
use Rattle.ps_mono.specs.Sets.{holds, stands}
use Rattle.ps_mono.specs.Lists.{nat_eq_true, nat_eq_same}
use Rattle.ps_mono.specs.Truth.{times, differ}
use Rattle.ps_mono.proofs.Laws.{holds_at, fails}
use Rattle.ps_mono.proofs.Truths.{holds_all, holds_not}
use Rattle.ps_ring.specs.Readings.{Assignment, second_name}
use Rattle.ps_bool.specs.Polys.{bool_value, occurs, IsPoly}
use Rattle.ps_phase.specs.declared.terms.Term.{Term}
use Rattle.ps_phase.specs.Phases.{phase_value, phase_occurs, IsPhasePoly}
use Rattle.ps_phase.proofs.Adding.{neither, no_or}
use Rattle.ps_phase.proofs.Values.{phase_append, one_value, phase_more, free_push}
use Rattle.ps_sum.proofs.Lifts.{occurs_get, bool_push, mono_free}
use Rattle.ps_join.specs.Naming.{stands_as}
use Rattle.ps_join.specs.Joining.{PhaseNamed, BoolNamed}

-- ---- one name
pub name_front : (n m1 m2 v r : ℕ) → v < n → r ≡ n + (m1 + m2) + v → r ≡ second_name n m1 m2 v
unfolding second_name
name_front n m1 m2 v r h e = grind (arith, nat_tests)

pub name_back : (n m1 m2 v : ℕ) → n ≤ v → v + m1 ≡ second_name n m1 m2 v
unfolding second_name
name_back n m1 m2 v h = grind (arith, nat_tests)

-- an own name is that of its input alone, and names below are those of path variables
pub name_of_own : (n m1 m2 i u : ℕ) → i < n → n + (m1 + m2) + i ≡ second_name n m1 m2 u → (u ≡ i) ⊎ (n + m2 ≤ u)
unfolding second_name
name_of_own n m1 m2 i u h e = by (cases_lt u n)
  where
    by : ((u < n) ⊎ (n ≤ u)) → (u ≡ i) ⊎ (n + m2 ≤ u)
    by (inl l) = inl (grind (arith, nat_tests))
    by (inr l) = inr (grind (arith, nat_tests))

pub name_past : (n m1 m2 w u : ℕ) → n + (m1 + m2) + n ≤ w → w ≡ second_name n m1 m2 u → n + m2 ≤ u
unfolding second_name
name_past n m1 m2 w u h e = by (cases_lt u n)
  where
    by : ((u < n) ⊎ (n ≤ u)) → n + m2 ≤ u
    by (inl l) = absurd (grind (arith, nat_tests))
    by (inr l) = grind (arith, nat_tests)

-- ---- one monomial
pub stands_there : (m : List ℕ) (i u : ℕ) → i < length m → u ≡ get_or m i 0 → stands u m ≡ true
unfolding stands
stands_there [] i u h e = absurd (omega arith)
stands_there (x ∷ m) zero u h e = ap (λ k. nat_eq k x || stands k m) e ∙ ap (λ b. b || stands x m) (nat_eq_same x)
stands_there (x ∷ m) (suc i) u h e = later (nat_eq u x) (stands u m) (stands_there m i u (omega arith) e)
  where
    later : (p q : Bool) → q ≡ true → (p || q) ≡ true
    later true q e = refl
    later false q e = e

clash : {b : Bool} → b ≡ true → b ≡ false → ⊥
clash e f = cc

pub var_below : (m : List ℕ) (i u b : ℕ) → i < length m → u ≡ get_or m i 0 → ((v : ℕ) → b ≤ v → stands v m ≡ false) → u < b
var_below m i u b h e f = by (cases_lt u b)
  where
    by : ((u < b) ⊎ (b ≤ u)) → u < b
    by (inl l) = l
    by (inr l) = absurd (clash (stands_there m i u h e) (f u l))

pub as_start : (n m1 m2 : ℕ) (m k : List ℕ) → k ≡ [] → (w : ℕ) → stands w k ≡ stands_as n m1 m2 w (take 0 m)
unfolding stands stands_as
as_start n m1 m2 m k e w = ap (stands w) e

as_push : (n m1 m2 w : ℕ) (m : List ℕ) (u : ℕ) → stands_as n m1 m2 w (m ++ u ∷ []) ≡ (stands_as n m1 m2 w m || nat_eq w (second_name n m1 m2 u))
unfolding stands_as
as_push n m1 m2 w [] u = or_none (nat_eq w (second_name n m1 m2 u))
  where
    or_none : (b : Bool) → (b || false) ≡ b
    or_none true = refl
    or_none false = refl
as_push n m1 m2 w (x ∷ m) u = ap (λ b. nat_eq w (second_name n m1 m2 x) || b) (as_push n m1 m2 w m u) ∙ or_move (nat_eq w (second_name n m1 m2 x)) (stands_as n m1 m2 w m) (nat_eq w (second_name n m1 m2 u))
  where
    or_move : (p q r : Bool) → (p || (q || r)) ≡ ((p || q) || r)
    or_move true q r = refl
    or_move false q r = refl

stands_one : (w u : ℕ) → stands w (u ∷ []) ≡ nat_eq w u
unfolding stands
stands_one w u = or_none (nat_eq w u)
  where
    or_none : (b : Bool) → (b || false) ≡ b
    or_none true = refl
    or_none false = refl

-- u stands at place i, and c is its name
pub as_more : (n m1 m2 : ℕ) (m k k' one : List ℕ) (i u c : ℕ) → i < length m → u ≡ get_or m i 0 → c ≡ second_name n m1 m2 u → one ≡ c ∷ [] → ((w : ℕ) → stands w k' ≡ (stands w k || stands w one))
    → ((w : ℕ) → stands w k ≡ stands_as n m1 m2 w (take i m)) → (w : ℕ) → stands w k' ≡ stands_as n m1 m2 w (take (i + 1) m)
as_more n m1 m2 m k k' one i u c h eu ec eo f g w =
    let t = take_more m i 0 h ∙ ap (λ (x : ℕ). take i m ++ x ∷ []) (sym eu) in
    f w ∙ ap₂ (λ (x y : Bool). x || y) (g w) (ap (stands w) (eo ∙ ap (λ (x : ℕ). x ∷ []) ec) ∙ stands_one w (second_name n m1 m2 u))
    ∙ sym (ap (stands_as n m1 m2 w) t ∙ as_push n m1 m2 w (take i m) u)

pub as_end : (n m1 m2 : ℕ) (m k : List ℕ) (i d : ℕ) → d ≡ length m → d ≤ i → ((w : ℕ) → stands w k ≡ stands_as n m1 m2 w (take i m)) → (w : ℕ) → stands w k ≡ stands_as n m1 m2 w m
as_end n m1 m2 m k i d ed h g w = g w ∙ ap (stands_as n m1 m2 w) (take_all i m (omega arith))

record Source (n m1 m2 w : ℕ) (m : List ℕ) : Type 0 where
  u : ℕ
  here : stands u m ≡ true
  named : w ≡ second_name n m1 m2 u

as_source : (n m1 m2 w : ℕ) (m : List ℕ) → stands_as n m1 m2 w m ≡ true → Source n m1 m2 w m
unfolding stands_as stands
as_source n m1 m2 w [] e = absurd (off e)
  where
    off : false ≡ true → ⊥
    off e = cc
as_source n m1 m2 w (x ∷ m) e = by (nat_eq w (second_name n m1 m2 x)) refl e (as_source n m1 m2 w m)
  where
    later : (p q : Bool) → q ≡ true → (p || q) ≡ true
    later true q e = refl
    later false q e = e

    by : (b : Bool) → nat_eq w (second_name n m1 m2 x) ≡ b → (b || stands_as n m1 m2 w m) ≡ true → (stands_as n m1 m2 w m ≡ true → Source n m1 m2 w m) → Source n m1 m2 w (x ∷ m)
    by true f g r = record { u = x; here = ap (λ b. b || stands x m) (nat_eq_same x); named = nat_eq_true w (second_name n m1 m2 x) f }
    by false f g r = let s = r g in record { u = s.u; here = later (nat_eq s.u x) (stands s.u m) s.here; named = s.named }

as_stands : (n m1 m2 u : ℕ) (m : List ℕ) → stands u m ≡ true → stands_as n m1 m2 (second_name n m1 m2 u) m ≡ true
unfolding stands_as stands
as_stands n m1 m2 u [] e = e
as_stands n m1 m2 u (x ∷ m) e = by (nat_eq u x) refl e (as_stands n m1 m2 u m)
  where
    or_later : (p q : Bool) → q ≡ true → (p || q) ≡ true
    or_later true q e = refl
    or_later false q e = e

    by : (b : Bool) → nat_eq u x ≡ b → (b || stands u m) ≡ true → (stands u m ≡ true → stands_as n m1 m2 (second_name n m1 m2 u) m ≡ true) → (nat_eq (second_name n m1 m2 u) (second_name n m1 m2 x) || stands_as n m1 m2 (second_name n m1 m2 u) m) ≡ true
    by true f g r = ap (λ (v : ℕ). nat_eq (second_name n m1 m2 u) (second_name n m1 m2 v) || stands_as n m1 m2 (second_name n m1 m2 u) m) (sym (nat_eq_true u x f)) ∙ ap (λ b. b || stands_as n m1 m2 (second_name n m1 m2 u) m) (nat_eq_same (second_name n m1 m2 u))
    by false f g r = or_later _ _ (r g)

pub holds_named : (n m1 m2 : ℕ) (m k : List ℕ) → ((w : ℕ) → stands w k ≡ stands_as n m1 m2 w m) → (a : Assignment) → holds k a ≡ holds m (λ v. a (second_name n m1 m2 v))
holds_named n m1 m2 m k f a = by (holds m (λ v. a (second_name n m1 m2 v))) refl
  where
    by : (t : Bool) → holds m (λ v. a (second_name n m1 m2 v)) ≡ t → holds k a ≡ t
    by true e = holds_all k a (λ w s. let r = as_source n m1 m2 w m (sym (f w) ∙ s) in ap a r.named ∙ holds_at m (λ v. a (second_name n m1 m2 v)) r.u e r.here)
    by false e =
        let x = fails m (λ v. a (second_name n m1 m2 v)) e in
        holds_not k a (second_name n m1 m2 x.0) (f (second_name n m1 m2 x.0) ∙ as_stands n m1 m2 x.0 m x.1) x.2

-- a name of no variable of m
as_free : (n m1 m2 w : ℕ) (m : List ℕ) → ((u : ℕ) → w ≡ second_name n m1 m2 u → stands u m ≡ false) → stands_as n m1 m2 w m ≡ false
as_free n m1 m2 w m f = by (stands_as n m1 m2 w m) refl
  where
    by : (t : Bool) → stands_as n m1 m2 w m ≡ t → t ≡ false
    by true e = let r = as_source n m1 m2 w m e in absurd (clash r.here (f r.u r.named))
    by false e = refl

-- ---- terms
pub record NamedTerms (n m1 m2 : ℕ) (ts : List Term) (i : ℕ) (out : List Term) : Type 0 where
  pub value : (a : Assignment) → phase_value out a ≡ phase_value (take i ts) (λ v. a (second_name n m1 m2 v))
  pub free : (w : ℕ) → ((u : ℕ) → w ≡ second_name n m1 m2 u → phase_occurs u ts ≡ false) → phase_occurs w out ≡ false

pub terms_start : (n m1 m2 : ℕ) (ts out : List Term) → out ≡ [] → NamedTerms n m1 m2 ts 0 out
unfolding phase_value phase_occurs
terms_start n m1 m2 ts out e = record { value = λ a. ap (λ (r : List Term). phase_value r a) e; free = λ w f. ap (phase_occurs w) e }

pub terms_more : (n m1 m2 : ℕ) (ts out out' : List Term) (i : ℕ) (t : Term) (k : List ℕ) → i < length ts → t ≡ get_or ts i t → ((w : ℕ) → stands w k ≡ stands_as n m1 m2 w t.mono) → out' ≡ out ++ record { mono = k; phase = t.phase } ∷ []
    → NamedTerms n m1 m2 ts i out → NamedTerms n m1 m2 ts (i + 1) out'
terms_more n m1 m2 ts out out' i t k h et f e s = record {
  value = λ a.
      let b = λ (v : ℕ). a (second_name n m1 m2 v) in
      ap (λ (r : List Term). phase_value r a) e ∙ phase_append out _ a
      ∙ ap₂ (λ (x y : ℕ). x + y) (s.value a) (one_value (record { mono = k; phase = t.phase }) a ∙ ap (λ c. times c t.phase) (holds_named n m1 m2 t.mono k f a))
      ∙ sym (phase_more ts i t b h et);
  free = λ w o. ap (phase_occurs w) e ∙ free_push w out _ (s.free w o) (f w ∙ as_free n m1 m2 w t.mono (λ u d. occurs_get u ts i t h et (o u d)));
}

pub terms_named : (n m1 m2 : ℕ) (p ts out vs : List Term) (i : ℕ) → ts ≡ p → length ts ≤ i → NamedTerms n m1 m2 ts i out → ((a : Assignment) → phase_value vs a % 4294967296 ≡ phase_value out a % 4294967296) → IsPhasePoly vs → PhaseNamed n m1 m2 p vs
terms_named n m1 m2 p ts out vs i ep h s e f = record {
  form = f;
  value = λ a. e a ∙ ap (λ n. n % 4294967296) (s.value a ∙ ap (λ (r : List Term). phase_value r (λ v. a (second_name n m1 m2 v))) (take_all i ts h ∙ ep));
}

never : (r s : Bool) → (r ≡ true → s ≡ true) → s ≡ false → r ≡ false
never true s h e = sym (h refl) ∙ e
never false s h e = refl

pub terms_free : (n m1 m2 : ℕ) (p ts out vs : List Term) (i : ℕ) → ts ≡ p → NamedTerms n m1 m2 ts i out → ((w : ℕ) → phase_occurs w vs ≡ true → phase_occurs w out ≡ true)
    → (w : ℕ) → ((u : ℕ) → w ≡ second_name n m1 m2 u → phase_occurs u p ≡ false) → phase_occurs w vs ≡ false
terms_free n m1 m2 p ts out vs i ep s e w h = never (phase_occurs w vs) (phase_occurs w out) (e w) (s.free w (λ u d. ap (phase_occurs u) ep ∙ h u d))

pub term_below : (ts p : List Term) (i b : ℕ) (t : Term) → ts ≡ p → i < length ts → t ≡ get_or ts i t → ((v : ℕ) → b ≤ v → phase_occurs v p ≡ false) → (v : ℕ) → b ≤ v → stands v t.mono ≡ false
term_below ts p i b t ep h et f v l = occurs_get v ts i t h et (ap (phase_occurs v) ep ∙ f v l)

-- ---- monomials
pub record NamedMonos (n m1 m2 : ℕ) (f : List (List ℕ)) (i : ℕ) (out : List (List ℕ)) : Type 0 where
  pub value : (a : Assignment) → bool_value out a ≡ bool_value (take i f) (λ v. a (second_name n m1 m2 v))
  pub free : (w : ℕ) → ((u : ℕ) → w ≡ second_name n m1 m2 u → occurs u f ≡ false) → occurs w out ≡ false

pub monos_start : (n m1 m2 : ℕ) (f out : List (List ℕ)) → out ≡ [] → NamedMonos n m1 m2 f 0 out
unfolding bool_value occurs
monos_start n m1 m2 f out e = record { value = λ a. ap (λ (r : List (List ℕ)). bool_value r a) e; free = λ w g. ap (occurs w) e }

occurs_push : (w : ℕ) (f : List (List ℕ)) (m : List ℕ) → occurs w f ≡ false → stands w m ≡ false → occurs w (f ++ m ∷ []) ≡ false
unfolding occurs
occurs_push w [] m h s = ap (λ b. b || false) s
occurs_push w (k ∷ f) m h s = let n = neither (stands w k) (occurs w f) h in no_or _ _ n.0 (occurs_push w f m n.1 s)

pub monos_more : (n m1 m2 : ℕ) (f out out' : List (List ℕ)) (i : ℕ) (m k : List ℕ) → i < length f → m ≡ get_or f i m → ((w : ℕ) → stands w k ≡ stands_as n m1 m2 w m) → out' ≡ out ++ k ∷ []
    → NamedMonos n m1 m2 f i out → NamedMonos n m1 m2 f (i + 1) out'
monos_more n m1 m2 f out out' i m k h em g e s = record {
  value = λ a.
      let b = λ (v : ℕ). a (second_name n m1 m2 v) in
      let t = take_more f i m h ∙ ap (λ (r : List ℕ). take i f ++ r ∷ []) (sym em) in
      ap (λ (r : List (List ℕ)). bool_value r a) e ∙ bool_push out k a ∙ ap₂ differ (s.value a) (holds_named n m1 m2 m k g a)
      ∙ sym (ap (λ (r : List (List ℕ)). bool_value r b) t ∙ bool_push (take i f) m b);
  free = λ w o. ap (occurs w) e ∙ occurs_push w out k (s.free w o) (g w ∙ as_free n m1 m2 w m (λ u d. mono_free u f i m h em (o u d)));
}

pub monos_named : (n m1 m2 : ℕ) (p f out vs : List (List ℕ)) (i : ℕ) → f ≡ p → length f ≤ i → NamedMonos n m1 m2 f i out → ((a : Assignment) → bool_value vs a ≡ bool_value out a) → IsPoly vs → BoolNamed n m1 m2 p vs
monos_named n m1 m2 p f out vs i ep h s e g = record {
  form = g;
  value = λ a. e a ∙ s.value a ∙ ap (λ (r : List (List ℕ)). bool_value r (λ v. a (second_name n m1 m2 v))) (take_all i f h ∙ ep);
}

pub monos_free : (n m1 m2 : ℕ) (p f out vs : List (List ℕ)) (i : ℕ) → f ≡ p → NamedMonos n m1 m2 f i out → ((w : ℕ) → occurs w vs ≡ true → occurs w out ≡ true)
    → (w : ℕ) → ((u : ℕ) → w ≡ second_name n m1 m2 u → occurs u p ≡ false) → occurs w vs ≡ false
monos_free n m1 m2 p f out vs i ep s e w h = never (occurs w vs) (occurs w out) (e w) (s.free w (λ u d. ap (occurs u) ep ∙ h u d))

pub mono_below : (f p : List (List ℕ)) (i b : ℕ) (m : List ℕ) → f ≡ p → i < length f → m ≡ get_or f i m → ((v : ℕ) → b ≤ v → occurs v p ≡ false) → (v : ℕ) → b ≤ v → stands v m ≡ false
mono_below f p i b m ep h em g v l = mono_free v f i m h em (ap (occurs v) ep ∙ g v l)

-- ---- which variables stand
phase_push : (v : ℕ) (ts : List Term) (t : Term) → phase_occurs v (ts ++ t ∷ []) ≡ (phase_occurs v ts || stands v t.mono)
unfolding phase_occurs
phase_push v [] t = or_none (stands v t.mono)
  where
    or_none : (b : Bool) → (b || false) ≡ b
    or_none true = refl
    or_none false = refl
phase_push v (x ∷ ts) t = ap (λ b. stands v x.mono || b) (phase_push v ts t) ∙ or_move (stands v x.mono) (phase_occurs v ts) (stands v t.mono)
  where
    or_move : (p q r : Bool) → (p || (q || r)) ≡ ((p || q) || r)
    or_move true q r = refl
    or_move false q r = refl

pub support_start : (ts : List Term) (k : List ℕ) → k ≡ [] → (v : ℕ) → stands v k ≡ phase_occurs v (take 0 ts)
unfolding stands phase_occurs
support_start ts k e v = ap (stands v) e

pub support_more : (ts : List Term) (i : ℕ) (t : Term) (k k' : List ℕ) → i < length ts → t ≡ get_or ts i t → ((v : ℕ) → stands v k' ≡ (stands v k || stands v t.mono)) → ((v : ℕ) → stands v k ≡ phase_occurs v (take i ts))
    → (v : ℕ) → stands v k' ≡ phase_occurs v (take (i + 1) ts)
support_more ts i t k k' h et f g v =
    f v ∙ ap (λ b. b || stands v t.mono) (g v) ∙ sym (phase_push v (take i ts) t)
    ∙ sym (ap (phase_occurs v) (take_more ts i t h ∙ ap (λ (r : Term). take i ts ++ r ∷ []) (sym et)))

pub support_end : (p ts : List Term) (i : ℕ) (k : List ℕ) → ts ≡ p → length ts ≤ i → ((v : ℕ) → stands v k ≡ phase_occurs v (take i ts)) → (v : ℕ) → stands v k ≡ phase_occurs v p
support_end p ts i k ep h g v = g v ∙ ap (phase_occurs v) (take_all i ts h ∙ ep)

bool_pushed : (v : ℕ) (f : List (List ℕ)) (m : List ℕ) → occurs v (f ++ m ∷ []) ≡ (occurs v f || stands v m)
unfolding occurs
bool_pushed v [] m = or_none (stands v m)
  where
    or_none : (b : Bool) → (b || false) ≡ b
    or_none true = refl
    or_none false = refl
bool_pushed v (x ∷ f) m = ap (λ b. stands v x || b) (bool_pushed v f m) ∙ or_move (stands v x) (occurs v f) (stands v m)
  where
    or_move : (p q r : Bool) → (p || (q || r)) ≡ ((p || q) || r)
    or_move true q r = refl
    or_move false q r = refl

pub bool_support_start : (f : List (List ℕ)) (k : List ℕ) → k ≡ [] → (v : ℕ) → stands v k ≡ occurs v (take 0 f)
unfolding stands occurs
bool_support_start f k e v = ap (stands v) e

pub bool_support_more : (f : List (List ℕ)) (i : ℕ) (m k k' : List ℕ) → i < length f → m ≡ get_or f i m → ((v : ℕ) → stands v k' ≡ (stands v k || stands v m)) → ((v : ℕ) → stands v k ≡ occurs v (take i f))
    → (v : ℕ) → stands v k' ≡ occurs v (take (i + 1) f)
bool_support_more f i m k k' h em g s v =
    g v ∙ ap (λ b. b || stands v m) (s v) ∙ sym (bool_pushed v (take i f) m)
    ∙ sym (ap (occurs v) (take_more f i m h ∙ ap (λ (r : List ℕ). take i f ++ r ∷ []) (sym em)))

pub bool_support_end : (p f : List (List ℕ)) (i : ℕ) (k : List ℕ) → f ≡ p → length f ≤ i → ((v : ℕ) → stands v k ≡ occurs v (take i f)) → (v : ℕ) → stands v k ≡ occurs v p
bool_support_end p f i k ep h g v = g v ∙ ap (occurs v) (take_all i f h ∙ ep)
