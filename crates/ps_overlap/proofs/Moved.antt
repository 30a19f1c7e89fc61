-- The second sum's variables under their names in the overlap, and opposite phases.
use Rattle.std.proofs.Common.{◌≡◌, ℕ, zero, suc, ◌+◌, ◌-◌, ◌%◌, refl, ap, ap₂, sym, ◌∙◌, subst, arith, ◌<◌, ◌≤◌, Bool, true, false, ◌&&◌, ◌||◌, cond, nat_eq, nat_lt, List, [], ◌∷◌, ◌++◌, length, take, get_or, ◌⊎◌, inl, inr}
use Rattle.std.proofs.lemmas.Bool.Decides.{nat_tests}
use Rattle.std.proofs.lemmas.Bool.{cases_lt}
use Rattle.std.proofs.lemmas.List.{take_more, take_all}
use Rattle.ps_mono.specs.Sets.{holds, stands}
use Rattle.ps_mono.specs.Lists.{nat_eq_same, nat_eq_true}
use Rattle.ps_mono.specs.Truth.{times}
use Rattle.ps_mono.proofs.Laws.{holds_union}
use Rattle.ps_phase.specs.declared.terms.Term.{Term}
use Rattle.ps_phase.specs.Phases.{phase_value, phase_occurs, IsPhasePoly}
use Rattle.ps_phase.proofs.Adding.{no_or}
use Rattle.ps_phase.proofs.Values.{phase_append, one_value, phase_more, free_push}
use Rattle.ps_ring.specs.Readings.{Assignment, moved_name}
use Rattle.ps_sum.proofs.Lifts.{occurs_get}

clash : {b : Bool} → b ≡ true → b ≡ false → ⊥
clash e f = cc

-- ---- one monomial
holds_push : (m : List ℕ) (u : ℕ) (a : Assignment) → holds (m ++ u ∷ []) a ≡ (holds m a && a u)
unfolding holds
holds_push [] u a = and_true (a u)
  where
    and_true : (b : Bool) → (b && true) ≡ b
    and_true true = refl
    and_true false = refl
holds_push (v ∷ m) u a = ap (λ b. a v && b) (holds_push m u a) ∙ and_move (a v) (holds m a) (a u)
  where
    and_move : (p q r : Bool) → (p && (q && r)) ≡ ((p && q) && r)
    and_move true q r = refl
    and_move false q r = refl

pub holds_one : (u : ℕ) (a : Assignment) → holds (u ∷ []) a ≡ a u
unfolding holds
holds_one u a = and_true (a u)
  where
    and_true : (b : Bool) → (b && true) ≡ b
    and_true true = refl
    and_true false = refl

pub stands_one : (w u : ℕ) → stands w (u ∷ []) ≡ nat_eq w u
unfolding stands
stands_one w u = or_none (nat_eq w u)
  where
    or_none : (b : Bool) → (b || false) ≡ b
    or_none true = refl
    or_none false = refl

pub stands_at : (m : List ℕ) (i u : ℕ) → i < length m → u ≡ get_or m i 0 → stands u m ≡ true
unfolding stands
stands_at [] i u h e = absurd (omega arith)
stands_at (v ∷ m) zero u h e = ap (λ (x : ℕ). nat_eq u x || stands u m) (sym e) ∙ ap (λ b. b || stands u m) (nat_eq_same u)
stands_at (v ∷ m) (suc i) u h e = later (nat_eq u v) (stands u m) (stands_at m i u (omega arith) e)
  where
    later : (p q : Bool) → q ≡ true → (p || q) ≡ true
    later true q e = refl
    later false q e = e

-- w is no name of a variable of m
abbrev pub NotMoved : ℕ → ℕ → ℕ → List ℕ → Type 0
NotMoved n by w m = (v : ℕ) → moved_name n by v ≡ w → stands v m ≡ false

pub record MovedTo (n by : ℕ) (m : List ℕ) (i : ℕ) (out : List ℕ) : Type 0 where
  pub value : (a : Assignment) → holds out a ≡ holds (take i m) (λ v. a (moved_name n by v))
  pub free : (w : ℕ) → NotMoved n by w m → stands w out ≡ false

pub moved_start : (n by : ℕ) (m out : List ℕ) → out ≡ [] → MovedTo n by m 0 out
unfolding holds stands
moved_start n by m out e = record { value = λ a. ap (λ (r : List ℕ). holds r a) e; free = λ w f. ap (stands w) e }

pub name_is : (n by u name : ℕ) → ((u < n) × (name ≡ u)) ⊎ ((n ≤ u) × (name ≡ u + by)) → name ≡ moved_name n by u
unfolding moved_name
name_is n by u name (inl p) = let e : nat_lt u n ≡ true = grind (arith, nat_tests, p.0) in p.1 ∙ sym (ap (λ b. cond b u (u + by)) e)
name_is n by u name (inr p) = let e : nat_lt u n ≡ false = grind (arith, nat_tests, p.0) in p.1 ∙ sym (ap (λ b. cond b u (u + by)) e)

pub name_small : (n by u name i : ℕ) (m : List ℕ) → i < length m → u ≡ get_or m i 0 → u < 512 → ((v : ℕ) → 512 ≤ v + by → stands v m ≡ false) → ((u < n) × (name ≡ u)) ⊎ ((n ≤ u) × (name ≡ u + by)) → name < 512
name_small n by u name i m h e l f (inl p) = let q = p.1 in omega arith
name_small n by u name i m h e l f (inr p) = by_cases (cases_lt (u + by) 512)
  where
    by_cases : ((u + by < 512) ⊎ (512 ≤ u + by)) → name < 512
    by_cases (inl s) = let q = p.1 in omega arith
    by_cases (inr s) = absurd (clash (stands_at m i u h e) (f u s))

pub moved_more : (n by : ℕ) (m out out' one : List ℕ) (i u name : ℕ) → i < length m → u ≡ get_or m i 0 → name ≡ moved_name n by u → one ≡ name ∷ [] → ((v : ℕ) → stands v out' ≡ (stands v out || stands v one)) → MovedTo n by m i out → MovedTo n by m (i + 1) out'
moved_more n by m out out' one i u name h eu en eo f s = record {
  value = λ a.
      let b = λ (v : ℕ). a (moved_name n by v) in
      let t : take (i + 1) m ≡ take i m ++ u ∷ [] = take_more m i 0 h ∙ ap (λ (x : ℕ). take i m ++ x ∷ []) (sym eu) in
      holds_union out one out' f a ∙ ap₂ (λ (x y : Bool). x && y) (s.value a) (ap (λ (r : List ℕ). holds r a) eo ∙ holds_one name a ∙ ap a en)
      ∙ sym (ap (λ (r : List ℕ). holds r b) t ∙ holds_push (take i m) u b);
  free = λ w g. f w ∙ no_or (stands w out) (stands w one) (s.free w g) (ap (stands w) eo ∙ stands_one w name ∙ other w (nat_eq w name) refl g);
}
  where
    other : (w : ℕ) (t : Bool) → nat_eq w name ≡ t → NotMoved n by w m → t ≡ false
    other w true e g = absurd (clash (stands_at m i u h eu) (g u (sym en ∙ sym (nat_eq_true w name e))))
    other w false e g = refl

pub moved_value : (n by : ℕ) (m out : List ℕ) (i d : ℕ) → d ≡ length m → d ≤ i → MovedTo n by m i out → (a : Assignment) → holds out a ≡ holds m (λ v. a (moved_name n by v))
moved_value n by m out i d e h s a = s.value a ∙ ap (λ (r : List ℕ). holds r (λ v. a (moved_name n by v))) (take_all i m (omega arith))

-- ---- terms
abbrev pub TermsNotMoved : ℕ → ℕ → ℕ → List Term → Type 0
TermsNotMoved n by w ts = (v : ℕ) → moved_name n by v ≡ w → phase_occurs v ts ≡ false

pub record MovedTerms (n by : ℕ) (ts : List Term) (i : ℕ) (start out : List Term) : Type 0 where
  pub value : (a : Assignment) → phase_value out a ≡ phase_value start a + phase_value (take i ts) (λ v. a (moved_name n by v))
  pub free : (w : ℕ) → TermsNotMoved n by w ts → phase_occurs w start ≡ false → phase_occurs w out ≡ false

pub terms_start : (n by : ℕ) (ts start : List Term) → MovedTerms n by ts 0 start start
unfolding phase_value
terms_start n by ts start = record { value = λ a. omega arith; free = λ w f o. o }

pub small_term : (b : ℕ) (ts : List Term) (i : ℕ) (t : Term) → i < length ts → t ≡ get_or ts i t → ((v : ℕ) → 512 ≤ v + b → phase_occurs v ts ≡ false) → (v : ℕ) → 512 ≤ v + b → stands v t.mono ≡ false
small_term b ts i t h e f v l = occurs_get v ts i t h e (f v l)

pub terms_more : (n by : ℕ) (ts start out out' : List Term) (i : ℕ) (t : Term) (k : List ℕ) → i < length ts → t ≡ get_or ts i t → ((a : Assignment) → holds k a ≡ holds t.mono (λ v. a (moved_name n by v))) → ((w : ℕ) → NotMoved n by w t.mono → stands w k ≡ false)
    → out' ≡ out ++ record { mono = k; phase = t.phase } ∷ [] → MovedTerms n by ts i start out → MovedTerms n by ts (i + 1) start out'
terms_more n by ts start out out' i t k h et hk fk e s = record {
  value = λ a.
      let b = λ (v : ℕ). a (moved_name n by v) in
      let p = ap (λ (r : List Term). phase_value r a) e ∙ phase_append out _ a ∙ ap₂ (λ (x y : ℕ). x + y) (s.value a) (one_value (record { mono = k; phase = t.phase }) a ∙ ap (λ c. times c t.phase) (hk a)) in
      let q = phase_more ts i t b h et in
      omega arith;
  free = λ w f o. ap (phase_occurs w) e ∙ free_push w out _ (s.free w f o) (fk w (λ v g. occurs_get v ts i t h et (f v g)));
}

pub terms_value : (n by : ℕ) (ts start out : List Term) (i : ℕ) → length ts ≤ i → MovedTerms n by ts i start out → (a : Assignment) → phase_value out a ≡ phase_value start a + phase_value ts (λ v. a (moved_name n by v))
terms_value n by ts start out i h s a = s.value a ∙ ap (λ (r : List Term). phase_value start a + phase_value r (λ v. a (moved_name n by v))) (take_all i ts h)

-- ---- opposite phases
pub term_small : (ts : List Term) (i : ℕ) (t : Term) → IsPhasePoly ts → i < length ts → t ≡ get_or ts i t → t.phase < 4294967296
term_small [] i t p h e = absurd (omega arith)
term_small (u ∷ ts) zero t p h e = subst (λ (x : Term). x.phase < 4294967296) (sym e) p.0.small
term_small (u ∷ ts) (suc i) t p h e = term_small ts i t p.2 (omega arith) e

pub record Negated (ts : List Term) (i : ℕ) (start out : List Term) : Type 0 where
  pub value : (a : Assignment) → (phase_value out a + phase_value (take i ts) a) % 4294967296 ≡ phase_value start a % 4294967296
  pub free : (w : ℕ) → phase_occurs w ts ≡ false → phase_occurs w start ≡ false → phase_occurs w out ≡ false

pub negated_start : (ts start : List Term) → Negated ts 0 start start
unfolding phase_value
negated_start ts start = record { value = λ a. omega arith; free = λ w f o. o }

opposite : (b : Bool) (p q x y s : ℕ) → p < 4294967296 → q ≡ (4294967296 - p) % 4294967296 → (x + y) % 4294967296 ≡ s % 4294967296 → (x + times b q + (y + times b p)) % 4294967296 ≡ s % 4294967296
unfolding times
opposite true p q x y s l e f = omega arith
opposite false p q x y s l e f = omega arith

pub negated_more : (ts start out out' : List Term) (i q : ℕ) (t : Term) → i < length ts → t ≡ get_or ts i t → t.phase < 4294967296 → q ≡ (4294967296 - t.phase) % 4294967296 → out' ≡ out ++ record { mono = t.mono; phase = q } ∷ [] → Negated ts i start out → Negated ts (i + 1) start out'
negated_more ts start out out' i q t h et l eq e s = record {
  value = λ a.
      ap₂ (λ (x y : ℕ). (x + y) % 4294967296) (ap (λ (r : List Term). phase_value r a) e ∙ phase_append out _ a ∙ ap (λ n. phase_value out a + n) (one_value (record { mono = t.mono; phase = q }) a)) (phase_more ts i t a h et)
      ∙ opposite (holds t.mono a) t.phase q (phase_value out a) (phase_value (take i ts) a) (phase_value start a) l eq (s.value a);
  free = λ w f o. ap (phase_occurs w) e ∙ free_push w out _ (s.free w f o) (occurs_get w ts i t h et f);
}

pub negated_value : (ts start out : List Term) (i : ℕ) → length ts ≤ i → Negated ts i start out → (a : Assignment) → (phase_value out a + phase_value ts a) % 4294967296 ≡ phase_value start a % 4294967296
negated_value ts start out i h s a = ap (λ (r : List Term). (phase_value out a + phase_value r a) % 4294967296) (sym (take_all i ts h)) ∙ s.value a
