-- Fixed inputs put into monomials, terms and sums.
use Rattle.std.proofs.Common.{◌≡◌, ℕ, ◌+◌, ◌%◌, ◌<◌, ◌≤◌, refl, ap, ap₂, sym, ◌∙◌, subst, arith, Bool, true, false, ◌&&◌, not, cond, nat_eq, List, [], ◌∷◌, ◌++◌, length, take, get_or}
use Rattle.std.specs.Prelude.{nat_lt}
use Rattle.std.proofs.lemmas.Bool.Decides.{nat_tests}
use Rattle.std.proofs.lemmas.List.{take_all}
use Rattle.ps_mono.specs.Sets.{is_set, holds, stands, IsVarSet}
use Rattle.ps_mono.specs.Truth.{times}
use Rattle.ps_mono.specs.Lists.{nat_eq_true}
use Rattle.ps_mono.proofs.Laws.{holds_at, fails}
use Rattle.ps_phase.specs.declared.terms.Term.{Term}
use Rattle.ps_phase.specs.Phases.{phase_value, phase_occurs}
use Rattle.ps_phase.proofs.Values.{phase_append, one_value, phase_more, free_push, occurs_at}
use Rattle.ps_probe.specs.declared.pattern.Pattern.{Pattern}
use Rattle.ps_probe.specs.Patterns.{is_fixed, is_one, set_by, IsFilled, IsMonoFixed}

false_true : false ≡ true → ⊥
false_true k = cc

and_true : (x y : Bool) → (x && y) ≡ true → (x ≡ true) × (y ≡ true)
and_true true y e = (refl, e)
and_true false y e = absurd (false_true e)

and_false : (x : Bool) → (x && false) ≡ false
and_false true = refl
and_false false = refl

holds_each : (m : List ℕ) (a : ℕ → Bool) (b : Bool) → holds m a ≡ b → ((v : ℕ) → stands v m ≡ true → a v ≡ true) → b ≡ true
holds_each m a true h f = refl
holds_each m a false h f = let x = fails m a h in sym (x.2) ∙ f x.0 x.1

same_truth : (p q : Bool) → (p ≡ true → q ≡ true) → (q ≡ true → p ≡ true) → p ≡ q
same_truth true q f g = sym (f refl)
same_truth false true f g = g refl
same_truth false false f g = refl

-- the first i inputs are put into monomial m, which gives out
pub record Fixing (p : Pattern) (m : List ℕ) (i : ℕ) (out : List ℕ) : Type 0 where
  pub members : (v : ℕ) → stands v out ≡ (stands v m && not (nat_lt v i && is_fixed p v))
  pub ones : (v : ℕ) → v < i → stands v m ≡ true → is_fixed p v ≡ true → is_one p v ≡ true

pub fixing_start : (p : Pattern) (m : List ℕ) → Fixing p m 0 m
fixing_start p m = record {
  members = λ v. sym (ap (λ b. stands v m && not (b && is_fixed p v)) (let l : nat_lt v 0 ≡ false = grind (arith, nat_tests) in l) ∙ whole (stands v m));
  ones = λ v h. absurd (omega (arith, h));
}
  where
    whole : (b : Bool) → (b && true) ≡ b
    whole true = refl
    whole false = refl

-- input i is in the monomial, fixed, and 1
pub fixing_one : (p : Pattern) (m out out' : List ℕ) (i : ℕ) → (stands i m && is_fixed p i) ≡ true → is_one p i ≡ true → ((v : ℕ) → stands v out' ≡ (stands v out && not (nat_eq v i))) → Fixing p m i out → Fixing p m (i + 1) out'
fixing_one p m out out' i b o r f = record {
  members = λ v. r v ∙ ap (λ x. x && not (nat_eq v i)) (f.members v) ∙ by v (nat_eq v i) refl;
  ones = λ v h s t. at v h s t (nat_eq v i) refl;
}
  where
    both : (is_fixed p i ≡ true) × (stands i m ≡ true)
    both = let w = and_true (stands i m) (is_fixed p i) b in (w.1, w.0)

    none : (b : Bool) → (b && false) ≡ false
    none true = refl
    none false = refl

    whole : (b : Bool) → (b && true) ≡ b
    whole true = refl
    whole false = refl

    by : (v : ℕ) (t : Bool) → nat_eq v i ≡ t → ((stands v m && not (nat_lt v i && is_fixed p v)) && not t) ≡ (stands v m && not (nat_lt v (i + 1) && is_fixed p v))
    by v true e =
        let q : v ≡ i = nat_eq_true v i e in
        let l : nat_lt v (i + 1) ≡ true = grind (arith, nat_tests, q) in
        let z : (nat_lt v (i + 1) && is_fixed p v) ≡ true = ap₂ (λ (x y : Bool). x && y) l (ap (is_fixed p) q ∙ both.0) in
        none (stands v m && not (nat_lt v i && is_fixed p v)) ∙ sym (ap (λ x. stands v m && not x) z ∙ none (stands v m))
    by v false e =
        let l : nat_lt v i ≡ nat_lt v (i + 1) = grind (arith, nat_tests, e) in
        whole (stands v m && not (nat_lt v i && is_fixed p v)) ∙ ap (λ x. stands v m && not (x && is_fixed p v)) l

    at : (v : ℕ) → v < i + 1 → stands v m ≡ true → is_fixed p v ≡ true → (t : Bool) → nat_eq v i ≡ t → is_one p v ≡ true
    at v h s t true e = ap (is_one p) (nat_eq_true v i e) ∙ o
    at v h s t false e = f.ones v (grind (arith, nat_tests, e, h)) s t

-- input i is not in it, or not fixed
pub fixing_none : (p : Pattern) (m out : List ℕ) (i : ℕ) → (stands i m && is_fixed p i) ≡ false → Fixing p m i out → Fixing p m (i + 1) out
fixing_none p m out i b f = record {
  members = λ v. f.members v ∙ by v (nat_eq v i) refl (stands v m) refl (is_fixed p v) refl;
  ones = λ v h s t. at v h s t (nat_eq v i) refl;
}
  where
    clash : (v : ℕ) → nat_eq v i ≡ true → stands v m ≡ true → is_fixed p v ≡ true → ⊥
    clash v e s t =
        let q : v ≡ i = nat_eq_true v i e in
        false_true (sym b ∙ ap₂ (λ (x y : Bool). x && y) (ap (λ u. stands u m) (sym q) ∙ s) (ap (is_fixed p) (sym q) ∙ t))

    none : (b : Bool) → (b && false) ≡ false
    none true = refl
    none false = refl

    by : (v : ℕ) (t : Bool) → nat_eq v i ≡ t → (s : Bool) → stands v m ≡ s → (x : Bool) → is_fixed p v ≡ x → (stands v m && not (nat_lt v i && is_fixed p v)) ≡ (stands v m && not (nat_lt v (i + 1) && is_fixed p v))
    by v false e s es x ex = ap (λ z. stands v m && not (z && is_fixed p v)) (let l : nat_lt v i ≡ nat_lt v (i + 1) = grind (arith, nat_tests, e) in l)
    by v true e false es x ex = ap (λ z. z && not (nat_lt v i && is_fixed p v)) es ∙ sym (ap (λ z. z && not (nat_lt v (i + 1) && is_fixed p v)) es)
    by v true e true es true ex = absurd (clash v e es ex)
    by v true e true es false ex =
        let g : (k : ℕ) → (nat_lt v k && is_fixed p v) ≡ false = λ k. ap (λ z. nat_lt v k && z) ex ∙ none (nat_lt v k) in
        ap (λ z. stands v m && not z) (g i ∙ sym (g (i + 1)))

    at : (v : ℕ) → v < i + 1 → stands v m ≡ true → is_fixed p v ≡ true → (t : Bool) → nat_eq v i ≡ t → is_one p v ≡ true
    at v h s t true e = absurd (clash v e s t)
    at v h s t false e = f.ones v (grind (arith, nat_tests, e, h)) s t

-- input i is in it, and fixed to 0
pub fixed_zero : (p : Pattern) (m : List ℕ) (i : ℕ) → (stands i m && is_fixed p i) ≡ true → is_one p i ≡ false → (a : ℕ → Bool) → holds m (set_by p a) ≡ false
fixed_zero p m i b o a = by (holds m (set_by p a)) refl
  where
    by : (t : Bool) → holds m (set_by p a) ≡ t → t ≡ false
    by true e =
        let w = and_true (stands i m) (is_fixed p i) b in
        absurd (false_true (sym (ap (λ x. cond x (is_one p i) (a i)) w.1 ∙ o) ∙ holds_at m (set_by p a) i e w.0))
    by false e = refl

fixed_below : (p : Pattern) (v : ℕ) → (nat_lt v p.len && is_fixed p v) ≡ is_fixed p v
fixed_below p v = by (nat_lt v p.len)
  where
    by : (b : Bool) → (b && (b && is_set p.fixed v)) ≡ (b && is_set p.fixed v)
    by true = refl
    by false = refl

below_len : (p : Pattern) (v : ℕ) → is_fixed p v ≡ true → v < p.len
below_len p v e = let w : nat_lt v p.len ≡ true = (and_true (nat_lt v p.len) (is_set p.fixed v) e).0 in grind (arith, nat_tests, w)

pub fixing_end : (p : Pattern) (m out : List ℕ) (i : ℕ) → i ≡ p.len → Fixing p m i out → IsMonoFixed p m out
fixing_end p m out i e f = record {
  value = λ a. same_truth (holds out a) (holds m (set_by p a))
      (λ h. holds_each m (set_by p a) (holds m (set_by p a)) refl (λ v s. forth a h v s (is_fixed p v) refl))
      (λ h. holds_each out a (holds out a) refl (λ v s. back a h v s));
  members = mem;
}
  where
    mem : (v : ℕ) → stands v out ≡ (stands v m && not (is_fixed p v))
    mem v = f.members v ∙ ap (λ x. stands v m && not x) (ap (λ k. nat_lt v k && is_fixed p v) e ∙ fixed_below p v)

    forth : (a : ℕ → Bool) → holds out a ≡ true → (v : ℕ) → stands v m ≡ true → (t : Bool) → is_fixed p v ≡ t → cond t (is_one p v) (a v) ≡ true
    forth a h v s true t = f.ones v (let l = below_len p v t in omega (arith, l, e)) s t
    forth a h v s false t = holds_at out a v h (mem v ∙ ap₂ (λ (x y : Bool). x && not y) s t)

    back : (a : ℕ → Bool) → holds m (set_by p a) ≡ true → (v : ℕ) → stands v out ≡ true → a v ≡ true
    back a h v s =
        let w = and_true (stands v m) (not (is_fixed p v)) (sym (mem v) ∙ s) in
        let z : is_fixed p v ≡ false = un (is_fixed p v) w.1 in
        sym (ap (λ x. cond x (is_one p v) (a v)) z) ∙ holds_at m (set_by p a) v h w.0
      where
        un : (x : Bool) → not x ≡ true → x ≡ false
        un true k = absurd (false_true k)
        un false k = refl

-- ---- terms
pub record FixedTerms (p : Pattern) (ts : List Term) (i : ℕ) (start out : List Term) : Type 0 where
  pub value : (a : ℕ → Bool) → phase_value out a ≡ phase_value start a + phase_value (take i ts) (set_by p a)
  pub free : (v : ℕ) → phase_occurs v ts ≡ false → phase_occurs v start ≡ false → phase_occurs v out ≡ false
  pub gone : (v : ℕ) → is_fixed p v ≡ true → phase_occurs v start ≡ false → phase_occurs v out ≡ false

pub terms_start : (p : Pattern) (ts start : List Term) → FixedTerms p ts 0 start start
unfolding phase_value
terms_start p ts start = record { value = λ a. omega arith; free = λ v h s. s; gone = λ v h s. s }

not_in : (ts : List Term) (i v : ℕ) (t : Term) → i < length ts → t ≡ get_or ts i t → phase_occurs v ts ≡ false → stands v t.mono ≡ false
not_in ts i v t h e n = by (stands v t.mono) refl
  where
    by : (b : Bool) → stands v t.mono ≡ b → b ≡ false
    by true s = absurd (false_true (sym n ∙ occurs_at v ts i t h e s))
    by false s = refl

pub terms_push : (p : Pattern) (ts start out out' : List Term) (i : ℕ) (t : Term) (k : List ℕ) → i < length ts → t ≡ get_or ts i t → IsMonoFixed p t.mono k → out' ≡ out ++ record { mono = k; phase = t.phase } ∷ [] → FixedTerms p ts i start out → FixedTerms p ts (i + 1) start out'
terms_push p ts start out out' i t k h e m eo f = record {
  value = λ a.
      let u : phase_value out' a ≡ phase_value out a + times (holds k a) t.phase = ap (λ (r : List Term). phase_value r a) eo ∙ phase_append out (record { mono = k; phase = t.phase } ∷ []) a ∙ ap (λ n. phase_value out a + n) (one_value (record { mono = k; phase = t.phase }) a) in
      let w = phase_more ts i t (set_by p a) h e in
      let z : times (holds k a) t.phase ≡ times (holds t.mono (set_by p a)) t.phase = ap (λ b. times b t.phase) (m.value a) in
      let g = f.value a in
      omega (arith, u, w, z, g);
  free = λ v n s. ap (phase_occurs v) eo ∙ free_push v out (record { mono = k; phase = t.phase }) (f.free v n s) (m.members v ∙ ap (λ x. x && not (is_fixed p v)) (not_in ts i v t h e n));
  gone = λ v n s. ap (phase_occurs v) eo ∙ free_push v out (record { mono = k; phase = t.phase }) (f.gone v n s) (m.members v ∙ ap (λ x. stands v t.mono && not x) n ∙ and_false (stands v t.mono));
}

pub terms_skip : (p : Pattern) (ts start out : List Term) (i : ℕ) (t : Term) → i < length ts → t ≡ get_or ts i t → ((a : ℕ → Bool) → holds t.mono (set_by p a) ≡ false) → FixedTerms p ts i start out → FixedTerms p ts (i + 1) start out
unfolding times
terms_skip p ts start out i t h e z f = record {
  value = λ a.
      let w : phase_value (take (i + 1) ts) (set_by p a) ≡ phase_value (take i ts) (set_by p a) + 0 = phase_more ts i t (set_by p a) h e ∙ ap (λ b. phase_value (take i ts) (set_by p a) + times b t.phase) (z a) in
      let g = f.value a in
      omega (arith, w, g);
  free = f.free;
  gone = f.gone;
}

pub terms_end : (p : Pattern) (ts start out : List Term) (i : ℕ) → length ts ≤ i → FixedTerms p ts i start out → (a : ℕ → Bool) → phase_value out a ≡ phase_value start a + phase_value ts (set_by p a)
terms_end p ts start out i h f a = f.value a ∙ ap (λ (r : List Term). phase_value start a + phase_value r (set_by p a)) (take_all i ts h)

-- ---- the sum
pub phase_set : (p : Pattern) (empty out ts phase poly : List Term) → empty ≡ [] → ts ≡ phase → ((a : ℕ → Bool) → phase_value out a ≡ phase_value empty a + phase_value ts (set_by p a)) → ((a : ℕ → Bool) → phase_value poly a % 4294967296 ≡ phase_value out a % 4294967296)
    → (a : ℕ → Bool) → phase_value poly a % 4294967296 ≡ phase_value phase (set_by p a) % 4294967296
unfolding phase_value
phase_set p empty out ts phase poly e t v g a = g a ∙ ap (λ n. n % 4294967296) (v a ∙ ap (λ (r : List Term). phase_value r a + phase_value ts (set_by p a)) e ∙ z ∙ ap (λ (r : List Term). phase_value r (set_by p a)) t)
  where
    z : 0 + phase_value ts (set_by p a) ≡ phase_value ts (set_by p a)
    z = omega arith

-- what is not in the terms that were gathered is not in their sum
pub not_gathered : (v : ℕ) (out poly : List Term) → ((u : ℕ) → phase_occurs u poly ≡ true → phase_occurs u out ≡ true) → phase_occurs v out ≡ false → phase_occurs v poly ≡ false
not_gathered v out poly f n = by (phase_occurs v poly) refl
  where
    by : (b : Bool) → phase_occurs v poly ≡ b → b ≡ false
    by true s = absurd (false_true (sym n ∙ f v s))
    by false s = refl

pub none_there : (v : ℕ) (ts : List Term) → ts ≡ [] → phase_occurs v ts ≡ false
unfolding phase_occurs
none_there v ts e = ap (phase_occurs v) e

-- ---- inputs
pub record Filling (p : Pattern) (at : List ℕ) (i : ℕ) (bits : List ℕ) : Type 0 where
  pub values : (v : ℕ) → stands v bits ≡ cond (nat_lt v i) (set_by p (λ u. stands u at) v) (stands v at)
  pub form : IsVarSet bits

pub filling_start : (p : Pattern) (at m : List ℕ) → m ≡ at → IsVarSet m → Filling p at 0 at
filling_start p at m e s = record {
  values = λ v. sym (ap (λ b. cond b (set_by p (λ u. stands u at) v) (stands v at)) (let l : nat_lt v 0 ≡ false = grind (arith, nat_tests) in l));
  form = subst IsVarSet e s;
}

pub filling_set : (p : Pattern) (at bits bits' : List ℕ) (i : ℕ) (b : Bool) → is_fixed p i ≡ true → b ≡ is_one p i → ((u : ℕ) → stands u bits' ≡ cond (nat_eq u i) b (stands u bits)) → IsVarSet bits' → Filling p at i bits → Filling p at (i + 1) bits'
filling_set p at bits bits' i b x eb s form f = record { values = λ v. s v ∙ by v (nat_eq v i) refl; form = form }
  where
    by : (v : ℕ) (t : Bool) → nat_eq v i ≡ t → cond t b (stands v bits) ≡ cond (nat_lt v (i + 1)) (set_by p (λ u. stands u at) v) (stands v at)
    by v true e =
        let q : v ≡ i = nat_eq_true v i e in
        let l : nat_lt v (i + 1) ≡ true = grind (arith, nat_tests, q) in
        eb ∙ ap (is_one p) (sym q) ∙ sym (ap (λ y. cond y (set_by p (λ u. stands u at) v) (stands v at)) l ∙ ap (λ y. cond y (is_one p v) (stands v at)) (ap (is_fixed p) q ∙ x))
    by v false e =
        let l : nat_lt v i ≡ nat_lt v (i + 1) = grind (arith, nat_tests, e) in
        f.values v ∙ ap (λ y. cond y (set_by p (λ u. stands u at) v) (stands v at)) l

pub filling_skip : (p : Pattern) (at bits : List ℕ) (i : ℕ) → is_fixed p i ≡ false → Filling p at i bits → Filling p at (i + 1) bits
filling_skip p at bits i x f = record { values = λ v. f.values v ∙ by v (nat_eq v i) refl; form = f.form }
  where
    same : (b : Bool) (y : Bool) → cond b y y ≡ y
    same true y = refl
    same false y = refl

    by : (v : ℕ) (t : Bool) → nat_eq v i ≡ t → cond (nat_lt v i) (set_by p (λ u. stands u at) v) (stands v at) ≡ cond (nat_lt v (i + 1)) (set_by p (λ u. stands u at) v) (stands v at)
    by v true e =
        let z : set_by p (λ u. stands u at) v ≡ stands v at = ap (λ y. cond y (is_one p v) (stands v at)) (ap (is_fixed p) (nat_eq_true v i e) ∙ x) in
        ap (λ y. cond (nat_lt v i) y (stands v at)) z ∙ same (nat_lt v i) (stands v at) ∙ sym (ap (λ y. cond (nat_lt v (i + 1)) y (stands v at)) z ∙ same (nat_lt v (i + 1)) (stands v at))
    by v false e = ap (λ y. cond y (set_by p (λ u. stands u at) v) (stands v at)) (let l : nat_lt v i ≡ nat_lt v (i + 1) = grind (arith, nat_tests, e) in l)

pub filling_end : (p : Pattern) (at bits : List ℕ) (i : ℕ) → i ≡ p.len → Filling p at i bits → IsFilled p at bits
filling_end p at bits i e f = record { values = λ v. f.values v ∙ ap (λ k. cond (nat_lt v k) (set_by p (λ u. stands u at) v) (stands v at)) e ∙ by v (nat_lt v p.len) refl; form = f.form }
  where
    by : (v : ℕ) (t : Bool) → nat_lt v p.len ≡ t → cond t (set_by p (λ u. stands u at) v) (stands v at) ≡ set_by p (λ u. stands u at) v
    by v true l = refl
    by v false l = sym (ap (λ y. cond (y && is_set p.fixed v) (is_one p v) (stands v at)) l)
