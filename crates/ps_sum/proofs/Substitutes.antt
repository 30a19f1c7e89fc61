-- A polynomial in place of a variable.
use Rattle.std.proofs.Common.{◌≡◌, ℕ, ◌+◌, ◌%◌, refl, ap, ap₂, sym, ◌∙◌, arith, ◌<◌, ◌≤◌, Bool, true, false, cond, not, nat_eq, ◌&&◌, ◌||◌, List, [], ◌∷◌, ◌++◌, length, take, get_or}
use Rattle.std.proofs.lemmas.List.{take_more, take_all}
use Rattle.ps_phase.specs.declared.terms.Term.{Term}
use Rattle.ps_mono.specs.Sets.{holds, stands}
use Rattle.std.specs.Cmp.Lexicographic.{pointwise}
use Rattle.ps_mono.specs.Lists.{nat_eq_true, nat_eq_same}
use Rattle.ps_mono.specs.Truth.{times, differ, with_value}
use Rattle.ps_mono.proofs.Laws.{holds_union}
use Rattle.ps_bool.specs.Polys.{bool_value, occurs}
use Rattle.ps_bool.proofs.Replacing.{holds_replaced}
use Rattle.ps_phase.specs.Phases.{phase_value, phase_occurs}
use Rattle.ps_phase.specs.Adding.{terms_where}
use Rattle.ps_phase.proofs.Adding.{M, no_or, times_none}
use Rattle.ps_phase.proofs.Scaling.{split_value}
use Rattle.ps_phase.proofs.Values.{mono_eq, phase_append, one_value, phase_more, free_push, occurs_at, phase_agree}
use Rattle.ps_sum.proofs.Lifts.{occurs_get, none_value, none_occurs}

-- ---- the loop of `push_multiples`
pub record Multiplied (m : List ℕ) (ts : List Term) (i : ℕ) (old out : List Term) : Type 0 where
  pub value : (a : ℕ → Bool) → phase_value out a ≡ phase_value old a + times (holds m a) (phase_value (take i ts) a)
  pub free : (u : ℕ) → stands u m ≡ false → phase_occurs u ts ≡ false → phase_occurs u old ≡ false → phase_occurs u out ≡ false

pub multiplied_start : (m : List ℕ) (ts old : List Term) → Multiplied m ts 0 old old
unfolding phase_value
multiplied_start m ts old = record { value = λ a. let z = times_none (holds m a) in omega arith; free = λ u a b c. c }

times_more : (h k : Bool) (x p : ℕ) → times h x + times (h && k) p ≡ times h (x + times k p)
unfolding times
times_more true true x p = refl
times_more true false x p = refl
times_more false k x p = refl

pub multiplied_more : (m m' : List ℕ) (ts old out out' : List Term) (i : ℕ) (t : Term) → i < length ts → t ≡ get_or ts i t → ((v : ℕ) → stands v m' ≡ (stands v m || stands v t.mono)) → out' ≡ out ++ record { mono = m'; phase = t.phase } ∷ []
    → Multiplied m ts i old out → Multiplied m ts (i + 1) old out'
multiplied_more m m' ts old out out' i t h et em e s = record {
  value = λ a.
      let w = ap (λ (r : List Term). phase_value r a) e ∙ phase_append out _ a ∙ ap (λ n. phase_value out a + n) (one_value (record { mono = m'; phase = t.phase }) a ∙ ap (λ b. times b t.phase) (holds_union m t.mono m' em a)) in
      let q = times_more (holds m a) (holds t.mono a) (phase_value (take i ts) a) t.phase in
      let p = ap (times (holds m a)) (phase_more ts i t a h et) in
      let v = s.value a in
      omega arith;
  free = λ u a b c. ap (phase_occurs u) e ∙ free_push u out _ (s.free u a b c) (em u ∙ no_or _ _ a (occurs_get u ts i t h et b));
}

pub multiplied_value : (m : List ℕ) (ts old out : List Term) (i : ℕ) → length ts ≤ i → Multiplied m ts i old out → (a : ℕ → Bool) → phase_value out a ≡ phase_value old a + times (holds m a) (phase_value ts a)
multiplied_value m ts old out i h s a = s.value a ∙ ap (λ (r : List Term). phase_value old a + times (holds m a) (phase_value r a)) (take_all i ts h)

-- ---- terms with v and without
where_kept : (v : ℕ) (ts : List Term) (t : Term) → stands v t.mono ≡ true → terms_where true v (ts ++ t ∷ []) ≡ terms_where true v ts ++ t ∷ []
unfolding terms_where differ
where_kept v [] t s = ap (λ q. cond (differ true q) [] (t ∷ [])) s
where_kept v (x ∷ ts) t s = by (differ true (stands v x.mono)) (where_kept v ts t s)
  where
    by : (q : Bool) → terms_where true v (ts ++ t ∷ []) ≡ terms_where true v ts ++ t ∷ [] → cond q (terms_where true v (ts ++ t ∷ [])) (x ∷ terms_where true v (ts ++ t ∷ [])) ≡ cond q (terms_where true v ts) (x ∷ terms_where true v ts) ++ t ∷ []
    by true e = e
    by false e = ap (λ (r : List Term). x ∷ r) e

where_left : (v : ℕ) (ts : List Term) (t : Term) → stands v t.mono ≡ false → terms_where true v (ts ++ t ∷ []) ≡ terms_where true v ts
unfolding terms_where differ
where_left v [] t s = ap (λ q. cond (differ true q) [] (t ∷ [])) s
where_left v (x ∷ ts) t s = by (differ true (stands v x.mono)) (where_left v ts t s)
  where
    by : (q : Bool) → terms_where true v (ts ++ t ∷ []) ≡ terms_where true v ts → cond q (terms_where true v (ts ++ t ∷ [])) (x ∷ terms_where true v (ts ++ t ∷ [])) ≡ cond q (terms_where true v ts) (x ∷ terms_where true v ts)
    by true e = e
    by false e = ap (λ (r : List Term). x ∷ r) e

-- what may stand in the result
abbrev pub may_stand : ℕ → ℕ → List (List ℕ) → List Term → Bool
may_stand u v by ts = (phase_occurs u ts && not (nat_eq u v)) || occurs u by

free_step : (r s p o q : Bool) → (s ≡ true → r ≡ true) → (p ≡ true → r ≡ true) → (o ≡ true → r ≡ true) → (s ≡ false → p ≡ false → o ≡ false → q ≡ false) → q ≡ true → r ≡ true
free_step true s p o q f g h k e = refl
free_step false true p o q f g h k e = f refl
free_step false false true o q f g h k e = g refl
free_step false false false true q f g h k e = h refl
free_step false false false false q f g h k e = sym (k refl refl refl) ∙ e

or_right : (p q : Bool) → q ≡ true → (p || q) ≡ true
or_right true q e = refl
or_right false q e = e

or_left : (p q : Bool) → p ≡ true → (p || q) ≡ true
or_left true q e = refl
or_left false q e = absurd (off e)
  where
    off : false ≡ true → ⊥
    off e = cc

and_both : (p q : Bool) → (p && q) ≡ true → (p ≡ true) × (q ≡ true)
and_both true q e = (refl, e)
and_both false q e = absurd (off e)
  where
    off : false ≡ true → ⊥
    off e = cc

-- ---- the loop of `replaced`
pub record Replacing (v : ℕ) (by : List (List ℕ)) (ts : List Term) (i : ℕ) (out : List Term) : Type 0 where
  pub value : (a : ℕ → Bool) → phase_value out a % M ≡ phase_value (terms_where true v (take i ts)) (with_value a v (bool_value by a)) % M
  pub free : (u : ℕ) → phase_occurs u out ≡ true → may_stand u v by ts ≡ true

replacing_start : (v : ℕ) (by : List (List ℕ)) (ts out : List Term) → out ≡ [] → Replacing v by ts 0 out
unfolding terms_where phase_value phase_occurs
replacing_start v by ts out e = record { value = λ a. ap (λ (r : List Term). phase_value r a % M) e; free = λ u h. absurd (off (sym (ap (phase_occurs u) e) ∙ h)) }
  where
    off : false ≡ true → ⊥
    off e = cc

replace_step : (h b : Bool) (x y p c : ℕ) → x % M ≡ y % M → p % M ≡ times b c % M → (x + times h p) % M ≡ (y + times (h && b) c) % M
unfolding times
replace_step true true x y p c e f = omega arith
replace_step true false x y p c e f = omega arith
replace_step false b x y p c e f = omega arith

-- rest is the monomial at i without v, and products are the lift by its phase
pub replacing_with : (v : ℕ) (by : List (List ℕ)) (ts out products out' : List Term) (i : ℕ) (t : Term) (rest : List ℕ) → i < length ts → t ≡ get_or ts i t → stands v t.mono ≡ true → ((w : ℕ) → stands w rest ≡ (stands w t.mono && not (nat_eq w v)))
    → ((a : ℕ → Bool) → phase_value products a % M ≡ times (bool_value by a) t.phase % M) → ((u : ℕ) → phase_occurs u products ≡ true → occurs u by ≡ true)
    → ((a : ℕ → Bool) → phase_value out' a ≡ phase_value out a + times (holds rest a) (phase_value products a))
    → ((u : ℕ) → stands u rest ≡ false → phase_occurs u products ≡ false → phase_occurs u out ≡ false → phase_occurs u out' ≡ false)
    → Replacing v by ts i out → Replacing v by ts (i + 1) out'
replacing_with v by ts out products out' i t rest h et st er pv po ov oo s = record {
  value = λ a.
      let b = bool_value by a in
      let a' = with_value a v b in
      let w = ap (λ (r : List Term). terms_where true v r) (take_more ts i t h ∙ ap (λ (r : Term). take i ts ++ r ∷ []) (sym et)) ∙ where_kept v (take i ts) t st in
      let q = ap (λ (r : List Term). phase_value r a') w ∙ phase_append (terms_where true v (take i ts)) (t ∷ []) a' ∙ ap (λ n. phase_value (terms_where true v (take i ts)) a' + n) (one_value t a' ∙ ap (λ c. times c t.phase) (holds_replaced t.mono rest v a b er st)) in
      ap (λ n. n % M) (ov a) ∙ replace_step (holds rest a) b (phase_value out a) _ (phase_value products a) t.phase (s.value a) (pv a) ∙ ap (λ n. n % M) (sym q);
  free = λ u e.
      free_step (may_stand u v by ts) (stands u rest) (phase_occurs u products) (phase_occurs u out) (phase_occurs u out')
      (λ z. let d = and_both (stands u t.mono) (not (nat_eq u v)) (sym (er u) ∙ z) in or_left _ _ (ap₂ (λ (x y : Bool). x && y) (occurs_at u ts i t h et d.0) d.1))
      (λ z. or_right _ _ (po u z)) (s.free u) (oo u) e;
}

-- the same, as the branch gives it
replacing_pushed : (v : ℕ) (by : List (List ℕ)) (ts out products used new out' : List Term) (i : ℕ) (t : Term) (rest : List ℕ) → i < length ts → t ≡ get_or ts i t → stands v t.mono ≡ true → ((w : ℕ) → stands w rest ≡ (stands w t.mono && not (nat_eq w v)))
    → ((a : ℕ → Bool) → phase_value products a % M ≡ times (bool_value by a) t.phase % M) → ((u : ℕ) → phase_occurs u products ≡ true → occurs u by ≡ true) → used ≡ products
    → ((a : ℕ → Bool) → phase_value new a ≡ phase_value out a + times (holds rest a) (phase_value used a))
    → ((u : ℕ) → stands u rest ≡ false → phase_occurs u used ≡ false → phase_occurs u out ≡ false → phase_occurs u new ≡ false)
    → out' ≡ new → Replacing v by ts i out → Replacing v by ts (i + 1) out'
replacing_pushed v by ts out products used new out' i t rest h et st er pv po eu ov oo eo s =
    replacing_with v by ts out products out' i t rest h et st er pv po
    (λ a. ap (λ (r : List Term). phase_value r a) eo ∙ ov a ∙ ap (λ (r : List Term). phase_value out a + times (holds rest a) (phase_value r a)) eu)
    (λ u a b c. ap (phase_occurs u) eo ∙ oo u a (ap (phase_occurs u) eu ∙ b) c) s

replacing_without : (v : ℕ) (by : List (List ℕ)) (ts out out' : List Term) (i : ℕ) (t : Term) → i < length ts → t ≡ get_or ts i t → stands v t.mono ≡ false → out' ≡ out → Replacing v by ts i out → Replacing v by ts (i + 1) out'
replacing_without v by ts out out' i t h et st e s = record {
  value = λ a.
      let w = ap (λ (r : List Term). terms_where true v r) (take_more ts i t h ∙ ap (λ (r : Term). take i ts ++ r ∷ []) (sym et)) ∙ where_left v (take i ts) t st in
      ap (λ (r : List Term). phase_value r a % M) e ∙ s.value a ∙ ap (λ (r : List Term). phase_value r (with_value a v (bool_value by a)) % M) (sym w);
  free = λ u f. s.free u (sym (ap (phase_occurs u) e) ∙ f);
}

-- the same, with the lift by the phase of the last term that had v
pub record Going (v : ℕ) (by : List (List ℕ)) (ts : List Term) (i : ℕ) (out : List Term) (last : ℕ) (lifted : List Term) : Type 0 where
  pub done : Replacing v by ts i out
  pub value : (a : ℕ → Bool) → phase_value lifted a % M ≡ times (bool_value by a) last % M
  pub free : (u : ℕ) → phase_occurs u lifted ≡ true → occurs u by ≡ true

pub going_start : (v : ℕ) (by : List (List ℕ)) (ts out : List Term) (last : ℕ) (lifted : List Term) → out ≡ [] → last ≡ 0 → lifted ≡ [] → Going v by ts 0 out last lifted
going_start v by ts out last lifted e z el = record { done = replacing_start v by ts out e; value = none_value by last lifted z el; free = none_occurs by lifted el }

-- other terms that are worth as much
replacing_same : (v : ℕ) (by : List (List ℕ)) (ts out out' : List Term) (i : ℕ) → ((a : ℕ → Bool) → phase_value out' a % M ≡ phase_value out a % M) → ((u : ℕ) → phase_occurs u out' ≡ true → phase_occurs u out ≡ true) → Replacing v by ts i out → Replacing v by ts i out'
replacing_same v by ts out out' i e o s = record { value = λ a. e a ∙ s.value a; free = λ u h. s.free u (o u h) }

pub going_with : (v : ℕ) (by : List (List ℕ)) (ts out products used new short out' : List Term) (i : ℕ) (t : Term) (rest : List ℕ) (last last' : ℕ) (lifted lifted' : List Term) → i < length ts → t ≡ get_or ts i t → stands v t.mono ≡ true → ((w : ℕ) → stands w rest ≡ (stands w t.mono && not (nat_eq w v)))
    → ((a : ℕ → Bool) → phase_value products a % M ≡ times (bool_value by a) t.phase % M) → ((u : ℕ) → phase_occurs u products ≡ true → occurs u by ≡ true) → used ≡ products
    → ((a : ℕ → Bool) → phase_value new a ≡ phase_value out a + times (holds rest a) (phase_value used a))
    → ((u : ℕ) → stands u rest ≡ false → phase_occurs u used ≡ false → phase_occurs u out ≡ false → phase_occurs u new ≡ false)
    → ((a : ℕ → Bool) → phase_value short a % M ≡ phase_value new a % M) → ((u : ℕ) → phase_occurs u short ≡ true → phase_occurs u new ≡ true)
    → out' ≡ short → last' ≡ t.phase → lifted' ≡ products → Going v by ts i out last lifted → Going v by ts (i + 1) out' last' lifted'
going_with v by ts out products used new short out' i t rest last last' lifted lifted' h et st er pv po eu ov oo sv so es el ep g = record {
  done = replacing_same v by ts new out' (i + 1) (λ a. ap (λ (r : List Term). phase_value r a % M) es ∙ sv a) (λ u f. so u (ap (phase_occurs u) (sym es) ∙ f)) (replacing_pushed v by ts out products used new new i t rest h et st er pv po eu ov oo refl g.done);
  value = λ a. ap (λ (r : List Term). phase_value r a % M) ep ∙ pv a ∙ ap (λ n. times (bool_value by a) n % M) (sym el);
  free = λ u f. po u (ap (phase_occurs u) (sym ep) ∙ f);
}

pub going_without : (v : ℕ) (by : List (List ℕ)) (ts out out' : List Term) (i : ℕ) (t : Term) (last last' : ℕ) (lifted lifted' : List Term) → i < length ts → t ≡ get_or ts i t → stands v t.mono ≡ false → out' ≡ out → last' ≡ last → lifted' ≡ lifted
    → Going v by ts i out last lifted → Going v by ts (i + 1) out' last' lifted'
going_without v by ts out out' i t last last' lifted lifted' h et st e el ep g = record {
  done = replacing_without v by ts out out' i t h et st e g.done;
  value = λ a. ap (λ (r : List Term). phase_value r a % M) ep ∙ g.value a ∙ ap (λ n. times (bool_value by a) n % M) (sym el);
  free = λ u f. g.free u (ap (phase_occurs u) (sym ep) ∙ f);
}

pub replacing_value : (v : ℕ) (by : List (List ℕ)) (p ts out : List Term) (i : ℕ) → ts ≡ p → length ts ≤ i → Replacing v by ts i out → (a : ℕ → Bool) → phase_value out a % M ≡ phase_value (terms_where true v p) (with_value a v (bool_value by a)) % M
replacing_value v by p ts out i ep h s a = s.value a ∙ ap (λ (r : List Term). phase_value (terms_where true v r) (with_value a v (bool_value by a)) % M) (take_all i ts h ∙ ep)

pub replacing_free : (v : ℕ) (by : List (List ℕ)) (p ts out : List Term) (i : ℕ) → ts ≡ p → Replacing v by ts i out → (u : ℕ) → phase_occurs u out ≡ true → may_stand u v by p ≡ true
replacing_free v by p ts out i ep s u e = ap (λ (r : List Term). may_stand u v by r) (sym ep) ∙ s.free u e

-- ---- the whole
none_left : (v : ℕ) (ts : List Term) → phase_occurs v (terms_where false v ts) ≡ false
unfolding terms_where phase_occurs differ
none_left v [] = refl
none_left v (t ∷ ts) = by (stands v t.mono) refl (none_left v ts)
  where
    by : (q : Bool) → stands v t.mono ≡ q → phase_occurs v (terms_where false v ts) ≡ false → phase_occurs v (cond (differ false q) (terms_where false v ts) (t ∷ terms_where false v ts)) ≡ false
    by true e r = r
    by false e r = ap₂ (λ (x y : Bool). x || y) e r

kept_occurs : (u v : ℕ) (ts : List Term) → phase_occurs u (terms_where false v ts) ≡ true → phase_occurs u ts ≡ true
unfolding terms_where phase_occurs
kept_occurs u v [] h = h
kept_occurs u v (t ∷ ts) h = by (differ false (stands v t.mono)) (stands u t.mono) refl h (kept_occurs u v ts)
  where
    by : (q s : Bool) → stands u t.mono ≡ s → phase_occurs u (cond q (terms_where false v ts) (t ∷ terms_where false v ts)) ≡ true → (phase_occurs u (terms_where false v ts) ≡ true → phase_occurs u ts ≡ true) → (s || phase_occurs u ts) ≡ true
    by q true e k r = refl
    by true false e k r = r k
    by false false e k r = r (sym (ap (λ b. b || phase_occurs u (terms_where false v ts)) e) ∙ k)

-- a value in place of v changes nothing where v does not stand
unseen : (v : ℕ) (ts : List Term) (a : ℕ → Bool) (b : Bool) → phase_value (terms_where false v ts) (with_value a v b) ≡ phase_value (terms_where false v ts) a
unseen v ts a b = phase_agree (terms_where false v ts) (with_value a v b) a (λ u h. other u h (nat_eq u v) refl)
  where
    clash : {b : Bool} → b ≡ true → b ≡ false → ⊥
    clash e f = cc

    other : (u : ℕ) → phase_occurs u (terms_where false v ts) ≡ true → (t : Bool) → nat_eq u v ≡ t → cond t b (a u) ≡ a u
    other u h true e = absurd (clash h (ap (λ w. phase_occurs w (terms_where false v ts)) (nat_eq_true u v e) ∙ none_left v ts))
    other u h false e = refl

pub subst_value : (v : ℕ) (by : List (List ℕ)) (ts kept out products sum : List Term) → kept ≡ terms_where false v ts → ((a : ℕ → Bool) → phase_value out a % M ≡ phase_value (terms_where true v ts) (with_value a v (bool_value by a)) % M)
    → ((a : ℕ → Bool) → phase_value products a % M ≡ phase_value out a % M) → ((a : ℕ → Bool) → phase_value sum a % M ≡ (phase_value kept a + phase_value products a) % M)
    → (a : ℕ → Bool) → phase_value sum a % M ≡ phase_value ts (with_value a v (bool_value by a)) % M
subst_value v by ts kept out products sum ek ov pv sv a =
    let a' = with_value a v (bool_value by a) in
    let k = ap (λ (r : List Term). phase_value r a) ek ∙ sym (unseen v ts a (bool_value by a)) in
    let s = split_value v ts a' in
    let o = ov a in
    let p = pv a in
    let t = sv a in
    omega arith

pub subst_free : (v : ℕ) (by : List (List ℕ)) (ts kept out products sum : List Term) → kept ≡ terms_where false v ts → ((u : ℕ) → phase_occurs u out ≡ true → may_stand u v by ts ≡ true)
    → ((u : ℕ) → phase_occurs u products ≡ true → phase_occurs u out ≡ true) → ((u : ℕ) → phase_occurs u sum ≡ true → (phase_occurs u kept || phase_occurs u products) ≡ true)
    → (u : ℕ) → phase_occurs u sum ≡ true → may_stand u v by ts ≡ true
subst_free v poly ts kept out products sum ek oo po so u h = pick (phase_occurs u kept) refl (so u h)
  where
    clash : {b : Bool} → b ≡ true → b ≡ false → ⊥
    clash e f = cc

    apart : (t : Bool) → nat_eq u v ≡ t → phase_occurs u (terms_where false v ts) ≡ true → not t ≡ true
    apart true e k = absurd (clash k (ap (λ w. phase_occurs w (terms_where false v ts)) (nat_eq_true u v e) ∙ none_left v ts))
    apart false e k = refl

    pick : (q : Bool) → phase_occurs u kept ≡ q → (q || phase_occurs u products) ≡ true → may_stand u v poly ts ≡ true
    pick true e k = let w = sym (ap (phase_occurs u) ek) ∙ e in or_left _ _ (ap₂ (λ (x y : Bool). x && y) (kept_occurs u v ts w) (apart (nat_eq u v) refl w))
    pick false e k = oo u (po u k)

-- ---- the variable alone
pub only_term : (v phase : ℕ) (b : Bool) (m k : List ℕ) (ts : List Term) (t : Term) → length ts ≡ 1 → t ≡ get_or ts 0 t → k ≡ v ∷ [] → b ≡ pointwise nat_eq t.mono k → b ≡ true → phase ≡ t.phase → ts ≡ record { mono = v ∷ []; phase = phase } ∷ []
only_term v phase b m k [] t n e ek eb h ep = absurd (omega (arith, n))
only_term v phase b m k (x ∷ []) t n e ek eb h ep =
    let w : t.mono ≡ v ∷ [] = (mono_eq t.mono k).0 (sym eb ∙ h) ∙ ek in
    ap (λ (r : Term). r ∷ []) (sym e ∙ ap₂ (λ (m : List ℕ) (p : ℕ). record { mono = m; phase = p }) w (sym ep))
only_term v phase b m k (x ∷ y ∷ ts) t n e ek eb h ep = absurd (omega (arith, n))

same_name : (v : ℕ) (a : ℕ → Bool) (b : Bool) → (with_value a v b v && true) ≡ b
same_name v a b = ap (λ k. cond k b (a v) && true) (nat_eq_same v) ∙ and_end b
  where
    and_end : (b : Bool) → (b && true) ≡ b
    and_end true = refl
    and_end false = refl

pub alone_value : (v phase : ℕ) (by : List (List ℕ)) (ts p : List Term) → ts ≡ record { mono = v ∷ []; phase = phase } ∷ [] → ((a : ℕ → Bool) → phase_value p a % M ≡ times (bool_value by a) phase % M) → (a : ℕ → Bool) → phase_value p a % M ≡ phase_value ts (with_value a v (bool_value by a)) % M
unfolding holds
alone_value v phase by ts p e f a =
    let b = bool_value by a in
    f a ∙ ap (λ r. times r phase % M) (sym (same_name v a b)) ∙ sym (ap (λ r. r % M) (ap (λ (r : List Term). phase_value r (with_value a v b)) e ∙ one_value (record { mono = v ∷ []; phase = phase }) (with_value a v b)))

pub alone_free : (v : ℕ) (by : List (List ℕ)) (ts p : List Term) → ((u : ℕ) → phase_occurs u p ≡ true → occurs u by ≡ true) → (u : ℕ) → phase_occurs u p ≡ true → may_stand u v by ts ≡ true
alone_free v by ts p f u h = or_right (phase_occurs u ts && not (nat_eq u v)) (occurs u by) (f u h)
