-- Names close up.
use Rattle.std.proofs.Common.{◌≡◌, ℕ, zero, suc, subst, ◌+◌, ◌-◌, ◌%◌, refl, ap, ap₂, sym, ◌∙◌, arith, ◌<◌, ◌≤◌, Bool, true, false, cond, nat_eq, nat_lt, ◌||◌, List, [], ◌∷◌, ◌++◌, length, take, get_or, ◌⊎◌, inl, inr}
use Rattle.std.proofs.lemmas.Bool.Decides.{nat_tests}
use Rattle.std.proofs.lemmas.List.{take_more, take_all}
use Rattle.ps_mono.specs.Sets.{holds, stands}
use Rattle.ps_mono.specs.Lists.{nat_eq_true}
use Rattle.ps_mono.specs.Truth.{times, differ}
use Rattle.ps_mono.proofs.Laws.{holds_at, fails}
use Rattle.ps_mono.proofs.Truths.{holds_all, holds_not}
use Rattle.ps_phase.specs.declared.terms.Term.{Term}
use Rattle.ps_phase.specs.Phases.{phase_value, phase_occurs}
use Rattle.ps_phase.proofs.Adding.{neither, no_or}
use Rattle.ps_bool.specs.Polys.{bool_value, occurs, IsPoly}
use Rattle.ps_phase.proofs.Values.{phase_append, one_value, phase_more, free_push}
use Rattle.ps_sum.specs.Names.{closed, opened}
use Rattle.ps_sum.specs.Forms.{AllPolys}
use Rattle.ps_sum.specs.Outs.{values, outs_occur}
use Rattle.ps_sum.proofs.Lifts.{occurs_get, bool_push, mono_free}

-- ---- the two names
opened_closed : (v u : ℕ) → nat_eq v u ≡ false → opened v (closed v u) ≡ u
unfolding opened closed
opened_closed v u h = grind (arith, nat_tests)

closed_opened : (v w : ℕ) → closed v (opened v w) ≡ w
unfolding opened closed
closed_opened v w = grind (arith, nat_tests)

opened_other : (v w : ℕ) → nat_eq v (opened v w) ≡ false
unfolding opened
opened_other v w = grind (arith, nat_tests)

same_name : (v w u : ℕ) → nat_eq v u ≡ false → nat_eq w (closed v u) ≡ nat_eq (opened v w) u
unfolding opened closed
same_name v w u h = grind (arith, nat_tests)

-- ---- one monomial
stands_apart : (v u : ℕ) (m : List ℕ) → stands v m ≡ false → stands u m ≡ true → nat_eq v u ≡ false
stands_apart v u m n s = by (nat_eq v u) refl
  where
    clash : {b : Bool} → b ≡ true → b ≡ false → ⊥
    clash e f = cc

    by : (t : Bool) → nat_eq v u ≡ t → t ≡ false
    by true e = absurd (clash (ap (λ w. stands w m) (nat_eq_true v u e) ∙ s) n)
    by false e = refl

pub holds_closed : (m k : List ℕ) (v : ℕ) → stands v m ≡ false → ((w : ℕ) → stands w k ≡ stands (opened v w) m) → (a : ℕ → Bool) → holds k a ≡ holds m (λ u. a (closed v u))
holds_closed m k v n f a = by (holds m (λ u. a (closed v u))) refl
  where
    by : (t : Bool) → holds m (λ u. a (closed v u)) ≡ t → holds k a ≡ t
    by true e = holds_all k a (λ w s. ap a (sym (closed_opened v w)) ∙ holds_at m (λ u. a (closed v u)) (opened v w) e (sym (f w) ∙ s))
    by false e =
        let x = fails m (λ u. a (closed v u)) e in
        holds_not k a (closed v x.0) (f (closed v x.0) ∙ ap (λ u. stands u m) (opened_closed v x.0 (stands_apart v x.0 m n x.1)) ∙ x.1) x.2

-- ---- the loop of `closed_mono`
pub closed_start : (m k : List ℕ) (v : ℕ) → k ≡ [] → (w : ℕ) → stands w k ≡ stands (opened v w) (take 0 m)
unfolding stands
closed_start m k v e w = ap (stands w) e

stands_push : (w : ℕ) (m : List ℕ) (u : ℕ) → stands w (m ++ u ∷ []) ≡ (stands w m || nat_eq w u)
unfolding stands
stands_push w [] u = or_none (nat_eq w u)
  where
    or_none : (b : Bool) → (b || false) ≡ b
    or_none true = refl
    or_none false = refl
stands_push w (x ∷ m) u = ap (λ b. nat_eq w x || b) (stands_push w m u) ∙ or_move (nat_eq w x) (stands w m) (nat_eq w u)
  where
    or_move : (p q r : Bool) → (p || (q || r)) ≡ ((p || q) || r)
    or_move true q r = refl
    or_move false q r = refl

stands_one : (w u : ℕ) → stands w (u ∷ []) ≡ nat_eq w u
unfolding stands
stands_one w u = or_none (nat_eq w u)
  where
    or_none : (b : Bool) → (b || false) ≡ b
    or_none true = refl
    or_none false = refl

place_free : (v : ℕ) (m : List ℕ) (i u : ℕ) → i < length m → u ≡ get_or m i 0 → stands v m ≡ false → nat_eq v u ≡ false
unfolding stands
place_free v [] i u h e n = absurd (omega arith)
place_free v (x ∷ m) zero u h e n = ap (nat_eq v) e ∙ (neither (nat_eq v x) (stands v m) n).0
place_free v (x ∷ m) (suc i) u h e n = place_free v m i u (omega arith) e (neither (nat_eq v x) (stands v m) n).1

-- u stands at place i, and c is its new name
pub closed_more : (m k k' one : List ℕ) (v i u c : ℕ) → i < length m → u ≡ get_or m i 0 → stands v m ≡ false → c ≡ closed v u → one ≡ c ∷ [] → ((w : ℕ) → stands w k' ≡ (stands w k || stands w one)) → ((w : ℕ) → stands w k ≡ stands (opened v w) (take i m)) → (w : ℕ) → stands w k' ≡ stands (opened v w) (take (i + 1) m)
closed_more m k k' one v i u c h eu n ec eo f g w =
    let b = place_free v m i u h eu n in
    let t = take_more m i 0 h ∙ ap (λ (x : ℕ). take i m ++ x ∷ []) (sym eu) in
    f w ∙ ap₂ (λ (x y : Bool). x || y) (g w) (ap (stands w) (eo ∙ ap (λ (x : ℕ). x ∷ []) ec) ∙ stands_one w (closed v u) ∙ same_name v w u b)
    ∙ sym (ap (stands (opened v w)) t ∙ stands_push (opened v w) (take i m) u)

pub closed_end : (m k : List ℕ) (v i n : ℕ) → n ≡ length m → n ≤ i → ((w : ℕ) → stands w k ≡ stands (opened v w) (take i m)) → (w : ℕ) → stands w k ≡ stands (opened v w) m
closed_end m k v i n en h g w = g w ∙ ap (stands (opened v w)) (take_all i m (omega arith))

pub name_is : (v u c : ℕ) → ((v < u) × (c ≡ u - 1)) ⊎ ((u ≤ v) × (c ≡ u)) → c ≡ closed v u
unfolding closed
name_is v u c (inl p) = let e : nat_lt v u ≡ true = grind (arith, nat_tests, p.0) in p.1 ∙ sym (ap (λ b. cond b (u - 1) u) e)
name_is v u c (inr p) = let e : nat_lt v u ≡ false = grind (arith, nat_tests, p.0) in p.1 ∙ sym (ap (λ b. cond b (u - 1) u) e)

-- ---- terms
pub record ClosedTerms (v : ℕ) (ts : List Term) (i : ℕ) (out : List Term) : Type 0 where
  pub value : (a : ℕ → Bool) → phase_value out a ≡ phase_value (take i ts) (λ u. a (closed v u))
  pub free : (w : ℕ) → phase_occurs (opened v w) ts ≡ false → phase_occurs w out ≡ false

pub terms_start : (v : ℕ) (ts out : List Term) → out ≡ [] → ClosedTerms v ts 0 out
unfolding phase_value phase_occurs
terms_start v ts out e = record { value = λ a. ap (λ (r : List Term). phase_value r a) e; free = λ w f. ap (phase_occurs w) e }

pub terms_more : (v : ℕ) (ts out out' : List Term) (i : ℕ) (t : Term) (k : List ℕ) → i < length ts → t ≡ get_or ts i t → phase_occurs v ts ≡ false → ((w : ℕ) → stands w k ≡ stands (opened v w) t.mono) → out' ≡ out ++ record { mono = k; phase = t.phase } ∷ []
    → ClosedTerms v ts i out → ClosedTerms v ts (i + 1) out'
terms_more v ts out out' i t k h et n f e s = record {
  value = λ a.
      let b = λ (u : ℕ). a (closed v u) in
      ap (λ (r : List Term). phase_value r a) e ∙ phase_append out _ a
      ∙ ap₂ (λ (x y : ℕ). x + y) (s.value a) (one_value (record { mono = k; phase = t.phase }) a ∙ ap (λ c. times c t.phase) (holds_closed t.mono k v (occurs_get v ts i t h et n) f a))
      ∙ sym (phase_more ts i t b h et);
  free = λ w o. ap (phase_occurs w) e ∙ free_push w out _ (s.free w o) (f w ∙ occurs_get (opened v w) ts i t h et o);
}

pub terms_value : (v : ℕ) (p ts out vs : List Term) (i : ℕ) → ts ≡ p → length ts ≤ i → ClosedTerms v ts i out → ((a : ℕ → Bool) → phase_value vs a % 4294967296 ≡ phase_value out a % 4294967296) → (a : ℕ → Bool) → phase_value vs a % 4294967296 ≡ phase_value p (λ u. a (closed v u)) % 4294967296
terms_value v p ts out vs i ep h s e a = e a ∙ ap (λ n. n % 4294967296) (s.value a ∙ ap (λ (r : List Term). phase_value r (λ u. a (closed v u))) (take_all i ts h ∙ ep))

pub terms_free : (v : ℕ) (p ts out vs : List Term) (i : ℕ) → ts ≡ p → ClosedTerms v ts i out → ((w : ℕ) → phase_occurs w vs ≡ true → phase_occurs w out ≡ true) → (w : ℕ) → phase_occurs (opened v w) p ≡ false → phase_occurs w vs ≡ false
terms_free v p ts out vs i ep s e w h = never (phase_occurs w vs) refl
  where
    clash : {b : Bool} → b ≡ true → b ≡ false → ⊥
    clash k l = cc

    never : (t : Bool) → phase_occurs w vs ≡ t → t ≡ false
    never true k = absurd (clash (e w k) (s.free w (ap (phase_occurs (opened v w)) ep ∙ h)))
    never false k = refl

-- ---- monomials
pub record ClosedMonos (v : ℕ) (f : List (List ℕ)) (i : ℕ) (out : List (List ℕ)) : Type 0 where
  pub value : (a : ℕ → Bool) → bool_value out a ≡ bool_value (take i f) (λ u. a (closed v u))
  pub free : (w : ℕ) → occurs (opened v w) f ≡ false → occurs w out ≡ false

pub monos_start : (v : ℕ) (f out : List (List ℕ)) → out ≡ [] → ClosedMonos v f 0 out
unfolding bool_value occurs
monos_start v f out e = record { value = λ a. ap (λ (r : List (List ℕ)). bool_value r a) e; free = λ w k. ap (occurs w) e }

pub occurs_push : (w : ℕ) (f : List (List ℕ)) (m : List ℕ) → occurs w f ≡ false → stands w m ≡ false → occurs w (f ++ m ∷ []) ≡ false
unfolding occurs
occurs_push w [] m h s = ap (λ b. b || false) s
occurs_push w (k ∷ f) m h s = let n = neither (stands w k) (occurs w f) h in no_or _ _ n.0 (occurs_push w f m n.1 s)

pub monos_more : (v : ℕ) (f out out' : List (List ℕ)) (i : ℕ) (m k : List ℕ) → i < length f → m ≡ get_or f i m → occurs v f ≡ false → ((w : ℕ) → stands w k ≡ stands (opened v w) m) → out' ≡ out ++ k ∷ []
    → ClosedMonos v f i out → ClosedMonos v f (i + 1) out'
monos_more v f out out' i m k h em n g e s = record {
  value = λ a.
      let b = λ (u : ℕ). a (closed v u) in
      let t = take_more f i m h ∙ ap (λ (r : List ℕ). take i f ++ r ∷ []) (sym em) in
      ap (λ (r : List (List ℕ)). bool_value r a) e ∙ bool_push out k a ∙ ap₂ differ (s.value a) (holds_closed m k v (mono_free v f i m h em n) g a)
      ∙ sym (ap (λ (r : List (List ℕ)). bool_value r b) t ∙ bool_push (take i f) m b);
  free = λ w o. ap (occurs w) e ∙ occurs_push w out k (s.free w o) (g w ∙ mono_free (opened v w) f i m h em o);
}

pub monos_value : (v : ℕ) (p f out vs : List (List ℕ)) (i : ℕ) → f ≡ p → length f ≤ i → ClosedMonos v f i out → ((a : ℕ → Bool) → bool_value vs a ≡ bool_value out a) → (a : ℕ → Bool) → bool_value vs a ≡ bool_value p (λ u. a (closed v u))
monos_value v p f out vs i ep h s e a = e a ∙ s.value a ∙ ap (λ (r : List (List ℕ)). bool_value r (λ u. a (closed v u))) (take_all i f h ∙ ep)

pub monos_free : (v : ℕ) (p f out vs : List (List ℕ)) (i : ℕ) → f ≡ p → ClosedMonos v f i out → ((w : ℕ) → occurs w vs ≡ true → occurs w out ≡ true) → (w : ℕ) → occurs (opened v w) p ≡ false → occurs w vs ≡ false
monos_free v p f out vs i ep s e w h = never (occurs w vs) refl
  where
    clash : {b : Bool} → b ≡ true → b ≡ false → ⊥
    clash k l = cc

    never : (t : Bool) → occurs w vs ≡ t → t ≡ false
    never true k = absurd (clash (e w k) (s.free w (ap (occurs (opened v w)) ep ∙ h)))
    never false k = refl

-- ---- outputs
pub record ClosedOuts (v : ℕ) (fs : List (List (List ℕ))) (i : ℕ) (out : List (List (List ℕ))) : Type 0 where
  pub value : (a : ℕ → Bool) → values out a ≡ values (take i fs) (λ u. a (closed v u))
  pub free : (w : ℕ) → outs_occur (opened v w) fs ≡ false → outs_occur w out ≡ false
  pub form : AllPolys out

pub outs_start : (v : ℕ) (fs out : List (List (List ℕ))) → out ≡ [] → ClosedOuts v fs 0 out
unfolding values outs_occur
outs_start v fs out e = record { value = λ a. ap (λ (r : List (List (List ℕ))). values r a) e; free = λ w k. ap (outs_occur w) e; form = subst AllPolys (sym e) tt }

pub polys_push : (fs : List (List (List ℕ))) (g : List (List ℕ)) → AllPolys fs → IsPoly g → AllPolys (fs ++ g ∷ [])
polys_push [] g h k = (k, tt)
polys_push (f ∷ fs) g h k = (h.0, polys_push fs g h.1 k)

values_push : (fs : List (List (List ℕ))) (f : List (List ℕ)) (a : ℕ → Bool) → values (fs ++ f ∷ []) a ≡ values fs a ++ bool_value f a ∷ []
unfolding values
values_push [] f a = refl
values_push (g ∷ fs) f a = ap (λ (r : List Bool). bool_value g a ∷ r) (values_push fs f a)

pub outs_push : (w : ℕ) (fs : List (List (List ℕ))) (f : List (List ℕ)) → outs_occur w fs ≡ false → occurs w f ≡ false → outs_occur w (fs ++ f ∷ []) ≡ false
unfolding outs_occur
outs_push w [] f h s = ap (λ b. b || false) s
outs_push w (g ∷ fs) f h s = let n = neither (occurs w g) (outs_occur w fs) h in no_or _ _ n.0 (outs_push w fs f n.1 s)

pub outs_get : (w : ℕ) (fs : List (List (List ℕ))) (i : ℕ) (f : List (List ℕ)) → i < length fs → f ≡ get_or fs i f → outs_occur w fs ≡ false → occurs w f ≡ false
unfolding outs_occur
outs_get w [] i f h e n = absurd (omega arith)
outs_get w (g ∷ fs) zero f h e n = ap (occurs w) e ∙ (neither (occurs w g) (outs_occur w fs) n).0
outs_get w (g ∷ fs) (suc i) f h e n = outs_get w fs i f (omega arith) e (neither (occurs w g) (outs_occur w fs) n).1

pub outs_more : (v : ℕ) (fs out out' : List (List (List ℕ))) (i : ℕ) (f g : List (List ℕ)) → i < length fs → f ≡ get_or fs i f
    → ((a : ℕ → Bool) → bool_value g a ≡ bool_value f (λ u. a (closed v u))) → ((w : ℕ) → occurs (opened v w) f ≡ false → occurs w g ≡ false) → out' ≡ out ++ g ∷ []
    → IsPoly g → ClosedOuts v fs i out → ClosedOuts v fs (i + 1) out'
outs_more v fs out out' i f g h ef gv gf e gp s = record {
  value = λ a.
      let b = λ (u : ℕ). a (closed v u) in
      let t = take_more fs i f h ∙ ap (λ (r : List (List ℕ)). take i fs ++ r ∷ []) (sym ef) in
      ap (λ (r : List (List (List ℕ))). values r a) e ∙ values_push out g a ∙ ap₂ (λ (x : List Bool) (y : Bool). x ++ y ∷ []) (s.value a) (gv a)
      ∙ sym (ap (λ (r : List (List (List ℕ))). values r b) t ∙ values_push (take i fs) f b);
  free = λ w o. ap (outs_occur w) e ∙ outs_push w out g (s.free w o) (gf w (outs_get (opened v w) fs i f h ef o));
  form = subst AllPolys (sym e) (polys_push out g s.form gp);
}

pub outs_value : (v : ℕ) (p fs out vs : List (List (List ℕ))) (i : ℕ) → fs ≡ p → length fs ≤ i → vs ≡ out → ClosedOuts v fs i out → (a : ℕ → Bool) → values vs a ≡ values p (λ u. a (closed v u))
outs_value v p fs out vs i ep h ev s a = ap (λ (r : List (List (List ℕ))). values r a) ev ∙ s.value a ∙ ap (λ (r : List (List (List ℕ))). values r (λ u. a (closed v u))) (take_all i fs h ∙ ep)

pub outs_free : (v : ℕ) (p fs out vs : List (List (List ℕ))) (i : ℕ) → fs ≡ p → vs ≡ out → ClosedOuts v fs i out → (w : ℕ) → outs_occur (opened v w) p ≡ false → outs_occur w vs ≡ false
outs_free v p fs out vs i ep ev s w h = ap (outs_occur w) ev ∙ s.free w (ap (outs_occur (opened v w)) ep ∙ h)

pub outs_form : (v : ℕ) (fs out vs : List (List (List ℕ))) (i : ℕ) → vs ≡ out → ClosedOuts v fs i out → AllPolys vs
outs_form v fs out vs i e s = subst AllPolys (sym e) s.form

-- ---- what the sum keeps
pub opened_above : (v w b : ℕ) → v < b → b ≤ suc w → b ≤ opened v w
unfolding opened
opened_above v w b h k = grind (arith, nat_tests)

pub length_values : (fs : List (List (List ℕ))) (a : ℕ → Bool) → length (values fs a) ≡ length fs
unfolding values
length_values [] a = refl
length_values (f ∷ fs) a = ap suc (length_values fs a)

pub same_width : (fs gs : List (List (List ℕ))) (n : ℕ) (a b : ℕ → Bool) → values fs a ≡ values gs b → (0 < length gs → length gs ≡ n) → 0 < length fs → length fs ≡ n
same_width fs gs n a b e w h =
    let l : length fs ≡ length gs = sym (length_values fs a) ∙ ap (λ (r : List Bool). length r) e ∙ length_values gs b in
    l ∙ w (omega arith)
