-- A Boolean polynomial as whole numbers, monomial by monomial.
use Rattle.std.proofs.Common.{◌≡◌, ℕ, zero, suc, ◌+◌, ◌*◌, ◌%◌, refl, ap, ap₂, sym, ◌∙◌, subst, arith, ◌<◌, ◌≤◌, Bool, true, false, ◌&&◌, ◌||◌, List, [], ◌∷◌, ◌++◌, length, take, get_or}
use Rattle.std.proofs.lemmas.List.{take_more, take_all}
use Rattle.ps_phase.specs.declared.terms.Term.{Term}
use Rattle.ps_mono.specs.Sets.{holds, stands}
use Rattle.ps_mono.specs.Truth.{times, differ}
use Rattle.ps_mono.proofs.Laws.{holds_union}
use Rattle.ps_bool.specs.Polys.{bool_value, occurs}
use Rattle.ps_phase.specs.Phases.{phase_value, phase_occurs, IsPhasePoly}
use Rattle.ps_phase.proofs.Adding.{M, neither, no_or, times_none, from_one}
use Rattle.ps_phase.proofs.Values.{phase_append, one_value, phase_more, free_push}

-- ---- the loop of `products`
-- the monomial's own term, and less twice its products with the first i of ts
pub record Pushed (m : List ℕ) (by : ℕ) (ts : List Term) (i : ℕ) (out : List Term) : Type 0 where
  pub value : (a : ℕ → Bool) → phase_value out a % M ≡ times (holds m a) (by + 4294967294 * phase_value (take i ts) a) % M
  pub free : (v : ℕ) → stands v m ≡ false → phase_occurs v ts ≡ false → phase_occurs v out ≡ false

start_value : (old : List Term) (a : ℕ → Bool) → phase_value (take 0 old) a ≡ 0
unfolding phase_value
start_value old a = refl

plus_none : (b : Bool) (by p : ℕ) → p ≡ 0 → times b by ≡ times b (by + 4294967294 * p)
plus_none b by p e = let z : by ≡ by + 4294967294 * p = omega arith in ap (times b) z

alone : (v : ℕ) (m : List ℕ) (by : ℕ) → stands v m ≡ false → phase_occurs v (record { mono = m; phase = by } ∷ []) ≡ false
unfolding phase_occurs
alone v m by s = ap (λ b. b || false) s

pub pushed_start : (m : List ℕ) (by : ℕ) (ts old out : List Term) → old ≡ [] → out ≡ old ++ record { mono = m; phase = by } ∷ [] → Pushed m by ts 0 out
pushed_start m by ts old out eo e =
    let d : out ≡ record { mono = m; phase = by } ∷ [] = e ∙ ap (λ (r : List Term). r ++ record { mono = m; phase = by } ∷ []) eo in
    record {
      value = λ a. ap (λ (r : List Term). phase_value r a % M) d ∙ ap (λ r. r % M) (one_value (record { mono = m; phase = by }) a ∙ plus_none (holds m a) by (phase_value (take 0 ts) a) (start_value ts a));
      free = λ v s f. ap (phase_occurs v) d ∙ alone v m by s;
    }

-- one product more, of the phase u
next_step : (h k : Bool) (by p q u : ℕ) → q % M ≡ times h (by + 4294967294 * p) % M → (q + times (h && k) ((u * 4294967294) % M)) % M ≡ times h (by + 4294967294 * (p + times k u)) % M
unfolding times
next_step true true by p q u e = omega arith
next_step true false by p q u e = omega arith
next_step false k by p q u e = omega arith

pub occurs_get : (v : ℕ) (ts : List Term) (i : ℕ) (t : Term) → i < length ts → t ≡ get_or ts i t → phase_occurs v ts ≡ false → stands v t.mono ≡ false
unfolding phase_occurs
occurs_get v [] i t h e f = absurd (omega arith)
occurs_get v (x ∷ ts) zero t h e f = ap (λ (y : Term). stands v y.mono) e ∙ (neither (stands v x.mono) (phase_occurs v ts) f).0
occurs_get v (x ∷ ts) (suc i) t h e f = occurs_get v ts i t (omega arith) e (neither (stands v x.mono) (phase_occurs v ts) f).1

pub pushed_more : (m m' : List ℕ) (by i u : ℕ) (ts out out' : List Term) (t : Term) → i < length ts → t ≡ get_or ts i t → ((v : ℕ) → stands v m' ≡ (stands v m || stands v t.mono)) → u ≡ (t.phase * 4294967294) % M
    → out' ≡ out ++ record { mono = m'; phase = u } ∷ [] → Pushed m by ts i out → Pushed m by ts (i + 1) out'
pushed_more m m' by i u ts out out' t h et em eu e p = record {
  value = λ a.
      ap (λ (r : List Term). phase_value r a % M) e ∙ ap (λ r. r % M) (phase_append out _ a ∙ ap (λ r. phase_value out a + r) (one_value (record { mono = m'; phase = u }) a ∙ ap₂ times (holds_union m t.mono m' em a) eu))
      ∙ next_step (holds m a) (holds t.mono a) by (phase_value (take i ts) a) (phase_value out a) t.phase (p.value a) ∙ ap (λ r. times (holds m a) (by + 4294967294 * r) % M) (sym (phase_more ts i t a h et));
  free = λ v s f. ap (phase_occurs v) e ∙ free_push v out _ (p.free v s f) (em v ∙ no_or _ _ s (occurs_get v ts i t h et f));
}

pub pushed_skip : (m : List ℕ) (by i u : ℕ) (ts out out' : List Term) (t : Term) → i < length ts → t ≡ get_or ts i t → u ≡ (t.phase * 4294967294) % M → u ≡ 0 → out' ≡ out → Pushed m by ts i out → Pushed m by ts (i + 1) out'
pushed_skip m by i u ts out out' t h et eu z e p = record {
  value = λ a.
      let b = holds m a && holds t.mono a in
      let k = next_step (holds m a) (holds t.mono a) by (phase_value (take i ts) a) (phase_value out a) t.phase (p.value a) in
      let o : times b ((t.phase * 4294967294) % M) ≡ 0 = ap (times b) (sym eu ∙ z) ∙ times_none b in
      let q : (phase_value out a + times b ((t.phase * 4294967294) % M)) % M ≡ phase_value out a % M = ap (λ r. r % M) (ap (λ r. phase_value out a + r) o ∙ omega arith) in
      ap (λ (r : List Term). phase_value r a % M) e ∙ sym q ∙ k ∙ ap (λ r. times (holds m a) (by + 4294967294 * r) % M) (sym (phase_more ts i t a h et));
  free = λ v s f. ap (phase_occurs v) e ∙ p.free v s f;
}

pub pushed_value : (m : List ℕ) (by i : ℕ) (ts out vs : List Term) → length ts ≤ i → Pushed m by ts i out → ((a : ℕ → Bool) → phase_value vs a % M ≡ phase_value out a % M)
    → (a : ℕ → Bool) → phase_value vs a % M ≡ times (holds m a) (by + 4294967294 * phase_value ts a) % M
pushed_value m by i ts out vs h p e a = e a ∙ p.value a ∙ ap (λ (r : List Term). times (holds m a) (by + 4294967294 * phase_value r a) % M) (take_all i ts h)

-- what is not there before is not there after
pub to_none : (p q : Bool) → (q ≡ true → p ≡ true) → p ≡ false → q ≡ false
to_none p true h e = absurd (clash (sym e ∙ h refl))
  where
    clash : false ≡ true → ⊥
    clash k = cc
to_none p false h e = refl

pub pushed_free : (m : List ℕ) (by i : ℕ) (ts out vs : List Term) → Pushed m by ts i out → ((v : ℕ) → phase_occurs v vs ≡ true → phase_occurs v out ≡ true) → (v : ℕ) → stands v m ≡ false → phase_occurs v ts ≡ false → phase_occurs v vs ≡ false
pushed_free m by i ts out vs p h v s f = to_none (phase_occurs v out) (phase_occurs v vs) (h v) (p.free v s f)

-- ---- the loop of `lift`
pub record Lifted (poly : List (List ℕ)) (by i : ℕ) (ts : List Term) : Type 0 where
  pub value : (a : ℕ → Bool) → phase_value ts a % M ≡ times (bool_value (take i poly) a) by % M
  pub free : (v : ℕ) → occurs v poly ≡ false → phase_occurs v ts ≡ false
  pub form : IsPhasePoly ts

pub lifted_start : (poly : List (List ℕ)) (by : ℕ) (ts : List Term) → ts ≡ [] → Lifted poly by 0 ts
unfolding bool_value phase_value phase_occurs times
lifted_start poly by ts e = record { value = λ a. ap (λ (r : List Term). phase_value r a % M) e; free = λ v f. ap (phase_occurs v) e; form = subst IsPhasePoly (sym e) tt }

lift_step : (h p : Bool) (by x y q : ℕ) → x % M ≡ times p by % M → q % M ≡ times h (by + 4294967294 * x) % M → y % M ≡ (x + q) % M → y % M ≡ times (differ p h) by % M
unfolding times differ
lift_step true true by x y q e f g = omega arith
lift_step true false by x y q e f g = omega arith
lift_step false true by x y q e f g = omega arith
lift_step false false by x y q e f g = omega arith

differ_end : (p : Bool) → differ p false ≡ differ false p
unfolding differ
differ_end true = refl
differ_end false = refl

differ_move : (h p q : Bool) → differ h (differ p q) ≡ differ (differ h p) q
unfolding differ
differ_move true true true = refl
differ_move true true false = refl
differ_move true false true = refl
differ_move true false false = refl
differ_move false true true = refl
differ_move false true false = refl
differ_move false false true = refl
differ_move false false false = refl

pub bool_push : (ms : List (List ℕ)) (m : List ℕ) (a : ℕ → Bool) → bool_value (ms ++ m ∷ []) a ≡ differ (bool_value ms a) (holds m a)
unfolding bool_value
bool_push [] m a = differ_end (holds m a)
bool_push (k ∷ ms) m a = ap (differ (holds k a)) (bool_push ms m a) ∙ differ_move (holds k a) (bool_value ms a) (holds m a)

pub mono_free : (v : ℕ) (f : List (List ℕ)) (i : ℕ) (m : List ℕ) → i < length f → m ≡ get_or f i m → occurs v f ≡ false → stands v m ≡ false
unfolding occurs
mono_free v [] i m h e k = absurd (omega arith)
mono_free v (x ∷ f) zero m h e k = ap (stands v) e ∙ (neither (stands v x) (occurs v f) k).0
mono_free v (x ∷ f) (suc i) m h e k = mono_free v f i m (omega arith) e (neither (stands v x) (occurs v f) k).1

-- more are the products of the monomial at i with the sum so far, and ts' has them too
pub lifted_more : (poly : List (List ℕ)) (by i : ℕ) (m : List ℕ) (ts used more ts' : List Term) → i < length poly → m ≡ get_or poly i m → used ≡ ts
    → ((a : ℕ → Bool) → phase_value more a % M ≡ times (holds m a) (by + 4294967294 * phase_value used a) % M) → ((v : ℕ) → stands v m ≡ false → phase_occurs v used ≡ false → phase_occurs v more ≡ false)
    → ((a : ℕ → Bool) → phase_value ts' a % M ≡ (phase_value ts a + phase_value more a) % M) → ((v : ℕ) → phase_occurs v ts' ≡ true → (phase_occurs v ts || phase_occurs v more) ≡ true) → IsPhasePoly ts' → Lifted poly by i ts → Lifted poly by (i + 1) ts'
lifted_more poly by i m ts used more ts' h em eu f g k o n l = record {
  value = λ a.
      let q = ap (λ (r : List (List ℕ)). bool_value r a) (take_more poly i m h ∙ ap (λ (r : List ℕ). take i poly ++ r ∷ []) (sym em)) ∙ bool_push (take i poly) m a in
      let w = f a ∙ ap (λ (r : List Term). times (holds m a) (by + 4294967294 * phase_value r a) % M) eu in
      lift_step (holds m a) (bool_value (take i poly) a) by (phase_value ts a) (phase_value ts' a) (phase_value more a) (l.value a) w (k a) ∙ ap (λ b. times b by % M) (sym q);
  free = λ v z. let t = l.free v z in to_none _ (phase_occurs v ts') (o v) (no_or _ _ t (g v (mono_free v poly i m h em z) (ap (phase_occurs v) eu ∙ t)));
  form = n;
}

pub lifted_value : (p poly : List (List ℕ)) (by i : ℕ) (ts : List Term) → poly ≡ p → length poly ≤ i → Lifted poly by i ts → (a : ℕ → Bool) → phase_value ts a % M ≡ times (bool_value p a) by % M
lifted_value p poly by i ts ep h l a = l.value a ∙ ap (λ (r : List (List ℕ)). times (bool_value r a) by % M) (take_all i poly h ∙ ep)

pub lifted_free : (p poly : List (List ℕ)) (by i : ℕ) (ts : List Term) → poly ≡ p → Lifted poly by i ts → (v : ℕ) → phase_occurs v ts ≡ true → occurs v p ≡ true
lifted_free p poly by i ts ep l v h = from_one _ _ (λ k. l.free v (ap (occurs v) ep ∙ k)) h

-- ---- no lift yet, by no phase
pub none_value : (poly : List (List ℕ)) (by : ℕ) (vs : List Term) → by ≡ 0 → vs ≡ [] → (a : ℕ → Bool) → phase_value vs a % M ≡ times (bool_value poly a) by % M
unfolding phase_value
none_value poly by vs z e a = ap (λ (r : List Term). phase_value r a % M) e ∙ sym (ap (λ r. times (bool_value poly a) r % M) z ∙ ap (λ r. r % M) (times_none (bool_value poly a)))

pub none_occurs : (poly : List (List ℕ)) (vs : List Term) → vs ≡ [] → (v : ℕ) → phase_occurs v vs ≡ true → occurs v poly ≡ true
unfolding phase_occurs
none_occurs poly vs e v h = absurd (clash (sym (ap (phase_occurs v) e) ∙ h))
  where
    clash : false ≡ true → ⊥
    clash k = cc
