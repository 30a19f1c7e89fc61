-- Two lists of terms woven into one.
use Rattle.std.proofs.Common.{◌≡◌, ◌≢◌, ℕ, zero, suc, ◌+◌, ◌-◌, ◌%◌, refl, ap, ap₂, sym, ◌∙◌, subst, arith, ◌<◌, ◌≤◌, Bool, true, false, List, [], ◌∷◌, ◌++◌, length, take, drop, get_or, set, length-append, Less, Equal, Greater, ◌⊎◌, inl, inr, ◌||◌, Result, Ok, Err, OnOk, OnErr}
use Rattle.std.proofs.lemmas.Bool.{cases_lt}
use Rattle.std.proofs.Math.Seq.{take-append_seam, take-length}
use Rattle.std.proofs.lemmas.List.{get_or-take, get_or-drop, take-set-le, drop-set, length-set, length-take-le, length-drop, take_all, get_or_default, append_assoc, take-append-drop, take-append-le, drop-take, drop_at}
use Rattle.ps_phase.specs.declared.terms.Term.{Term}
use Rattle.ps_mono.specs.Sets.{mono_cmp, holds}
use Rattle.ps_mono.specs.Truth.{times}
use Rattle.ps_mono.proofs.Orders.{mono_total, mono_equal, mono_flip}
use Rattle.ps_phase.specs.Phases.{phase_value, phase_occurs, TermBefore, IsTerm, IsPhasePoly}
use Rattle.ps_phase.specs.Adding.{add_terms}
use Rattle.ps_phase.specs.Weaving.{Weaving}
use Rattle.ps_phase.proofs.Adding.{add_value, add_form, sum_form, sum_value, sum_free}
use Rattle.ps_phase.proofs.Unique.{same_terms}
use Rattle.ps_phase.proofs.Values.{phase_append, phase_more}

-- ---- terms in order, by their places
before_at : (m : List ℕ) (ts : List Term) (d : Term) (k : ℕ) → TermBefore m ts → k < length ts → mono_cmp m (get_or ts k d).mono ≡ Less
before_at m [] d k b h = absurd (omega arith)
before_at m (t ∷ ts) d zero b h = b.0
before_at m (t ∷ ts) d (suc k) b h = before_at m ts d k b.1 (omega arith)

order_at : (ts : List Term) (d : Term) (k l : ℕ) → IsPhasePoly ts → k < l → l < length ts → mono_cmp (get_or ts k d).mono (get_or ts l d).mono ≡ Less
order_at [] d k l f h w = absurd (omega arith)
order_at (t ∷ ts) d zero zero f h w = absurd (omega arith)
order_at (t ∷ ts) d zero (suc l) f h w = before_at t.mono ts d l f.1 (omega arith)
order_at (t ∷ ts) d (suc k) zero f h w = absurd (omega arith)
order_at (t ∷ ts) d (suc k) (suc l) f h w = order_at ts d k l f.2 (omega arith) (omega arith)

term_at : (ts : List Term) (d : Term) (k : ℕ) → IsPhasePoly ts → k < length ts → IsTerm (get_or ts k d)
term_at [] d k f h = absurd (omega arith)
term_at (t ∷ ts) d zero f h = f.0
term_at (t ∷ ts) d (suc k) f h = term_at ts d k f.2 (omega arith)

take_before : (m : List ℕ) (ts : List Term) (k : ℕ) → TermBefore m ts → TermBefore m (take k ts)
take_before m [] zero b = tt
take_before m [] (suc k) b = tt
take_before m (t ∷ ts) zero b = tt
take_before m (t ∷ ts) (suc k) b = (b.0, take_before m ts k b.1)

take_form : (ts : List Term) (k : ℕ) → IsPhasePoly ts → IsPhasePoly (take k ts)
take_form [] zero f = tt
take_form [] (suc k) f = tt
take_form (t ∷ ts) zero f = tt
take_form (t ∷ ts) (suc k) f = (f.0, take_before t.mono ts k f.1, take_form ts k f.2)

append_before : (m : List ℕ) (xs ys : List Term) → TermBefore m xs → TermBefore m ys → TermBefore m (xs ++ ys)
append_before m [] ys b c = c
append_before m (x ∷ xs) ys b c = (b.0, append_before m xs ys b.1 c)

append_form : (xs ys : List Term) (d : Term) → IsPhasePoly xs → IsPhasePoly ys → ((k : ℕ) → k < length xs → TermBefore (get_or xs k d).mono ys) → IsPhasePoly (xs ++ ys)
append_form [] ys d f g b = g
append_form (x ∷ xs) ys d f g b = (f.0, append_before x.mono xs ys f.1 (b 0 (omega arith)), append_form xs ys d f.2 g (λ k h. b (suc k) (omega arith)))

take_take : (i k : ℕ) (ts : List Term) → i ≤ k → take i (take k ts) ≡ take i ts
take_take zero k ts h = nothing (take k ts) ∙ sym (nothing ts)
  where
    nothing : (us : List Term) → take 0 us ≡ []
    nothing [] = refl
    nothing (u ∷ us) = refl
take_take (suc i) zero ts h = absurd (omega arith)
take_take (suc i) (suc k) [] h = refl
take_take (suc i) (suc k) (t ∷ ts) h = ap (λ (us : List Term). t ∷ us) (take_take i k ts (omega arith))

-- the last of the first that are left
front_last : (xs ts : List Term) (i k : ℕ) (x d : Term) → take i ts ≡ take i xs → k < i → i ≤ length xs → i ≤ length ts → x ≡ get_or ts k x → get_or xs k d ≡ x
front_last xs ts i k x d f h w v e =
    get_or_default xs k d x (omega arith) ∙ sym (get_or-take i xs k x h) ∙ ap (λ (us : List Term). get_or us k x) (sym f) ∙ get_or-take i ts k x h ∙ sym e

-- ---- one step
-- t goes before those in place, and i' and j' are left
stepped : (xs ys : List Term) (i j w i' j' w' : ℕ) (t : Term) (ts ts' : List Term) → i' ≤ i → j' ≤ j → i' + j' ≤ w' → w ≡ w' + 1 → ts' ≡ set ts w' t → IsTerm t → TermBefore t.mono (drop w ts)
    → ((d : Term) (k : ℕ) → k < i' → mono_cmp (get_or xs k d).mono t.mono ≡ Less) → ((d : Term) (k : ℕ) → k < j' → mono_cmp (get_or ys k d).mono t.mono ≡ Less)
    → ((a : ℕ → Bool) → (phase_value (take i' xs) a + (phase_value (take j' ys) a + times (holds t.mono a) t.phase)) % 4294967296 ≡ (phase_value (take i xs) a + phase_value (take j ys) a) % 4294967296)
    → Weaving xs ys i j w ts → Weaving xs ys i' j' w' ts'
unfolding phase_value
stepped xs ys i j w i' j' w' t ts ts' hi hj room e et ft bt bx by v s =
    let inside : w' < length ts = omega (arith, s.within) in
    let rest : drop w' ts' ≡ t ∷ drop w ts = ap (drop w') et ∙ drop-set ts w' t inside ∙ ap (λ k. t ∷ drop k ts) (sym e) in
    let P : List Term → Type 0 = IsPhasePoly in record {
      inside_first = omega (arith, s.inside_first);
      inside_second = omega (arith, s.inside_second);
      room = room;
      within = omega (arith, ap length et, length-set ts w' t, inside);
      front = ap (take i') et ∙ take-set-le i' ts w' t (omega arith) ∙ sym (take_take i' i ts hi) ∙ ap (take i') s.front ∙ take_take i' i xs hi;
      form = subst P (sym rest) (ft, bt, s.form);
      first_before = λ d k h. subst (λ (us : List Term). TermBefore (get_or xs k d).mono us) (sym rest) (bx d k h, s.first_before d k (omega arith));
      second_before = λ d k h. subst (λ (us : List Term). TermBefore (get_or ys k d).mono us) (sym rest) (by d k h, s.second_before d k (omega arith));
      value = λ a.
          ap (λ (us : List Term). (phase_value (take i' xs) a + (phase_value (take j' ys) a + phase_value us a)) % 4294967296) rest
          ∙ moved (phase_value (take i' xs) a) (phase_value (take j' ys) a) (times (holds t.mono a) t.phase) (phase_value (drop w ts) a) (phase_value (take i xs) a) (phase_value (take j ys) a) (v a) ∙ s.value a;
    }
  where
    moved : (p q u b r o : ℕ) → (p + (q + u)) % 4294967296 ≡ (r + o) % 4294967296 → (p + (q + (u + b))) % 4294967296 ≡ (r + (o + b)) % 4294967296
    moved p q u b r o h = omega arith

-- the two last cancel
dropped : (xs ys : List Term) (i j w i' j' : ℕ) (ts : List Term) → i' ≤ i → j' ≤ j
    → ((a : ℕ → Bool) → (phase_value (take i' xs) a + phase_value (take j' ys) a) % 4294967296 ≡ (phase_value (take i xs) a + phase_value (take j ys) a) % 4294967296)
    → Weaving xs ys i j w ts → Weaving xs ys i' j' w ts
dropped xs ys i j w i' j' ts hi hj v s = record {
  inside_first = omega (arith, s.inside_first);
  inside_second = omega (arith, s.inside_second);
  room = omega (arith, s.room);
  within = s.within;
  front = sym (take_take i' i ts hi) ∙ ap (take i') s.front ∙ take_take i' i xs hi;
  form = s.form;
  first_before = λ d k h. s.first_before d k (omega arith);
  second_before = λ d k h. s.second_before d k (omega arith);
  value = λ a. moved (phase_value (take i' xs) a) (phase_value (take j' ys) a) (phase_value (drop w ts) a) (phase_value (take i xs) a) (phase_value (take j ys) a) (v a) ∙ s.value a;
}
  where
    moved : (p q b r o : ℕ) → (p + q) % 4294967296 ≡ (r + o) % 4294967296 → (p + (q + b)) % 4294967296 ≡ (r + (o + b)) % 4294967296
    moved p q b r o h = omega arith

-- every term before place l, and the one there, come before m where that one does
all_before : (ts : List Term) (d : Term) (k l : ℕ) (m : List ℕ) → IsPhasePoly ts → l < length ts → mono_cmp (get_or ts l d).mono m ≡ Less → k ≤ l → mono_cmp (get_or ts k d).mono m ≡ Less
all_before ts d k l m f h c w = by (cases_lt k l)
  where
    by : ((k < l) ⊎ (l ≤ k)) → mono_cmp (get_or ts k d).mono m ≡ Less
    by (inl n) = mono_total.trans (get_or ts k d).mono (get_or ts l d).mono m (order_at ts d k l f n h) c
    by (inr n) = let e : k ≡ l = omega arith in ap (λ x. mono_cmp (get_or ts x d).mono m) e ∙ c

one_more : (ts : List Term) (k : ℕ) (t : Term) (a : ℕ → Bool) → k < length ts → ((d : Term) → get_or ts k d ≡ t) → phase_value (take (k + 1) ts) a ≡ phase_value (take k ts) a + times (holds t.mono a) t.phase
one_more ts k t a h e = phase_more ts k t a h (sym (e t))

-- the last of the second before those in place
wove_put : (xs ys : List Term) (i j w j' w' : ℕ) (y : Term) (ts ts' : List Term) → IsPhasePoly ys → j ≡ j' + 1 → w ≡ w' + 1 → ((d : Term) → y ≡ get_or ys j' d) → ((d : Term) (k : ℕ) → k < i → mono_cmp (get_or xs k d).mono y.mono ≡ Less) → ts' ≡ set ts w' y
    → Weaving xs ys i j w ts → Weaving xs ys i j' w' ts'
wove_put xs ys i j w j' w' y ts ts' fy ej ew ey low et s =
    let other : j' < length ys = omega (arith, s.inside_second) in
    stepped xs ys i j w i j' w' y ts ts' (omega arith) (omega arith) (omega (arith, s.room)) ew et
    (subst IsTerm (sym (ey y)) (term_at ys y j' fy other)) (subst (λ (t : Term). TermBefore t.mono (drop w ts)) (sym (ey y)) (s.second_before y j' (omega arith)))
    low (λ d k h. subst (λ (t : Term). mono_cmp (get_or ys k d).mono t.mono ≡ Less) (sym (ey d)) (order_at ys d k j' fy h other))
    (λ a. ap (λ n. (phase_value (take i xs) a + n) % 4294967296) (sym (one_more ys j' y a other (λ d. sym (ey d))) ∙ ap (λ k. phase_value (take k ys) a) (sym ej))) s

-- the last of the first that are left before those in place
pub wove_moved : (xs ys : List Term) (i j w i' j' w' : ℕ) (x y : Term) (ts ts' : List Term) → IsPhasePoly xs → IsPhasePoly ys → i ≡ i' + 1 → j ≡ j' + 1 → w ≡ w' + 1 → x ≡ get_or ts i' x → ((d : Term) → y ≡ get_or ys j' d) → mono_cmp y.mono x.mono ≡ Less → ts' ≡ set ts w' (get_or ts i' x)
    → Weaving xs ys i j w ts → Weaving xs ys i' j w' ts'
wove_moved xs ys i j w i' j' w' x y ts ts' fx fy ei ej ew ex ey c et s =
    let inside : i' < length xs = omega (arith, s.inside_first) in
    let other : j' < length ys = omega (arith, s.inside_second) in
    let at : (d : Term) → get_or xs i' d ≡ x = λ d. front_last xs ts i i' x d s.front (omega arith) s.inside_first (omega (arith, s.room, s.within)) ex in
    stepped xs ys i j w i' j w' x ts ts' (omega arith) (omega arith) (omega (arith, s.room)) ew (et ∙ ap (set ts w') (sym ex))
    (subst IsTerm (at x) (term_at xs x i' fx inside)) (subst (λ (t : Term). TermBefore t.mono (drop w ts)) (at x) (s.first_before x i' (omega arith)))
    (λ d k h. subst (λ (t : Term). mono_cmp (get_or xs k d).mono t.mono ≡ Less) (at d) (order_at xs d k i' fx h inside))
    (λ d k h. all_before ys d k j' x.mono fy other (ap (λ (t : Term). mono_cmp t.mono x.mono) (sym (ey d)) ∙ c) (omega arith))
    (λ a. ap (λ n. n % 4294967296) (swapped (phase_value (take i' xs) a) (phase_value (take j ys) a) (times (holds x.mono a) x.phase))
    ∙ ap (λ n. (n + phase_value (take j ys) a) % 4294967296) (sym (one_more xs i' x a inside at) ∙ ap (λ k. phase_value (take k xs) a) (sym ei))) s
  where
    swapped : (p q u : ℕ) → p + (q + u) ≡ p + u + q
    swapped p q u = omega arith

-- both have one monomial
met_value : (b c : Bool) (p q u v r : ℕ) → b ≡ c → r % 4294967296 ≡ (u + v) % 4294967296 → (p + (q + times b r)) % 4294967296 ≡ (p + times b u + (q + times c v)) % 4294967296
unfolding times
met_value true true p q u v r e h = omega arith
met_value true false p q u v r e h = cc
met_value false true p q u v r e h = cc
met_value false false p q u v r e h = omega arith

pub wove_both : (xs ys : List Term) (i j w i' j' w' u : ℕ) (x y : Term) (ts ts' : List Term) → IsPhasePoly xs → IsPhasePoly ys → i ≡ i' + 1 → j ≡ j' + 1 → w ≡ w' + 1 → x ≡ get_or ts i' x → ((d : Term) → y ≡ get_or ys j' d) → x.mono ≡ y.mono
    → u ≡ (x.phase + y.phase) % 4294967296 → u ≢ 0 → ts' ≡ set ts w' (record { mono = y.mono; phase = u }) → Weaving xs ys i j w ts → Weaving xs ys i' j' w' ts'
wove_both xs ys i j w i' j' w' u x y ts ts' fx fy ei ej ew ex ey same eu nu et s =
    let inside : i' < length xs = omega (arith, s.inside_first) in
    let other : j' < length ys = omega (arith, s.inside_second) in
    let at : (d : Term) → get_or xs i' d ≡ x = λ d. front_last xs ts i i' x d s.front (omega arith) s.inside_first (omega (arith, s.room, s.within)) ex in
    let fine : IsTerm x = subst IsTerm (at x) (term_at xs x i' fx inside) in
    stepped xs ys i j w i' j' w' (record { mono = x.mono; phase = u }) ts ts' (omega arith) (omega arith) (omega (arith, s.room)) ew (et ∙ ap (λ (m : List ℕ). set ts w' (record { mono = m; phase = u })) (sym same))
    (record { set = fine.set; turns = nu; small = omega (arith, eu) }) (subst (λ (t : Term). TermBefore t.mono (drop w ts)) (at x) (s.first_before x i' (omega arith)))
    (λ d k h. subst (λ (t : Term). mono_cmp (get_or xs k d).mono t.mono ≡ Less) (at d) (order_at xs d k i' fx h inside))
    (λ d k h. subst (λ (m : List ℕ). mono_cmp (get_or ys k d).mono m ≡ Less) (sym same) (subst (λ (t : Term). mono_cmp (get_or ys k d).mono t.mono ≡ Less) (sym (ey d)) (order_at ys d k j' fy h other)))
    (λ a. met_value (holds x.mono a) (holds y.mono a) (phase_value (take i' xs) a) (phase_value (take j' ys) a) x.phase y.phase u (ap (λ m. holds m a) same) (omega (arith, eu))
    ∙ ap₂ (λ p q. (p + q) % 4294967296) (sym (one_more xs i' x a inside at) ∙ ap (λ k. phase_value (take k xs) a) (sym ei)) (sym (one_more ys j' y a other (λ d. sym (ey d))) ∙ ap (λ k. phase_value (take k ys) a) (sym ej))) s

pub wove_none : (xs ys : List Term) (i j w i' j' u : ℕ) (x y : Term) (ts : List Term) → i ≡ i' + 1 → j ≡ j' + 1 → x ≡ get_or ts i' x → ((d : Term) → y ≡ get_or ys j' d) → x.mono ≡ y.mono
    → u ≡ (x.phase + y.phase) % 4294967296 → u ≡ 0 → Weaving xs ys i j w ts → Weaving xs ys i' j' w ts
unfolding times
wove_none xs ys i j w i' j' u x y ts ei ej ex ey same eu nu s =
    let inside : i' < length xs = omega (arith, s.inside_first) in
    let other : j' < length ys = omega (arith, s.inside_second) in
    let at : (d : Term) → get_or xs i' d ≡ x = λ d. front_last xs ts i i' x d s.front (omega arith) s.inside_first (omega (arith, s.room, s.within)) ex in
    dropped xs ys i j w i' j' ts (omega arith) (omega arith) (λ a. nothing (holds x.mono a) (phase_value (take i' xs) a) (phase_value (take j' ys) a)
    ∙ met_value (holds x.mono a) (holds y.mono a) (phase_value (take i' xs) a) (phase_value (take j' ys) a) x.phase y.phase 0 (ap (λ m. holds m a) same) (omega (arith, eu, nu))
    ∙ ap₂ (λ p q. (p + q) % 4294967296) (sym (one_more xs i' x a inside at) ∙ ap (λ k. phase_value (take k xs) a) (sym ei)) (sym (one_more ys j' y a other (λ d. sym (ey d))) ∙ ap (λ k. phase_value (take k ys) a) (sym ej))) s
  where
    nothing : (b : Bool) (p q : ℕ) → (p + q) % 4294967296 ≡ (p + (q + times b 0)) % 4294967296
    nothing true p q = omega arith
    nothing false p q = omega arith

-- ---- many steps at once
drop_form : (ts : List Term) (k : ℕ) → IsPhasePoly ts → IsPhasePoly (drop k ts)
drop_form ts zero f = f
drop_form [] (suc k) f = tt
drop_form (t ∷ ts) (suc k) f = drop_form ts k f.2

before_each : (m : List ℕ) (ts : List Term) (d : Term) → ((k : ℕ) → k < length ts → mono_cmp m (get_or ts k d).mono ≡ Less) → TermBefore m ts
before_each m [] d h = tt
before_each m (t ∷ ts) d h = (h 0 (omega arith), before_each m ts d (λ k n. h (suc k) (omega arith)))

-- those of the first i terms from place l on
block : (xs : List Term) (i l k : ℕ) (d : Term) → l ≤ i → i ≤ length xs → k < length (drop l (take i xs)) → (l + k < i) × (get_or (drop l (take i xs)) k d ≡ get_or xs (l + k) d)
block xs i l k d h w n =
    let size : length (drop l (take i xs)) ≡ i - l = length-drop l (take i xs) ∙ ap (λ x. x - l) (length-take-le i xs w) in
    let low : l + k < i = omega (arith, size, n) in
    (low, get_or-drop l (take i xs) k d ∙ get_or-take i xs (l + k) d low)

-- every term from place l on comes after m where the one there does
from_there : (xs : List Term) (d : Term) (l k : ℕ) (m : List ℕ) → IsPhasePoly xs → l ≤ k → k < length xs → mono_cmp m (get_or xs l d).mono ≡ Less → mono_cmp m (get_or xs k d).mono ≡ Less
from_there xs d l k m f h w c = by (cases_lt l k)
  where
    by : ((l < k) ⊎ (k ≤ l)) → mono_cmp m (get_or xs k d).mono ≡ Less
    by (inl n) = mono_total.trans m (get_or xs l d).mono (get_or xs k d).mono c (order_at xs d l k f n w)
    by (inr n) = let e : l ≡ k = omega arith in ap (λ x. mono_cmp m (get_or xs x d).mono) (sym e) ∙ c

-- what is left, in two parts
halves : (xs : List Term) (i l : ℕ) (a : ℕ → Bool) → l ≤ i → phase_value (take i xs) a ≡ phase_value (take l xs) a + phase_value (drop l (take i xs)) a
halves xs i l a h =
    ap (λ (us : List Term). phase_value us a) (sym (take-append-drop l (take i xs)) ∙ ap (λ (us : List Term). us ++ drop l (take i xs)) (take_take l i xs h))
    ∙ phase_append (take l xs) (drop l (take i xs)) a

-- the terms that are left from place l on before those in place, where none of the second comes after the first of them
wove_passed : (xs ys : List Term) (i j w l w' : ℕ) (y : Term) (ts ts' : List Term) → IsPhasePoly xs → IsPhasePoly ys → l ≤ i → w ≡ w' + (i - l) → 0 < j → ((d : Term) → y ≡ get_or ys (j - 1) d) → ((d : Term) → l < i → mono_cmp y.mono (get_or xs l d).mono ≡ Less)
    → take l ts' ≡ take l ts → drop w' ts' ≡ drop l (take i ts) ++ drop w ts → length ts' ≡ length ts → Weaving xs ys i j w ts → Weaving xs ys l j w' ts'
wove_passed xs ys i j w l w' y ts ts' fx fy hl ew hj ey low front back size s =
    let B : List Term = drop l (take i xs) in
    let rest : drop w' ts' ≡ B ++ drop w ts = back ∙ ap (λ (us : List Term). drop l us ++ drop w ts) s.front in
    let d0 : Term = record { mono = []; phase = 0 } in record {
      inside_first = omega (arith, s.inside_first, hl);
      inside_second = s.inside_second;
      room = omega (arith, s.room, ew, hl);
      within = omega (arith, s.within, ew, size);
      front = front ∙ sym (take_take l i ts hl) ∙ ap (take l) s.front ∙ take_take l i xs hl;
      form = subst IsPhasePoly (sym rest) (append_form B (drop w ts) d0 (drop_form (take i xs) l (take_form xs i fx)) s.form (λ k h.
          let at = block xs i l k d0 hl s.inside_first h in subst (λ (t : Term). TermBefore t.mono (drop w ts)) (sym at.1) (s.first_before d0 (l + k) at.0)));
      first_before = λ d k h. subst (λ (us : List Term). TermBefore (get_or xs k d).mono us) (sym rest) (append_before (get_or xs k d).mono B (drop w ts)
          (before_each (get_or xs k d).mono B d (λ n g. let at = block xs i l n d hl s.inside_first g in ap (λ (t : Term). mono_cmp (get_or xs k d).mono t.mono) at.1 ∙ order_at xs d k (l + n) fx (omega (arith, h)) (omega (arith, at.0, s.inside_first))))
          (s.first_before d k (omega (arith, h, hl))));
      second_before = λ d k h. subst (λ (us : List Term). TermBefore (get_or ys k d).mono us) (sym rest) (append_before (get_or ys k d).mono B (drop w ts)
          (before_each (get_or ys k d).mono B d (λ n g. let at = block xs i l n d hl s.inside_first g in ap (λ (t : Term). mono_cmp (get_or ys k d).mono t.mono) at.1
          ∙ from_there xs d l (l + n) (get_or ys k d).mono fx (omega arith) (omega (arith, at.0, s.inside_first)) (all_before ys d k (j - 1) (get_or xs l d).mono fy (omega (arith, hj, s.inside_second)) (ap (λ (t : Term). mono_cmp t.mono (get_or xs l d).mono) (sym (ey d)) ∙ low d (omega (arith, at.0))) (omega (arith, h)))))
          (s.second_before d k h));
      value = λ a.
          ap (λ (us : List Term). (phase_value (take l xs) a + (phase_value (take j ys) a + phase_value us a)) % 4294967296) rest
          ∙ ap (λ n. (phase_value (take l xs) a + (phase_value (take j ys) a + n)) % 4294967296) (phase_append B (drop w ts) a)
          ∙ ap (λ n. n % 4294967296) (across (phase_value (take l xs) a) (phase_value (take j ys) a) (phase_value B a) (phase_value (drop w ts) a))
          ∙ ap (λ n. (n + (phase_value (take j ys) a + phase_value (drop w ts) a)) % 4294967296) (sym (halves xs i l a hl)) ∙ s.value a;
    }
  where
    across : (p q b r : ℕ) → p + (q + (b + r)) ≡ p + b + (q + r)
    across p q b r = omega arith

-- ---- the first step and the last
pub weaving_start : (xs ys ts : List Term) (n m : ℕ) → n ≡ length xs → m ≡ length ys → ts ≡ xs ++ ys → Weaving xs ys n m (n + m) ts
unfolding phase_value
weaving_start xs ys ts n m en em et =
    let wide : length ts ≡ n + m = ap length et ∙ length-append xs ys ∙ ap₂ (λ (x y : ℕ). x + y) (sym en) (sym em) in
    let rest : drop (n + m) ts ≡ [] = none ts (n + m) (omega (arith, wide)) in record {
      inside_first = omega (arith, en);
      inside_second = omega (arith, em);
      room = omega arith;
      within = omega (arith, wide);
      front = ap (λ k. take k ts) en ∙ ap (take (length xs)) et ∙ take-append_seam xs ys ∙ sym (take-length xs) ∙ ap (λ k. take k xs) (sym en);
      form = subst IsPhasePoly (sym rest) tt;
      first_before = λ d k h. subst (λ (us : List Term). TermBefore (get_or xs k d).mono us) (sym rest) tt;
      second_before = λ d k h. subst (λ (us : List Term). TermBefore (get_or ys k d).mono us) (sym rest) tt;
      value = λ a.
          ap (λ (us : List Term). (phase_value (take n xs) a + (phase_value (take m ys) a + phase_value us a)) % 4294967296) rest
          ∙ ap₂ (λ (us vs : List Term). (phase_value us a + (phase_value vs a + 0)) % 4294967296) (take_all n xs (omega (arith, en))) (take_all m ys (omega (arith, em)))
          ∙ ap (λ k. (phase_value xs a + k) % 4294967296) (zero_more (phase_value ys a));
    }
  where
    none : (us : List Term) (k : ℕ) → length us ≤ k → drop k us ≡ []
    none [] zero h = refl
    none [] (suc k) h = refl
    none (u ∷ us) zero h = absurd (omega arith)
    none (u ∷ us) (suc k) h = none us k (omega arith)

    zero_more : (k : ℕ) → k + 0 ≡ k
    zero_more k = omega arith

pub weaving_done : (xs ys ts vs : List Term) (i j w : ℕ) → IsPhasePoly xs → IsPhasePoly ys → j ≡ 0 → vs ≡ take i ts ++ drop w ts → Weaving xs ys i j w ts → vs ≡ add_terms xs ys
unfolding phase_value
weaving_done xs ys ts vs i j w fx fy z ev s =
    let joined : vs ≡ take i xs ++ drop w ts = ev ∙ ap (λ (us : List Term). us ++ drop w ts) s.front in
    same_terms vs (add_terms xs ys)
    (subst IsPhasePoly (sym joined) (append_form (take i xs) (drop w ts) (record { mono = []; phase = 0 }) (take_form xs i fx) s.form (λ k h.
    let inside : k < i = narrow xs i k h in
    subst (λ (t : Term). TermBefore t.mono (drop w ts)) (sym (get_or-take i xs k (record { mono = []; phase = 0 }) inside)) (s.first_before (record { mono = []; phase = 0 }) k inside))))
    (add_form xs ys fx fy)
    (λ a. ap (λ (us : List Term). phase_value us a % 4294967296) joined ∙ ap (λ n. n % 4294967296) (phase_append (take i xs) (drop w ts) a)
    ∙ ap (λ n. (phase_value (take i xs) a + n) % 4294967296) (none_plus (phase_value (drop w ts) a))
    ∙ ap (λ (us : List Term). (phase_value (take i xs) a + (phase_value us a + phase_value (drop w ts) a)) % 4294967296) (sym (ap (λ k. take k ys) z ∙ nothing ys)) ∙ s.value a ∙ sym (add_value xs ys a))
  where
    none_plus : (n : ℕ) → n ≡ 0 + n
    none_plus n = omega arith

    nothing : (us : List Term) → take 0 us ≡ []
    nothing [] = refl
    nothing (u ∷ us) = refl

    narrow : (us : List Term) (n k : ℕ) → k < length (take n us) → k < n
    narrow [] zero k h = absurd (omega arith)
    narrow [] (suc n) k h = absurd (omega arith)
    narrow (u ∷ us) zero k h = absurd (omega arith)
    narrow (u ∷ us) (suc n) zero h = omega arith
    narrow (u ∷ us) (suc n) (suc k) h = let r = narrow us n k (omega arith) in omega arith

-- ---- one step, with the places as the calls give them
-- the terms that are left come before y where the last of them does
pub front_low : (xs ys ts : List Term) (left more from : ℕ) (x y : Term) → IsPhasePoly xs → left ≢ 0 → x ≡ get_or ts (left - 1) x → Less ≡ mono_cmp x.mono y.mono → Weaving xs ys left more from ts → (d : Term) (k : ℕ) → k < left → mono_cmp (get_or xs k d).mono y.mono ≡ Less
front_low xs ys ts left more from x y fx n ex c s d k h =
    let at : get_or xs (left - 1) d ≡ x = front_last xs ts left (left - 1) x d s.front (omega arith) s.inside_first (omega (arith, s.room, s.within)) ex in
    all_before xs d k (left - 1) y.mono fx (omega (arith, s.inside_first)) (ap (λ (t : Term). mono_cmp t.mono y.mono) at ∙ sym c) (omega arith)

pub step_put : (xs ys : List Term) (left more from l m f : ℕ) (y : Term) (ts us : List Term) → l ≡ left → m + 1 ≡ more → f + 1 ≡ from → us ≡ set ts f y → IsPhasePoly ys → ((d : Term) → y ≡ get_or ys (more - 1) d) → ((d : Term) (k : ℕ) → k < left → mono_cmp (get_or xs k d).mono y.mono ≡ Less) → Weaving xs ys left more from ts
    → Weaving xs ys l m f us × (l + m < left + more)
step_put xs ys left more from l m f y ts us el em ef eu fy ey low s =
    let same : more - 1 ≡ m = omega arith in (
      subst (λ (k : ℕ). Weaving xs ys k m f us) (sym el) (wove_put xs ys left more from m f y ts us fy (sym em) (sym ef) (λ d. ey d ∙ ap (λ k. get_or ys k d) same) low eu s),
      omega arith,
    )

pub step_moved : (xs ys : List Term) (left more from l m f : ℕ) (x y : Term) (ts us : List Term) → l + 1 ≡ left → m ≡ more → f + 1 ≡ from → 0 < more → us ≡ set ts f (get_or ts l x) → IsPhasePoly xs → IsPhasePoly ys → x ≡ get_or ts (left - 1) x → ((d : Term) → y ≡ get_or ys (more - 1) d) → Greater ≡ mono_cmp x.mono y.mono → Weaving xs ys left more from ts
    → Weaving xs ys l m f us × (l + m < left + more)
step_moved xs ys left more from l m f x y ts us el em ef pos eu fx fy ex ey c s =
    let last : left - 1 ≡ l = omega arith in (
      subst (λ (k : ℕ). Weaving xs ys l k f us) (sym em) (wove_moved xs ys left more from l (more - 1) f x y ts us fx fy (sym el) (omega arith) (sym ef) (ex ∙ ap (λ k. get_or ts k x) last) ey (mono_flip x.mono y.mono (sym c)) eu s),
      omega arith,
    )

-- the terms that are left from place l on, in front of those in place
pub step_passed : (xs ys : List Term) (left more from l k m f : ℕ) (y : Term) (ts us : List Term) → k ≤ left → l ≡ k → m ≡ more → f + (left - k) ≡ from → 0 < more → us ≡ take f ts ++ take (left - k) (drop k ts) ++ drop from ts → IsPhasePoly xs → IsPhasePoly ys → ((d : Term) → y ≡ get_or ys (more - 1) d) → ((d : Term) → k < left → mono_cmp y.mono (get_or ts k d).mono ≡ Less) → Weaving xs ys left more from ts → Weaving xs ys l m f us
step_passed xs ys left more from l k m f y ts us hk el em ef hj eu fx fy ey low s =
    let n : ℕ = left - k in
    let end : k + n ≡ left = omega (arith, hk) in
    let B : List Term = take n (drop k ts) in
    let same : B ≡ drop k (take left ts) = sym (drop-take k n ts) ∙ ap (λ x. drop k (take x ts)) end in
    let wide : left ≤ length ts = omega (arith, s.room, s.within) in
    let short : length B ≡ n = length-take-le n (drop k ts) (omega (arith, length-drop k ts, wide, end)) in
    let far : length (take f ts) ≡ f = length-take-le f ts (omega (arith, s.within, ef)) in
    let joined : us ≡ take f ts ++ (B ++ drop from ts) = eu ∙ append_assoc (take f ts) B (drop from ts) in
    let size : length us ≡ length ts =
    ap length joined ∙ length-append (take f ts) (B ++ drop from ts) ∙ ap₂ (λ (x y : ℕ). x + y) far (length-append B (drop from ts) ∙ ap₂ (λ (x y : ℕ). x + y) short (length-drop from ts)) ∙ whole f n from (length ts) ef s.within in
    let front : take k us ≡ take k ts = ap (take k) joined ∙ take-append-le k (take f ts) (B ++ drop from ts) (omega (arith, far, s.room, ef, hk)) ∙ take_take k f ts (omega (arith, s.room, ef, hk)) in
    let back : drop f us ≡ drop k (take left ts) ++ drop from ts = ap (drop f) joined ∙ drop_at (take f ts) (B ++ drop from ts) f far ∙ ap (λ (vs : List Term). vs ++ drop from ts) same in
    subst (λ (x : ℕ). Weaving xs ys x m f us) (sym el) (subst (λ (x : ℕ). Weaving xs ys k x f us) (sym em)
    (wove_passed xs ys left more from k f y ts us fx fy hk (sym ef) hj ey (λ d h. ap (λ (t : Term). mono_cmp y.mono t.mono) (there d h) ∙ low d h) front back size s))
  where
    there : (d : Term) → k < left → get_or xs k d ≡ get_or ts k d
    there d h = sym (get_or-take left xs k d h) ∙ ap (λ (vs : List Term). get_or vs k d) (sym s.front) ∙ get_or-take left ts k d h

    whole : (f n from size : ℕ) → f + n ≡ from → from ≤ size → f + (n + (size - from)) ≡ size
    whole f n from size e h = omega arith

-- the last of the terms that are left has y's monomial
pub front_same : (ts : List Term) (left : ℕ) (x : Term) (u : List ℕ) → left ≢ 0 → left ≤ length ts → x ≡ get_or ts (left - 1) x → Equal ≡ mono_cmp x.mono u → (d : Term) → (get_or ts (left - 1) d).mono ≡ u
front_same ts left x u n h ex c d = ap (λ (t : Term). t.mono) (get_or_default ts (left - 1) d x (omega arith) ∙ sym ex) ∙ mono_equal x.mono u (sym c)

-- ---- what `weave` gives, by values; f and g are the two lists as they are passed, p and q as clauses see them
pub woven_form : {T E : Type 0} (r : Result T E) (xs ys f g vs : List Term) → f ≡ xs → g ≡ ys → OnOk r (vs ≡ add_terms f g) → OnErr r (vs ≡ xs) → IsPhasePoly xs → IsPhasePoly ys → IsPhasePoly vs
woven_form (Ok u) xs ys f g vs ef eg e k s t = sum_form xs ys f g vs ef eg e s t
woven_form (Err u) xs ys f g vs ef eg e k s t = subst IsPhasePoly (sym k) s

pub woven_value : {T E : Type 0} (r : Result T E) (p q xs ys f g vs : List Term) → xs ≡ p → ys ≡ q → f ≡ xs → g ≡ ys → OnOk r (vs ≡ add_terms f g) → OnOk r ((a : ℕ → Bool) → phase_value vs a % 4294967296 ≡ (phase_value p a + phase_value q a) % 4294967296)
woven_value (Ok u) p q xs ys f g vs ep eq ef eg e = sum_value p q xs ys f g vs ep eq ef eg e
woven_value (Err u) p q xs ys f g vs ep eq ef eg e = tt

pub woven_free : {T E : Type 0} (r : Result T E) (p q xs ys f g vs : List Term) → xs ≡ p → ys ≡ q → f ≡ xs → g ≡ ys → OnOk r (vs ≡ add_terms f g) → OnOk r ((v : ℕ) → phase_occurs v vs ≡ true → (phase_occurs v p || phase_occurs v q) ≡ true)
woven_free (Ok u) p q xs ys f g vs ep eq ef eg e = sum_free p q xs ys f g vs ep eq ef eg e
woven_free (Err u) p q xs ys f g vs ep eq ef eg e = tt

pub woven_kept : {T E : Type 0} (r : Result T E) (p xs vs : List Term) → xs ≡ p → OnErr r (vs ≡ xs) → OnErr r (vs ≡ p)
woven_kept (Ok u) p xs vs ep e = tt
woven_kept (Err u) p xs vs ep e = e ∙ ep
