-- Products of so many monomials, and what all of them come to.
use Rattle.std.proofs.Common.{◌≡◌, ◌≢◌, ℕ, zero, suc, ◌+◌, ◌*◌, ◌-◌, ◌%◌, refl, ap, ap₂, sym, ◌∙◌, arith, ◌<◌, ◌≤◌, Bool, true, false, ◌&&◌, ◌||◌, nat_eq, List, [], ◌∷◌, ◌++◌, length, ◌⊎◌, inl, inr}
use Rattle.ps_phase.specs.declared.terms.Term.{Term}
use Rattle.ps_mono.specs.Sets.{holds, stands}
use Rattle.ps_mono.specs.Truth.{times, differ}
use Rattle.ps_mono.proofs.Laws.{holds_union}
use Rattle.ps_bool.specs.Polys.{bool_value, occurs}
use Rattle.ps_phase.specs.Phases.{phase_value, phase_occurs}
use Rattle.ps_phase.proofs.Adding.{M, neither, no_or, from_one}
use Rattle.ps_sum.proofs.Lifts.{to_none}
use Rattle.ps_phase.proofs.Values.{phase_append, one_value, free_push}
use Rattle.ps_sum.specs.Counts.{binomial}
use Rattle.ps_sum.specs.Tables.{true_count, is_odd}
use Rattle.std.proofs.lemmas.Nat.{mul-mod_second, mul-mod_first}
use Rattle.ps_sum.proofs.Counting.{binomial_zero}
use Rattle.ps_sum.proofs.TableWorths.{odd_more}

-- ---- the loop of `push_products`
-- the products with the monomials before the rest are made
pub record Pushing (base : List ℕ) (f : List (List ℕ)) (size phase : ℕ) (old : List Term) (rest : List (List ℕ)) (out : List Term) : Type 0 where
  pub value : (a : ℕ → Bool) → phase_value out a + times (holds base a) (binomial (true_count rest a) size * phase) ≡ phase_value old a + times (holds base a) (binomial (true_count f a) size * phase)
  pub free : (v : ℕ) → stands v base ≡ false → occurs v f ≡ false → phase_occurs v old ≡ false → (phase_occurs v out ≡ false) × (occurs v rest ≡ false)

pub pushing_start : (base : List ℕ) (f rest : List (List ℕ)) (size phase : ℕ) (old : List Term) → rest ≡ f → Pushing base f size phase old rest old
pushing_start base f rest size phase old e = record {
  value = λ a. ap (λ (r : List (List ℕ)). phase_value old a + times (holds base a) (binomial (true_count r a) size * phase)) e;
  free = λ v s o p. (p, ap (occurs v) e ∙ o);
}

pascal_more : (t s phase : ℕ) → binomial (suc t) (suc s) * phase ≡ binomial t s * phase + binomial t (suc s) * phase
unfolding binomial
pascal_more t s phase = omega arith

choose_more : (h : Bool) (t size phase : ℕ) → size ≢ 0 → binomial (times h 1 + t) size * phase ≡ times h (binomial t (size - 1) * phase) + binomial t size * phase
unfolding times
choose_more h t zero phase z = absurd (z refl)
choose_more true t (suc s) phase z =
    let e : 1 + t ≡ suc t = omega arith in
    let i : suc s - 1 ≡ s = omega arith in
    ap (λ n. binomial n (suc s) * phase) e ∙ pascal_more t s phase ∙ ap (λ k. binomial t k * phase + binomial t (suc s) * phase) (sym i)
choose_more false t (suc s) phase z = let e : 0 + t ≡ t = omega arith in ap (λ n. binomial n (suc s) * phase) e ∙ omega arith

push_step : (b h : Bool) (x x' y p q r : ℕ) → x' ≡ x + times (b && h) q → r ≡ times h q + p → x + times b r ≡ y → x' + times b p ≡ y
unfolding times
push_step true true x x' y p q r e f g = omega (arith, e, f, g)
push_step true false x x' y p q r e f g = omega (arith, e, f, g)
push_step false h x x' y p q r e f g = omega (arith, e, g)

pub pushing_more : (base m u : List ℕ) (f rest others rest' : List (List ℕ)) (size phase : ℕ) (old out out' : List Term) → size ≢ 0 → rest ≡ m ∷ others → rest' ≡ others → ((v : ℕ) → stands v u ≡ (stands v base || stands v m))
    → ((a : ℕ → Bool) → phase_value out' a ≡ phase_value out a + times (holds u a) (binomial (true_count others a) (size - 1) * phase)) → ((v : ℕ) → stands v u ≡ false → occurs v others ≡ false → phase_occurs v out ≡ false → phase_occurs v out' ≡ false)
    → Pushing base f size phase old rest out → Pushing base f size phase old rest' out'
unfolding true_count occurs
pushing_more base m u f rest others rest' size phase old out out' z er eo eu g o s = record {
  value = λ a.
      let w = s.value a in
      let c = ap (λ (r : List (List ℕ)). binomial (true_count r a) size * phase) er ∙ choose_more (holds m a) (true_count others a) size phase z in
      let k = g a ∙ ap (λ b. phase_value out a + times b (binomial (true_count others a) (size - 1) * phase)) (holds_union base m u eu a) in
      ap (λ (r : List (List ℕ)). phase_value out' a + times (holds base a) (binomial (true_count r a) size * phase)) eo
      ∙ push_step (holds base a) (holds m a) (phase_value out a) (phase_value out' a) _ (binomial (true_count others a) size * phase) (binomial (true_count others a) (size - 1) * phase) (binomial (true_count rest a) size * phase) k c w;
  free = λ v n q p.
      let t = s.free v n q p in
      let k = neither (stands v m) (occurs v others) (sym (ap (occurs v) er) ∙ t.1) in
      (o v (eu v ∙ no_or _ _ n k.0) k.1 t.0, ap (occurs v) eo ∙ k.1);
}

none_left : (size phase : ℕ) (a : ℕ → Bool) → size ≢ 0 → binomial (true_count [] a) size * phase ≡ 0
unfolding binomial true_count
none_left zero phase a z = absurd (z refl)
none_left (suc s) phase a z = omega arith

empty_list : (f : List (List ℕ)) → length f ≡ 0 → f ≡ []
empty_list [] e = refl
empty_list (m ∷ f) e = absurd (omega (arith, e))

end_step : (b : Bool) (x y p : ℕ) → p ≡ 0 → x + times b p ≡ y → x ≡ y
unfolding times
end_step true x y p e f = omega (arith, e, f)
end_step false x y p e f = omega (arith, f)

pub pushing_end : (base : List ℕ) (f rest : List (List ℕ)) (size phase : ℕ) (old out : List Term) → size ≢ 0 → length rest ≡ 0 → Pushing base f size phase old rest out → (a : ℕ → Bool) → phase_value out a ≡ phase_value old a + times (holds base a) (binomial (true_count f a) size * phase)
pushing_end base f rest size phase old out z l s a = end_step (holds base a) _ _ (binomial (true_count rest a) size * phase) (ap (λ (r : List (List ℕ)). binomial (true_count r a) size * phase) (empty_list rest l) ∙ none_left size phase a z) (s.value a)

pub pushed_base : (base : List ℕ) (f : List (List ℕ)) (size phase : ℕ) (old out : List Term) → size ≡ 0 → out ≡ old ++ record { mono = base; phase = phase } ∷ [] → (a : ℕ → Bool) → phase_value out a ≡ phase_value old a + times (holds base a) (binomial (true_count f a) size * phase)
pushed_base base f size phase old out z e a =
    let o : phase ≡ 1 * phase = omega arith in
    let c : 1 ≡ binomial (true_count f a) size = sym (binomial_zero (true_count f a)) ∙ ap (binomial (true_count f a)) (sym z) in
    ap (λ (r : List Term). phase_value r a) e ∙ phase_append old _ a ∙ ap (λ n. phase_value old a + n) (one_value (record { mono = base; phase = phase }) a) ∙ ap (λ n. phase_value old a + times (holds base a) n) (o ∙ ap (λ n. n * phase) c)

pub pushed_base_free : (base : List ℕ) (phase : ℕ) (old out : List Term) → out ≡ old ++ record { mono = base; phase = phase } ∷ [] → (v : ℕ) → stands v base ≡ false → phase_occurs v old ≡ false → phase_occurs v out ≡ false
pushed_base_free base phase old out e v s o = ap (phase_occurs v) e ∙ free_push v old _ o s

-- ---- products of all sizes: less twice the phase at each size
unfoldable pub units_at : ℕ → ℕ → ℕ
units_at by zero = by
units_at by (suc s) = units_at by s * 4294967294

-- the products of 1 to n of k monomials that hold
unfoldable pub all_products : ℕ → ℕ → ℕ → ℕ
all_products by k zero = 0
all_products by k (suc n) = all_products by k n + binomial k (suc n) * units_at by n

sum_step : (p p1 q q1 b b1 u by : ℕ) → p1 ≡ q + b1 * u + by + 4294967294 * p → p1 + (b1 + b) * (u * 4294967294) ≡ q + b1 * u + b * (u * 4294967294) + by + 4294967294 * (p + b1 * u)
sum_step p p1 q q1 b b1 u by e = omega (arith, e)

first_step : (b b1 by : ℕ) → b ≡ 1 → 0 + (b + b1) * by ≡ 0 + b1 * by + by + 4294967294 * 0
first_step b b1 by e = ap (λ r. 0 + (r + b1) * by) e ∙ omega arith

-- one monomial more
one_more : (by k n : ℕ) → all_products by (suc k) (suc n) ≡ all_products by k (suc n) + by + 4294967294 * all_products by k n
unfolding all_products units_at binomial
one_more by k zero = first_step (binomial k zero) (binomial k 1) by (binomial_zero k)
one_more by k (suc n) = sum_step (all_products by k n) (all_products by (suc k) (suc n)) (all_products by k n) 0 (binomial k (suc (suc n))) (binomial k (suc n)) (units_at by n) by (one_more by k n)

few_of : (k s : ℕ) → k < s → binomial k s ≡ 0
unfolding binomial
few_of k zero h = absurd (omega (arith, h))
few_of zero (suc s) h = refl
few_of (suc k) (suc s) h = let p = few_of k s (omega (arith, h)) in let q = few_of k (suc s) (omega (arith, h)) in omega (arith, p, q)

no_products : (by n : ℕ) → all_products by 0 n ≡ 0
unfolding all_products binomial
no_products by zero = refl
no_products by (suc n) = ap (λ r. r + 0 * units_at by n) (no_products by n) ∙ omega arith

flip : (o : Bool) (by p p1 q : ℕ) → p1 ≡ q + by + 4294967294 * p → (4294967294 * p) % M ≡ (4294967294 * q) % M → q % M ≡ times o by % M → p1 % M ≡ times (differ o true) by % M
unfolding times differ
flip true by p p1 q e f g = omega (arith, e, f, g)
flip false by p p1 q e f g = omega (arith, e, f, g)

-- what the last size adds is a whole turn when it is taken twice
last_none : (by k n : ℕ) → (units_at by (suc n) % M ≡ 0) ⊎ (k < suc n) → (4294967294 * all_products by k n) % M ≡ (4294967294 * all_products by k (suc n)) % M
unfolding all_products units_at
last_none by k n (inl z) =
    let b = binomial k (suc n) in
    let u = units_at by n in
    let e : (b * (u * 4294967294)) % M ≡ 0 = sym (mul-mod_second b (u * 4294967294) M) ∙ ap (λ r. (b * r) % M) z ∙ ap (λ r. r % M) (times_zero b) in
    double (all_products by k n) b u e
  where
    times_zero : (b : ℕ) → b * 0 ≡ 0
    times_zero b = omega arith

    double : (p b u : ℕ) → (b * (u * 4294967294)) % M ≡ 0 → (4294967294 * p) % M ≡ (4294967294 * (p + b * u)) % M
    double p b u e = omega (arith, e)
last_none by k n (inr h) = let e = few_of k (suc n) h in ap (λ r. (4294967294 * r) % M) (same (all_products by k n) (binomial k (suc n)) (units_at by n) e)
  where
    same : (p b u : ℕ) → b ≡ 0 → p ≡ p + b * u
    same p b u e = sym (ap (λ r. p + r * u) e ∙ omega arith)

count_odd : (k : ℕ) → is_odd (suc k) ≡ differ (is_odd k) true
unfolding times differ
count_odd k = let e : suc k ≡ k + 1 = omega arith in ap is_odd e ∙ odd_more true k

products_odd : (by k n : ℕ) → (units_at by (suc n) % M ≡ 0) ⊎ (k ≤ suc n) → all_products by k (suc n) % M ≡ times (is_odd k) by % M
unfolding times is_odd
products_odd by zero n h = ap (λ r. r % M) (no_products by (suc n))
products_odd by (suc k) n h = flip (is_odd k) by (all_products by k n) (all_products by (suc k) (suc n)) (all_products by k (suc n)) (one_more by k n) (last_none by k n (below h)) (products_odd by k n (rest h)) ∙ sym (ap (λ o. times o by % M) (count_odd k))
  where
    below : ((units_at by (suc n) % M ≡ 0) ⊎ (suc k ≤ suc n)) → (units_at by (suc n) % M ≡ 0) ⊎ (k < suc n)
    below (inl z) = inl z
    below (inr l) = inr (omega (arith, l))

    rest : ((units_at by (suc n) % M ≡ 0) ⊎ (suc k ≤ suc n)) → (units_at by (suc n) % M ≡ 0) ⊎ (k ≤ suc n)
    rest (inl z) = inl z
    rest (inr l) = inr (omega (arith, l))

unfolded_none : (by k : ℕ) → (by % M ≡ 0) ⊎ (k ≤ 0) → 0 % M ≡ times (is_odd k) by % M
unfolding times is_odd
unfolded_none by zero h = refl
unfolded_none by (suc k) (inr l) = absurd (omega (arith, l))
unfolded_none by (suc k) (inl z) = at (is_odd (suc k))
  where
    at : (o : Bool) → 0 % M ≡ times o by % M
    at true = sym z
    at false = refl

pub products_end : (by k n : ℕ) → (units_at by n % M ≡ 0) ⊎ (k ≤ n) → all_products by k n % M ≡ times (is_odd k) by % M
unfolding all_products units_at
products_end by k zero h = unfolded_none by k h
products_end by k (suc n) h = products_odd by k n h

-- ---- the loop of `multiplied`
swap : (p q : Bool) → differ p q ≡ differ q p
unfolding differ
swap true true = refl
swap true false = refl
swap false true = refl
swap false false = refl

true_odd : (f : List (List ℕ)) (a : ℕ → Bool) → is_odd (true_count f a) ≡ bool_value f a
unfolding true_count bool_value is_odd
true_odd [] a = refl
true_odd (m ∷ f) a = by (holds m a) (true_odd f a)
  where
    by : (b : Bool) → is_odd (true_count f a) ≡ bool_value f a → is_odd (times b 1 + true_count f a) ≡ differ b (bool_value f a)
    by b e = let w : times b 1 + true_count f a ≡ true_count f a + times b 1 = omega arith in ap is_odd w ∙ odd_more b (true_count f a) ∙ swap (is_odd (true_count f a)) b ∙ ap (differ b) e

true_most : (f : List (List ℕ)) (a : ℕ → Bool) → true_count f a ≤ length f
unfolding true_count times
true_most [] a = omega arith
true_most (m ∷ f) a = by (holds m a) (true_most f a)
  where
    by : (b : Bool) → true_count f a ≤ length f → times b 1 + true_count f a ≤ suc (length f)
    by true h = omega (arith, h)
    by false h = omega (arith, h)

-- the products of fewer than size of the monomials are made
pub record Multiplying (f : List (List ℕ)) (by size units : ℕ) (out : List Term) : Type 0 where
  pub units_are : units ≡ units_at by (size - 1) % M
  pub value : (a : ℕ → Bool) → phase_value out a % M ≡ all_products by (true_count f a) (size - 1) % M
  pub free : (v : ℕ) → occurs v f ≡ false → phase_occurs v out ≡ false

pub multiplying_start : (f : List (List ℕ)) (by units : ℕ) (out : List Term) → by < M → units ≡ by → out ≡ [] → Multiplying f by 1 units out
unfolding units_at all_products phase_value phase_occurs
multiplying_start f by units out h eu e = record { units_are = omega (arith, eu, h); value = λ a. ap (λ (r : List Term). phase_value r a % M) e; free = λ v o. ap (phase_occurs v) e }

one_holds : (a : ℕ → Bool) (m : List ℕ) → m ≡ [] → holds m a ≡ true
unfolding holds
one_holds a m e = ap (λ (r : List ℕ). holds r a) e

one_free : (v : ℕ) (m : List ℕ) → m ≡ [] → stands v m ≡ false
unfolding stands
one_free v m e = ap (λ (r : List ℕ). stands v r) e

next : (by n : ℕ) → (units_at by n * 4294967294) % M ≡ units_at by (suc n) % M
unfolding units_at
next by n = refl

last : (by k n : ℕ) → (all_products by k n + binomial k (suc n) * units_at by n) % M ≡ all_products by k (suc n) % M
unfolding all_products
last by k n = refl

whole : (p : ℕ) → times true p ≡ p
unfolding times
whole p = refl

units_sum : (x y b u c : ℕ) → x % M ≡ y % M → (b * c) % M ≡ (b * u) % M → (x + b * c) % M ≡ (y + b * u) % M
units_sum x y b u c e f = omega (arith, e, f)

-- out' has those of size too
pub multiplying_more : (f : List (List ℕ)) (one : List ℕ) (by size units units' : ℕ) (out out' : List Term) → 0 < size → one ≡ [] → units' ≡ (units * 4294967294) % M
    → ((a : ℕ → Bool) → phase_value out' a ≡ phase_value out a + times (holds one a) (binomial (true_count f a) size * units)) → ((v : ℕ) → stands v one ≡ false → occurs v f ≡ false → phase_occurs v out ≡ false → phase_occurs v out' ≡ false)
    → Multiplying f by size units out → Multiplying f by (size + 1) units' out'
multiplying_more f one by zero units units' out out' h eo eu g o s = absurd (omega (arith, h))
multiplying_more f one by (suc n) units units' out out' h eo eu g o s = record {
  units_are = let w = s.units_are in let i : suc n + 1 - 1 ≡ suc n = omega arith in let j : suc n - 1 ≡ n = omega arith in
      eu ∙ ap (λ r. (r * 4294967294) % M) (w ∙ ap (λ k. units_at by k % M) j) ∙ mul-mod_first (units_at by n) 4294967294 M ∙ next by n ∙ ap (λ k. units_at by k % M) (sym i);
  value = λ a.
      let i : suc n + 1 - 1 ≡ suc n = omega arith in
      let j : suc n - 1 ≡ n = omega arith in
      let b = binomial (true_count f a) (suc n) in
      let t : times (holds one a) (b * units) ≡ b * units = ap (λ r. times r (b * units)) (one_holds a one eo) ∙ whole (b * units) in
      let e : (b * units) % M ≡ (b * units_at by n) % M = ap (λ r. (b * r) % M) (s.units_are ∙ ap (λ k. units_at by k % M) j) ∙ mul-mod_second b (units_at by n) M in
      ap (λ r. r % M) (g a ∙ ap (λ r. phase_value out a + r) t) ∙ units_sum (phase_value out a) (all_products by (true_count f a) n) b (units_at by n) units (s.value a ∙ ap (λ k. all_products by (true_count f a) k % M) j) e
      ∙ last by (true_count f a) n ∙ ap (λ k. all_products by (true_count f a) k % M) (sym i);
  free = λ v q. o v (one_free v one eo) q (s.free v q);
}

-- the products are all made: the next ones would be at whole turns, or there are none
pub multiplying_end : (f : List (List ℕ)) (by size units : ℕ) (out vs : List Term) → 0 < size → (units ≡ 0) ⊎ (length f < size) → ((a : ℕ → Bool) → phase_value vs a % M ≡ phase_value out a % M) → Multiplying f by size units out
    → (a : ℕ → Bool) → phase_value vs a % M ≡ times (bool_value f a) by % M
multiplying_end f by zero units out vs h c g s a = absurd (omega (arith, h))
multiplying_end f by (suc n) units out vs h c g s a =
    let j : suc n - 1 ≡ n = omega arith in
    g a ∙ s.value a ∙ ap (λ k. all_products by (true_count f a) k % M) j ∙ products_end by (true_count f a) n (by_cases c) ∙ ap (λ b. times b by % M) (true_odd f a)
  where
    by_cases : ((units ≡ 0) ⊎ (length f < suc n)) → (units_at by n % M ≡ 0) ⊎ (true_count f a ≤ n)
    by_cases (inl z) = let j : suc n - 1 ≡ n = omega arith in inl (sym (s.units_are ∙ ap (λ k. units_at by k % M) j) ∙ z)
    by_cases (inr l) = let t = true_most f a in inr (omega (arith, l, t))

pub multiplying_free : (f : List (List ℕ)) (by size units : ℕ) (out vs : List Term) → ((v : ℕ) → phase_occurs v vs ≡ true → phase_occurs v out ≡ true) → Multiplying f by size units out → (v : ℕ) → phase_occurs v vs ≡ true → occurs v f ≡ true
multiplying_free f by size units out vs g s v h = from_one (occurs v f) (phase_occurs v vs) (λ o. to_none (phase_occurs v out) (phase_occurs v vs) (g v) (s.free v o)) h
