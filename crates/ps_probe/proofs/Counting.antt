-- What lists of phases count to.
use Rattle.std.proofs.Common.{◌≡◌, ℕ, zero, suc, ◌+◌, ◌-◌, ◌*◌, ◌/◌, ◌%◌, ◌^◌, ◌<◌, ◌≤◌, refl, ap, ap₂, sym, ◌∙◌, subst, arith, Bool, true, false, cond, nat_eq, List, [], ◌∷◌, ◌++◌, length, get_or, take, ◌⊎◌, inl, inr}
use Rattle.std.proofs.Math.IntN.{ℤ, pos, negsuc, ◌+ℤ◌, ◌-ℤ◌, ◌*ℤ◌, neg_ℤ, nat_abs}
use Rattle.std.proofs.lemmas.Int.{ints}
use Rattle.std.proofs.lemmas.Bool.Decides.{nat_tests}
use Rattle.std.proofs.lemmas.Nat.{pow_below}
use Rattle.std.proofs.lemmas.List.Sums.{sum_by-cons}
use Rattle.std.proofs.lemmas.List.Sorted.{sum_by-IsPermutation, IsNonDecreasingBy-from_sort}
use Rattle.std.specs.List.{sum_by}
use Rattle.std.specs.Prelude.{IsPermutation, IsSorted}
use Rattle.std.specs.Ordering.{nat_cmp}
use Rattle.ps_ring.specs.Numbers.{one, unit_at, sqrt2, root2}
use Rattle.ps_ring.proofs.Turned.{one_number}
use Rattle.ps_ring.proofs.Products.{mul_sum, sum_mul, opposite_mul}
use Rattle.std.proofs.lemmas.List.{take_more, take_all}
use Rattle.ps_ring.proofs.Roots.{root2_even, root2_odd}
use Rattle.std.specs.Cmp.Lexicographic.{pointwise}
use Rattle.ps_phase.proofs.Values.{mono_eq}
use Rattle.ps_mono.specs.Lists.{nat_eq_true, nat_eq_same, nat_eq_other}
use Rattle.ps_probe.specs.declared.balancing.Sides.{Sides}
use Rattle.ps_probe.specs.Tallies.{tallied, IsBelowHalf}

-- ---- the number 1 in two parts, so that lists count the same in any order
up : ℕ → ℕ
up r = cond (nat_eq r 0) 1 0

down : ℕ → ℕ
down r = cond (nat_eq r 0) 0 (cond (nat_eq r 2147483648) 1 0)

parts : (r : ℕ) → unit_at r +ℤ pos (down r) ≡ pos (up r)
unfolding unit_at up down
parts r = by (nat_eq r 0) (nat_eq r 2147483648)
  where
    by : (a b : Bool) → cond a (pos 1) (cond b (negsuc 0) (pos 0)) +ℤ pos (cond a 0 (cond b 1 0)) ≡ pos (cond a 1 0)
    by true b = refl
    by false true = refl
    by false false = refl

rest : ℤ → ℕ → ℕ
rest j p = nat_abs (j -ℤ pos p) % 4294967296

tallied_parts : (ps : List ℕ) (j : ℤ) → tallied ps j +ℤ pos (sum_by (λ p. down (rest j p)) ps) ≡ pos (sum_by (λ p. up (rest j p)) ps)
unfolding tallied one rest
tallied_parts [] j = refl
tallied_parts (p ∷ ps) j =
    let a = sum_by-cons (λ q. down (rest j q)) p ps in
    let b = sum_by-cons (λ q. up (rest j q)) p ps in
    let e = parts (nat_abs (j -ℤ pos p) % 4294967296) in
    let f = tallied_parts ps j in
    omega (arith, ints, a, b, e, f)

pub tallied_permuted : (xs ys : List ℕ) (j : ℤ) → IsPermutation xs ys → tallied ys j ≡ tallied xs j
tallied_permuted xs ys j s =
    let a = sum_by-IsPermutation (λ p. down (rest j p)) xs ys s in
    let b = sum_by-IsPermutation (λ p. up (rest j p)) xs ys s in
    let e = tallied_parts xs j in
    let f = tallied_parts ys j in
    omega (arith, ints, a, b, e, f)

-- ---- phases below half a turn count how often each stands
pub count : ℕ → List ℕ → ℕ
count q ps = sum_by (λ p. cond (nat_eq p q) 1 0) ps

apart : (p q : ℕ) → nat_abs (pos q -ℤ pos p) ≡ (q - p) + (p - q)
apart p q = grind (arith, nat_tests)

at_first : unit_at 0 ≡ pos 1
unfolding unit_at
at_first = refl

at_other : (r : ℕ) → nat_eq r 0 ≡ false → r < 2147483648 → unit_at r ≡ pos 0
unfolding unit_at
at_other r z l = ap₂ (λ (a b : Bool). cond a (pos 1) (cond b (negsuc 0) (pos 0))) z (nat_eq_other r 2147483648 (λ c. omega (arith, l, c)))

one_at : (p q : ℕ) → p < 2147483648 → q < 2147483648 → one (pos q -ℤ pos p) ≡ pos (cond (nat_eq p q) 1 0)
unfolding one
one_at p q h k =
    let e : nat_abs (pos q -ℤ pos p) % 4294967296 ≡ (q - p) + (p - q) = ap (λ r. r % 4294967296) (apart p q) ∙ omega (arith, h, k) in
    ap unit_at e ∙ by (nat_eq p q) refl
  where
    by : (b : Bool) → nat_eq p q ≡ b → unit_at ((q - p) + (p - q)) ≡ pos (cond b 1 0)
    by true s = ap unit_at (let w = nat_eq_true p q s in omega (arith, w)) ∙ at_first
    by false s = at_other ((q - p) + (p - q)) (grind (arith, nat_tests)) (omega (arith, h, k))

tallied_count : (ps : List ℕ) (q : ℕ) → IsBelowHalf ps → q < 2147483648 → tallied ps (pos q) ≡ pos (count q ps)
unfolding tallied count
tallied_count [] q h k = refl
tallied_count (p ∷ ps) q h k =
    let a = one_at p q (h 0) k in
    let b = tallied_count ps q (λ i. h (suc i)) k in
    let c = sum_by-cons (λ r. cond (nat_eq r q) 1 0) p ps in
    omega (arith, ints, a, b, c)

count_above : (ps : List ℕ) (q : ℕ) → IsBelowHalf ps → 2147483648 ≤ q → count q ps ≡ 0
unfolding count
count_above [] q h k = refl
count_above (p ∷ ps) q h k =
    let n : nat_eq p q ≡ false = nat_eq_other p q (λ e. let l = h 0 in omega (arith, l, k, e)) in
    sum_by-cons (λ r. cond (nat_eq r q) 1 0) p ps ∙ ap₂ (λ (b : Bool) (r : ℕ). cond b 1 0 + r) n (count_above ps q (λ i. h (suc i)) k)

same_counts : (xs ys : List ℕ) → IsBelowHalf xs → IsBelowHalf ys → ((j : ℤ) → tallied xs j ≡ tallied ys j) → (q : ℕ) → count q xs ≡ count q ys
same_counts xs ys h k e q = by (2147483648 - q) refl
  where
    by : (d : ℕ) → 2147483648 - q ≡ d → count q xs ≡ count q ys
    by zero s = count_above xs q h (omega (arith, s)) ∙ sym (count_above ys q k (omega (arith, s)))
    by (suc d) s =
        let l : q < 2147483648 = omega (arith, s) in
        let a = tallied_count xs q h l in
        let b = tallied_count ys q k l in
        let c = e (pos q) in
        omega (arith, ints, a, b, c)

-- ---- lists in order with the same counts are one
head_counts : (x : ℕ) (xs : List ℕ) → count x (x ∷ xs) ≡ suc (count x xs)
unfolding count
head_counts x xs = sum_by-cons (λ r. cond (nat_eq r x) 1 0) x xs ∙ ap (λ b. cond b 1 0 + sum_by (λ r. cond (nat_eq r x) 1 0) xs) (nat_eq_same x) ∙ omega arith

weight : ℕ → ℕ → ℕ
weight q p = cond (nat_eq p q) 1 0

tail_counts : (x y q : ℕ) (xs ys : List ℕ) → x ≡ y → count q (x ∷ xs) ≡ count q (y ∷ ys) → count q xs ≡ count q ys
unfolding count weight
tail_counts x y q xs ys e h =
    let a = sum_by-cons (λ r. cond (nat_eq r q) 1 0) x xs in
    let b = sum_by-cons (λ r. cond (nat_eq r q) 1 0) y ys in
    let c : weight q x ≡ weight q y = ap (weight q) e in
    omega (arith, a, b, c, h)

none_below : (q : ℕ) (ys : List ℕ) → ((i : ℕ) → i < length ys → q < get_or ys i 0) → count q ys ≡ 0
unfolding count
none_below q [] h = refl
none_below q (y ∷ ys) h =
    let n : nat_eq y q ≡ false = nat_eq_other y q (λ e. let l = h 0 (omega arith) in omega (arith, l, e)) in
    sum_by-cons (λ r. cond (nat_eq r q) 1 0) y ys ∙ ap₂ (λ (b : Bool) (r : ℕ). cond b 1 0 + r) n (none_below q ys (λ i l. h (suc i) (omega (arith, l))))

-- each element is at most those behind it
pub Rising : List ℕ → Type 0
Rising xs = (i j : ℕ) → i ≤ j → j < length xs → get_or xs i 0 ≤ get_or xs j 0

not_less : (x y : ℕ) (xs ys : List ℕ) → Rising (y ∷ ys) → ((q : ℕ) → count q (x ∷ xs) ≡ count q (y ∷ ys)) → x < y → ⊥
unfolding Rising
not_less x y xs ys r h l =
    let z : count x (y ∷ ys) ≡ 0 = none_below x (y ∷ ys) (λ i k. let w = r 0 i (omega arith) k in omega (arith, l, w)) in
    let s = head_counts x xs in
    let e = h x in
    omega (arith, z, s, e)

not_empty : (z : ℕ) (zs : List ℕ) → count z [] ≡ count z (z ∷ zs) → ⊥
unfolding count
not_empty z zs e = let w = head_counts z zs in omega (arith, e, w)

between : (x y : ℕ) → (x < y → ⊥) → (y < x → ⊥) → x ≡ y
between x y f g = less (y - x) refl (x - y) refl
  where
    less : (d : ℕ) → y - x ≡ d → (e : ℕ) → x - y ≡ e → x ≡ y
    less zero u zero v = omega (arith, u, v)
    less (suc d) u e v = absurd (f (omega (arith, u)))
    less zero u (suc e) v = absurd (g (omega (arith, v)))

pub rising_same : (xs ys : List ℕ) → Rising xs → Rising ys → ((q : ℕ) → count q xs ≡ count q ys) → xs ≡ ys
unfolding Rising
rising_same [] [] r s h = refl
rising_same [] (y ∷ ys) r s h = absurd (not_empty y ys (h y))
rising_same (x ∷ xs) [] r s h = absurd (not_empty x xs (sym (h x)))
rising_same (x ∷ xs) (y ∷ ys) r s h =
    let e : x ≡ y = between x y (λ l. not_less x y xs ys s h l) (λ l. not_less y x ys xs r (λ q. sym (h q)) l) in
    ap₂ (λ (a : ℕ) (b : List ℕ). a ∷ b) e (rising_same xs ys (λ i j l k. r (suc i) (suc j) (omega (arith, l)) (omega (arith, k))) (λ i j l k. s (suc i) (suc j) (omega (arith, l)) (omega (arith, k))) (λ q. tail_counts x y q xs ys e (h q)))

sorted_rising : (xs : List ℕ) → IsSorted nat_cmp xs → Rising xs
unfolding Rising
sorted_rising xs s i j l k = IsNonDecreasingBy-from_sort (λ x. x) xs s i j 0 l k

sorted_counts : (r : ℕ) (zs zs' : List ℕ) → IsPermutation zs zs' → count r zs' ≡ count r zs
unfolding count
sorted_counts r zs zs' w = sum_by-IsPermutation (λ z. cond (nat_eq z r) 1 0) zs zs' w

-- both lists sorted are one just where both count the same
pub same_tallies : (xs ys xs' ys' : List ℕ) (b : Bool) → IsBelowHalf xs → IsBelowHalf ys → IsPermutation xs xs' → IsPermutation ys ys' → IsSorted nat_cmp xs' → IsSorted nat_cmp ys'
    → b ≡ pointwise nat_eq xs' ys' → (b ≡ true → (j : ℤ) → tallied xs j ≡ tallied ys j) × (((j : ℤ) → tallied xs j ≡ tallied ys j) → b ≡ true)
same_tallies xs ys xs' ys' b h k p q s t d = (
  λ e j. sym (tallied_permuted xs xs' j p) ∙ ap (λ l. tallied l j) ((mono_eq xs' ys').0 (sym d ∙ e)) ∙ tallied_permuted ys ys' j q,
  λ f. d ∙ (mono_eq xs' ys').1 (rising_same xs' ys' (sorted_rising xs' s) (sorted_rising ys' t) (λ r. sorted_counts r xs xs' p ∙ same_counts xs ys h k f r ∙ sym (sorted_counts r ys ys' q))),
)

-- ---- one more phase
pub tallied_push : (ps : List ℕ) (p : ℕ) (j : ℤ) → tallied (ps ++ p ∷ []) j ≡ tallied ps j +ℤ one (j -ℤ pos p)
unfolding tallied
tallied_push [] p j = omega (arith, ints)
tallied_push (q ∷ ps) p j = let e = tallied_push ps p j in omega (arith, ints, e)

pub below_push : (ps : List ℕ) (p : ℕ) → p < 2147483648 → IsBelowHalf ps → IsBelowHalf (ps ++ p ∷ [])
below_push [] p l h zero = l
below_push [] p l h (suc i) = omega arith
below_push (q ∷ ps) p l h zero = h 0
below_push (q ∷ ps) p l h (suc i) = below_push ps p l (λ k. h (suc k)) i

-- half a turn more counts as the opposite
pub half_less : (p q : ℕ) (j : ℤ) → p ≡ q + 2147483648 → one (j -ℤ pos p) ≡ neg_ℤ (one (j -ℤ pos q))
half_less p q j e =
    let a : j -ℤ pos q ≡ j -ℤ pos p +ℤ pos 2147483648 = omega (arith, ints, e) in
    let h : one (j -ℤ pos q) ≡ neg_ℤ (one (j -ℤ pos p)) = ap one a ∙ one_number (j -ℤ pos p) in
    omega (arith, ints, h)

-- ---- a power of the root of 2 put to the one side, and where it is odd to the other too
one_zero : (j : ℤ) → one (j -ℤ pos 0) ≡ one j
one_zero j = ap one (omega (arith, ints))

-- the phases together with the back side count to the front side
Split : List ℕ → List ℕ → List ℕ → Type 0
Split phases front back = (j : ℤ) → tallied phases j +ℤ tallied back j ≡ tallied front j

pub Both : List ℕ → List ℕ → List ℕ → ℕ → Type 0
Both phases front back k = (((j : ℤ) → tallied front j ≡ tallied back j) → (j : ℤ) → tallied phases j ≡ root2 k one j) × (((j : ℤ) → tallied phases j ≡ root2 k one j) → (j : ℤ) → tallied front j ≡ tallied back j)

pub balance_even : (phases front back back' : List ℕ) (k e t : ℕ) → k ≡ e + e → t ≡ 2 ^ e → ((j : ℤ) → tallied phases j +ℤ tallied back j ≡ tallied front j) → ((j : ℤ) → tallied back' j ≡ tallied back j +ℤ pos t *ℤ one (j -ℤ pos 0)) → Both phases front back' k
unfolding Both
balance_even phases front back back' k e t ek et s b = (
  λ f j. (let w = power j in let u = s j in let v = b j in let x = f j in omega (arith, ints, w, u, v, x)),
  λ f j. (let w = power j in let u = s j in let v = b j in let x = f j in omega (arith, ints, w, u, v, x)),
)
  where
    power : (j : ℤ) → root2 k one j ≡ pos t *ℤ one (j -ℤ pos 0)
    power j = ap (λ n. root2 n one j) ek ∙ root2_even e one one_number j ∙ ap₂ (λ (n : ℕ) (x : ℤ). pos n *ℤ x) (sym et) (sym (one_zero j))

pub balance_odd : (phases front back front' back' : List ℕ) (k e t : ℕ) → k ≡ suc (e + e) → t ≡ 2 ^ e → ((j : ℤ) → tallied phases j +ℤ tallied back j ≡ tallied front j) → ((j : ℤ) → tallied back' j ≡ tallied back j +ℤ pos t *ℤ one (j -ℤ pos 536870912))
    → ((j : ℤ) → tallied front' j ≡ tallied front j +ℤ pos t *ℤ one (j -ℤ pos 1610612736)) → Both phases front' back' k
unfolding Both sqrt2
balance_odd phases front back front' back' k e t ek et s b c = (
  λ f j. (let w = power j in let u = s j in let v = b j in let x = f j in let y = c j in omega (arith, ints, w, u, v, x, y)),
  λ f j. (let w = power j in let u = s j in let v = b j in let x = f j in let y = c j in omega (arith, ints, w, u, v, x, y)),
)
  where
    turned : (j : ℤ) → one (j +ℤ pos 536870912) ≡ neg_ℤ (one (j -ℤ pos 1610612736))
    turned j = ap one (let a : j +ℤ pos 536870912 ≡ j -ℤ pos 1610612736 +ℤ pos 2147483648 = omega (arith, ints) in a) ∙ one_number (j -ℤ pos 1610612736)

    power : (j : ℤ) → root2 k one j ≡ pos t *ℤ one (j -ℤ pos 536870912) +ℤ neg_ℤ (pos t *ℤ one (j -ℤ pos 1610612736))
    power j =
        ap (λ n. root2 n one j) ek ∙ root2_odd e one one_number j ∙ ap (λ (n : ℕ). pos n *ℤ sqrt2 one j) (sym et)
        ∙ sum_mul (pos t) (one (j -ℤ pos 536870912)) (one (j +ℤ pos 536870912))
        ∙ ap (λ (x : ℤ). pos t *ℤ one (j -ℤ pos 536870912) +ℤ x) (ap (λ (x : ℤ). pos t *ℤ x) (turned j) ∙ opposite_mul (pos t) (one (j -ℤ pos 1610612736)))

pub times_is : (k : ℕ) → k ≤ 33 → 1 * 2 ^ (k / 2) % 18446744073709551616 ≡ 2 ^ (k / 2)
times_is k h = let p : 2 ^ (k / 2) < 2 ^ 64 = pow_below (k / 2) 64 (omega (arith, h)) in omega (arith, p)

-- ---- the loops
pub record Sided (phases : List ℕ) (i : ℕ) (front back : List ℕ) : Type 0 where
  pub front_below : IsBelowHalf front
  pub back_below : IsBelowHalf back
  pub counted : (j : ℤ) → tallied (take i phases) j +ℤ tallied back j ≡ tallied front j

pub record Timed (phase i : ℕ) (old new : List ℕ) : Type 0 where
  pub below : IsBelowHalf new
  pub counted : (j : ℤ) → tallied new j ≡ tallied old j +ℤ pos i *ℤ one (j -ℤ pos phase)

none_below_half : IsBelowHalf []
none_below_half i = omega arith

pub sided_start : (phases front back : List ℕ) → front ≡ [] → back ≡ [] → Sided phases 0 front back
unfolding tallied
sided_start phases front back e f = record {
  front_below = subst IsBelowHalf (sym e) none_below_half;
  back_below = subst IsBelowHalf (sym f) none_below_half;
  counted = λ j. ap (λ (r : List ℕ). pos 0 +ℤ tallied r j) f ∙ sym (ap (λ (r : List ℕ). tallied r j) e);
}

tallied_take : (ps : List ℕ) (i p : ℕ) (j : ℤ) → i < length ps → p ≡ get_or ps i p → tallied (take (i + 1) ps) j ≡ tallied (take i ps) j +ℤ one (j -ℤ pos p)
tallied_take ps i p j h e = ap (λ (r : List ℕ). tallied r j) (take_more ps i p h ∙ ap (λ (r : ℕ). take i ps ++ r ∷ []) (sym e)) ∙ tallied_push (take i ps) p j

pub sided_front : (phases front back front' : List ℕ) (i p : ℕ) → i < length phases → p ≡ get_or phases i p → p < 2147483648 → front' ≡ front ++ p ∷ [] → Sided phases i front back → Sided phases (i + 1) front' back
sided_front phases front back front' i p h e l ef s = record {
  front_below = subst IsBelowHalf (sym ef) (below_push front p l s.front_below);
  back_below = s.back_below;
  counted = λ j.
      let a = tallied_take phases i p j h e in
      let b : tallied front' j ≡ tallied front j +ℤ one (j -ℤ pos p) = ap (λ (r : List ℕ). tallied r j) ef ∙ tallied_push front p j in
      let k = s.counted j in
      omega (arith, ints, a, b, k);
}

pub sided_back : (phases front back back' : List ℕ) (i p q : ℕ) → i < length phases → p ≡ get_or phases i p → 2147483648 ≤ p → p < 4294967296 → q ≡ p - 2147483648 → back' ≡ back ++ q ∷ [] → Sided phases i front back → Sided phases (i + 1) front back'
sided_back phases front back back' i p q h e l u eq ef s = record {
  front_below = s.front_below;
  back_below = subst IsBelowHalf (sym ef) (below_push back q (omega (arith, l, u, eq)) s.back_below);
  counted = λ j.
      let a = tallied_take phases i p j h e in
      let b : tallied back' j ≡ tallied back j +ℤ one (j -ℤ pos q) = ap (λ (r : List ℕ). tallied r j) ef ∙ tallied_push back q j in
      let t = half_less p q j (omega (arith, l, eq)) in
      let k = s.counted j in
      omega (arith, ints, a, b, t, k);
}

pub sided_end : (phases front back : List ℕ) (i : ℕ) → length phases ≤ i → Sided phases i front back → (j : ℤ) → tallied phases j +ℤ tallied back j ≡ tallied front j
sided_end phases front back i h s j = ap (λ (r : List ℕ). tallied r j +ℤ tallied back j) (sym (take_all i phases h)) ∙ s.counted j

pub timed_start : (phase : ℕ) (old : List ℕ) → IsBelowHalf old → Timed phase 0 old old
timed_start phase old h = record { below = h; counted = λ j. omega (arith, ints) }

pub timed_more : (phase i : ℕ) (old new new' : List ℕ) → phase < 2147483648 → new' ≡ new ++ phase ∷ [] → Timed phase i old new → Timed phase (i + 1) old new'
timed_more phase i old new new' l e t = record {
  below = subst IsBelowHalf (sym e) (below_push new phase l t.below);
  counted = λ j.
      let b : tallied new' j ≡ tallied new j +ℤ one (j -ℤ pos phase) = ap (λ (r : List ℕ). tallied r j) e ∙ tallied_push new phase j in
      let k = t.counted j in
      let m : pos (i + 1) *ℤ one (j -ℤ pos phase) ≡ pos i *ℤ one (j -ℤ pos phase) +ℤ pos 1 *ℤ one (j -ℤ pos phase) = mul_sum (pos i) (pos 1) (one (j -ℤ pos phase)) in
      omega (arith, ints, b, k, m);
}

-- the one loop's step, by the side
pub sided_next : (phases front back front' back' : List ℕ) (i p q : ℕ) → i < length phases → p ≡ get_or phases i p → p < 4294967296 → ((p < 2147483648) × ((front' ≡ front ++ p ∷ []) × (back' ≡ back))) ⊎ ((2147483648 ≤ p) × ((back' ≡ back ++ (p - 2147483648) ∷ []) × (front' ≡ front)))
    → Sided phases i front back → Sided phases (i + 1) front' back'
sided_next phases front back front' back' i p q h e u (inl w) s = subst (λ (r : List ℕ). Sided phases (i + 1) front' r) (sym w.1.1) (sided_front phases front back front' i p h e w.0 w.1.0 s)
sided_next phases front back front' back' i p q h e u (inr w) s = subst (λ (r : List ℕ). Sided phases (i + 1) r back') (sym w.1.1) (sided_back phases front back back' i p (p - 2147483648) h e w.0 u refl w.1.0 s)

-- ---- what comes of the answer on both sides
pub both_even : (phases : List ℕ) (old new : Sides) (back' : List ℕ) (k t : ℕ) (b : Bool) → k ≤ 33 → k % 2 ≡ 0 → new.front.items ≡ old.front.items → new.back.items ≡ back' → t ≡ 1 * 2 ^ (k / 2) % 18446744073709551616 → ((j : ℤ) → tallied phases j +ℤ tallied old.back.items j ≡ tallied old.front.items j)
    → ((j : ℤ) → tallied back' j ≡ tallied old.back.items j +ℤ pos t *ℤ one (j -ℤ pos 0)) → (b ≡ true → (j : ℤ) → tallied new.front.items j ≡ tallied new.back.items j) × (((j : ℤ) → tallied new.front.items j ≡ tallied new.back.items j) → b ≡ true)
    → (b ≡ true → (j : ℤ) → tallied phases j ≡ root2 k one j) × (((j : ℤ) → tallied phases j ≡ root2 k one j) → b ≡ true)
unfolding Both
both_even phases old new back' k t b l z ef eb et s u a =
    let h = balance_even phases old.front.items old.back.items back' k (k / 2) t (omega (arith, z)) (et ∙ times_is k l) s u in
    let f : (j : ℤ) → (tallied new.front.items j ≡ tallied old.front.items j) × (tallied new.back.items j ≡ tallied back' j) = λ j. (ap (λ (r : List ℕ). tallied r j) ef, ap (λ (r : List ℕ). tallied r j) eb) in
    (λ e. h.0 (λ j. sym (f j).0 ∙ a.0 e j ∙ (f j).1), λ e. a.1 (λ j. (f j).0 ∙ h.1 e j ∙ sym (f j).1))

pub both_odd : (phases : List ℕ) (old new : Sides) (back' front' : List ℕ) (k t : ℕ) (b : Bool) → k ≤ 33 → (k % 2 ≡ 0 → ⊥) → new.front.items ≡ front' → new.back.items ≡ back' → t ≡ 1 * 2 ^ (k / 2) % 18446744073709551616 → ((j : ℤ) → tallied phases j +ℤ tallied old.back.items j ≡ tallied old.front.items j)
    → ((j : ℤ) → tallied back' j ≡ tallied old.back.items j +ℤ pos t *ℤ one (j -ℤ pos 536870912)) → ((j : ℤ) → tallied front' j ≡ tallied old.front.items j +ℤ pos t *ℤ one (j -ℤ pos 1610612736))
    → (b ≡ true → (j : ℤ) → tallied new.front.items j ≡ tallied new.back.items j) × (((j : ℤ) → tallied new.front.items j ≡ tallied new.back.items j) → b ≡ true)
    → (b ≡ true → (j : ℤ) → tallied phases j ≡ root2 k one j) × (((j : ℤ) → tallied phases j ≡ root2 k one j) → b ≡ true)
unfolding Both
both_odd phases old new back' front' k t b l z ef eb et s u v a =
    let n : (k % 2 ≡ 0 → ⊥) → k ≡ suc (k / 2 + k / 2) = λ d. odd_is (k % 2) refl d in
    let h = balance_odd phases old.front.items old.back.items front' back' k (k / 2) t (n z) (et ∙ times_is k l) s u v in
    let f : (j : ℤ) → (tallied new.front.items j ≡ tallied front' j) × (tallied new.back.items j ≡ tallied back' j) = λ j. (ap (λ (r : List ℕ). tallied r j) ef, ap (λ (r : List ℕ). tallied r j) eb) in
    (λ e. h.0 (λ j. sym (f j).0 ∙ a.0 e j ∙ (f j).1), λ e. a.1 (λ j. (f j).0 ∙ h.1 e j ∙ sym (f j).1))
  where
    odd_is : (r : ℕ) → k % 2 ≡ r → (r ≡ 0 → ⊥) → k ≡ suc (k / 2 + k / 2)
    odd_is zero e d = absurd (d refl)
    odd_is (suc r) e d = omega (arith, e)
