-- Tables of phases, and what they count to.
use Rattle.std.proofs.Common.{◌≡◌, ◌≢◌, ℕ, zero, suc, ◌+◌, ◌-◌, ◌*◌, ◌%◌, ◌^◌, ◌<◌, ◌≤◌, refl, ap, ap₂, sym, ◌∙◌, subst, arith, Bool, true, false, ◌&&◌, ◌||◌, cond, nat_eq, List, [], ◌∷◌, ◌++◌, length, take, get_or, set, length-append, ◌⊎◌, inl, inr}
use Rattle.std.proofs.Math.IntN.{ℤ, pos, ◌+ℤ◌, ◌-ℤ◌}
use Rattle.std.proofs.lemmas.Int.{ints}
use Rattle.std.proofs.lemmas.Bool.Decides.{nat_tests}
use Rattle.std.proofs.lemmas.Nat.{pow_below}
use Rattle.std.proofs.lemmas.List.{get_or_append_left, get_or-append-add, get_or-set_same, get_or-set_other, take_all, length-set, get_or_default}
use Rattle.std.specs.Prelude.{nat_lt}
use Rattle.ps_ring.specs.Truths.{Truths, bit, same_bits}
use Rattle.ps_ring.specs.Numbers.{one, when}
use Rattle.ps_ring.specs.Sums.{total, signed_count}
use Rattle.ps_ring.specs.Readings.{taken}
use Rattle.ps_ring.proofs.Turned.{one_number, turned_same}
use Rattle.ps_ring.proofs.Totals.{total_ext}
use Rattle.ps_mono.specs.Sets.{holds, stands, Below}
use Rattle.ps_mono.specs.Truth.{times}
use Rattle.ps_mono.specs.Lists.{nat_eq_true}
use Rattle.ps_mono.proofs.Laws.{holds_at, fails}
use Rattle.ps_phase.specs.declared.terms.Term.{Term}
use Rattle.ps_phase.specs.Phases.{phase_value}
use Rattle.ps_phase.proofs.Values.{phase_more}
use Rattle.ps_sum.specs.declared.sums.PathSum.{PathSum}
use Rattle.ps_sum.specs.Outs.{values}
use Rattle.ps_sum.specs.Sums.{path_values}
use Rattle.ps_sum.specs.Tables.{table_value, place_of}
use Rattle.ps_sum.proofs.TableWorths.{two_more, agree_value, place_below, covers, zero_value}
use Rattle.ps_overlap.specs.Overlapping.{point}
use Rattle.ps_overlap.proofs.LeastPoints.{point_bit}
use Rattle.ps_probe.specs.Tallies.{tallied, names_from, listing, reduced, worth}

-- ---- names
pub names_push : (v i : ℕ) → names_from v (i + 1) ≡ names_from v i ++ (v + i) ∷ []
unfolding names_from
names_push v zero = ap (λ (r : ℕ). r ∷ []) (omega arith)
names_push v (suc i) =
    let e : suc v + i ≡ v + suc i = omega arith in
    let k : suc i + 1 ≡ suc (i + 1) = omega arith in
    ap (names_from v) k ∙ ap (λ (r : List ℕ). v ∷ r) (names_push (suc v) i ∙ ap (λ (r : ℕ). names_from (suc v) i ++ r ∷ []) e)

pub names_start : (v : ℕ) (ns : List ℕ) → ns ≡ [] → ns ≡ names_from v 0
unfolding names_from
names_start v ns e = e

pub names_next : (v i : ℕ) (ns ns' : List ℕ) → ns' ≡ ns ++ (v + i) ∷ [] → ns ≡ names_from v i → ns' ≡ names_from v (i + 1)
names_next v i ns ns' e h = e ∙ ap (λ (r : List ℕ). r ++ (v + i) ∷ []) h ∙ sym (names_push v i)

pub names_below : (v i : ℕ) → v + i ≤ 512 → Below 512 (names_from v i)
unfolding names_from
names_below v zero h = tt
names_below v (suc i) h = (omega (arith, h), names_below (suc v) i (omega (arith, h)))

pub names_length : (v i : ℕ) → length (names_from v i) ≡ i
unfolding names_from
names_length v zero = refl
names_length v (suc i) = ap suc (names_length (suc v) i)

pub names_stand : (v i u : ℕ) → stands u (names_from v i) ≡ true → (v ≤ u) × (u < v + i)
unfolding names_from stands
names_stand v zero u s = absurd (clash s)
  where
    clash : false ≡ true → ⊥
    clash k = cc
names_stand v (suc i) u s = by (nat_eq u v) refl s (λ k. names_stand (suc v) i u k)
  where
    by : (b : Bool) → nat_eq u v ≡ b → (b || stands u (names_from (suc v) i)) ≡ true → (stands u (names_from (suc v) i) ≡ true → (suc v ≤ u) × (u < suc v + i)) → (v ≤ u) × (u < v + suc i)
    by true e k f = let w = nat_eq_true u v e in (omega (arith, w), omega (arith, w))
    by false e k f = let w = f k in (omega (arith, w.0), omega (arith, w.1))

pub names_in : (v i u : ℕ) → v ≤ u → u < v + i → stands u (names_from v i) ≡ true
unfolding names_from stands
names_in v zero u h k = absurd (omega (arith, h, k))
names_in v (suc i) u h k = by (nat_eq u v) refl (λ l. names_in (suc v) i u l (omega (arith, k)))
  where
    by : (b : Bool) → nat_eq u v ≡ b → (suc v ≤ u → stands u (names_from (suc v) i) ≡ true) → (b || stands u (names_from (suc v) i)) ≡ true
    by true e f = refl
    by false e f = f (grind (arith, nat_tests, h, e))

-- ---- worths of tables
worth_left : (y : Truths) (xs ys : List ℕ) (o : ℕ) → o + 2 ^ length y ≤ length xs → worth y (xs ++ ys) o ≡ worth y xs o
unfolding worth
worth_left [] xs ys o h = get_or_append_left xs ys 0 o (omega (arith, h))
worth_left (b ∷ y) xs ys o h =
    let t = two_more (length y) in
    ap₂ (λ p q. p + times b q) (worth_left y xs ys o (omega (arith, h, t))) (worth_left y xs ys (o + 2 ^ length y) (omega (arith, h, t)))

worth_right : (y : Truths) (xs ys : List ℕ) (o : ℕ) → worth y (xs ++ ys) (length xs + o) ≡ worth y ys o
unfolding worth
worth_right [] xs ys o = get_or-append-add xs ys o 0
worth_right (b ∷ y) xs ys o =
    let e : length xs + o + 2 ^ length y ≡ length xs + (o + 2 ^ length y) = omega arith in
    ap₂ (λ p q. p + times b q) (worth_right y xs ys o) (ap (λ i. worth y (xs ++ ys) i) e ∙ worth_right y xs ys (o + 2 ^ length y))

both : (b : Bool) (p q p1 q1 p2 q2 : ℕ) → p % 4294967296 ≡ (p1 + p2) % 4294967296 → q % 4294967296 ≡ (q1 + q2) % 4294967296 → (p + times b q) % 4294967296 ≡ ((p1 + times b q1) + (p2 + times b q2)) % 4294967296
unfolding times
both true p q p1 q1 p2 q2 e f = omega (arith, e, f)
both false p q p1 q1 p2 q2 e f = omega (arith, e, f)

worth_added : (y : Truths) (xs ys zs : List ℕ) (o : ℕ) → ((i : ℕ) → get_or zs i 0 % 4294967296 ≡ (get_or xs i 0 + get_or ys i 0) % 4294967296) → worth y zs o % 4294967296 ≡ (worth y xs o + worth y ys o) % 4294967296
unfolding worth
worth_added [] xs ys zs o f = f o
worth_added (b ∷ y) xs ys zs o f = both b _ _ _ _ _ _ (worth_added y xs ys zs o f) (worth_added y xs ys zs (o + 2 ^ length y) f)

-- a table is worth the same by names
pub worth_names : (y : Truths) (v : ℕ) (ts : List ℕ) (o : ℕ) (a : ℕ → Bool) → ((i : ℕ) → i < length y → a (v + i) ≡ bit y i) → table_value (names_from v (length y)) ts o a ≡ worth y ts o
unfolding worth names_from table_value
worth_names [] v ts o a h = refl
worth_names (b ∷ y) v ts o a h =
    let k : (i : ℕ) → i < length y → a (suc v + i) ≡ bit y i = λ i l. ap a (omega arith) ∙ h (suc i) (omega (arith, l)) in
    let e : a v ≡ b = ap a (omega arith) ∙ h 0 (omega arith) in
    let s : 2 ^ length (names_from (suc v) (length y)) ≡ 2 ^ length y = ap (λ n. 2 ^ n) (names_length (suc v) (length y)) in
    ap₂ (λ p q. p + q) (worth_names y (suc v) ts o a k) (ap₂ (λ (c : Bool) (n : ℕ). times c (table_value (names_from (suc v) (length y)) ts (o + n) a)) e s ∙ ap (times b) (worth_names y (suc v) ts (o + 2 ^ length y) a k))

-- ---- lists of values
pub listing_ext : (m : ℕ) (F G : Truths → ℕ) → ((y : Truths) → length y ≡ m → F y % 4294967296 ≡ G y % 4294967296) → listing m F ≡ listing m G
unfolding listing
listing_ext zero F G h = ap (λ (r : ℕ). r ∷ []) (h [] refl)
listing_ext (suc m) F G h = ap₂ (λ (r s : List ℕ). r ++ s) (listing_ext m _ _ (λ y l. h (false ∷ y) (ap suc l))) (listing_ext m _ _ (λ y l. h (true ∷ y) (ap suc l)))

reduced_append : (xs ys : List ℕ) → reduced (xs ++ ys) ≡ reduced xs ++ reduced ys
unfolding reduced
reduced_append [] ys = refl
reduced_append (x ∷ xs) ys = ap (λ (r : List ℕ). (x % 4294967296) ∷ r) (reduced_append xs ys)

tallied_append : (xs ys : List ℕ) (j : ℤ) → tallied (xs ++ ys) j ≡ tallied xs j +ℤ tallied ys j
unfolding tallied
tallied_append [] ys j = omega (arith, ints)
tallied_append (x ∷ xs) ys j = let e = tallied_append xs ys j in omega (arith, ints, e)

same_rest : (x : ℕ) → x % 4294967296 % 4294967296 ≡ x % 4294967296
same_rest x = omega arith

tallied_reduced : (xs : List ℕ) (j : ℤ) → tallied (reduced xs) j ≡ tallied xs j
unfolding tallied reduced
tallied_reduced [] j = refl
tallied_reduced (x ∷ xs) j = ap₂ (λ a b. a +ℤ b) (turned_same one one_number (x % 4294967296) x (same_rest x) j) (tallied_reduced xs j)

tallied_listing : (m : ℕ) (F : Truths → ℕ) (j : ℤ) → tallied (listing m F) j ≡ total m (λ y. one (j -ℤ pos (F y)))
unfolding tallied listing total
tallied_listing zero F j = let e = turned_same one one_number (F [] % 4294967296) (F []) (same_rest (F [])) j in omega (arith, ints, e)
tallied_listing (suc m) F j =
    tallied_append (listing m (λ ys. F (false ∷ ys))) (listing m (λ ys. F (true ∷ ys))) j
    ∙ ap₂ (λ a b. a +ℤ b) (tallied_listing m (λ ys. F (false ∷ ys)) j) (tallied_listing m (λ ys. F (true ∷ ys)) j)

-- ---- spreading a table
pub Spreads : ℕ → List ℕ → List ℕ → Type 0
Spreads count old new = reduced new ≡ listing count (λ y. worth y old 0)

pub spread_one : (count : ℕ) (old new : List ℕ) → count ≡ 0 → length old ≡ 2 ^ count → new ≡ old → reduced new ≡ listing count (λ y. worth y old 0)
unfolding reduced listing worth
spread_one (suc count) old new z l e = absurd (omega (arith, z))
spread_one zero [] new z l e = absurd (omega (arith, l))
spread_one zero (t ∷ []) new z l e = ap reduced e
spread_one zero (t ∷ u ∷ ts) new z l e = absurd (omega (arith, l))

by_low : (p q : ℕ) → (p + times false q) % 4294967296 ≡ p % 4294967296
unfolding times
by_low p q = omega arith

by_high : (p q r : ℕ) → r % 4294967296 ≡ (q + p) % 4294967296 → (p + times true q) % 4294967296 ≡ r % 4294967296
unfolding times
by_high p q r e = omega (arith, e)

-- low and high are the halves of old, and sum is the second one with the first one added
spread_half : (m : ℕ) (old low high sum low' high' new : List ℕ) → old ≡ low ++ high → length low ≡ 2 ^ m → ((i : ℕ) → get_or sum i 0 ≡ (get_or high i 0 + get_or low i 0) % 4294967296)
    → reduced low' ≡ listing m (λ y. worth y low 0) → reduced high' ≡ listing m (λ y. worth y sum 0) → new ≡ low' ++ high' → reduced new ≡ listing (suc m) (λ y. worth y old 0)
unfolding listing worth
spread_half m old low high sum low' high' new eo el fs tl th en =
    let left : (y : Truths) → length y ≡ m → worth y (low ++ high) 0 ≡ worth y low 0 = λ y l. worth_left y low high 0 (let e : 2 ^ length y ≡ 2 ^ m = ap (λ n. 2 ^ n) l in omega (arith, e, el)) in
    let right : (y : Truths) → length y ≡ m → worth y (low ++ high) (0 + 2 ^ length y) ≡ worth y high 0 = λ y l.
    (let e : 2 ^ length y ≡ 2 ^ m = ap (λ n. 2 ^ n) l in
    let i : 0 + 2 ^ length y ≡ length low + 0 = omega (arith, e, el) in
    ap (λ n. worth y (low ++ high) n) i ∙ worth_right y low high 0) in
    ap reduced en ∙ reduced_append low' high' ∙ ap₂ (λ (r t : List ℕ). r ++ t)
    (tl ∙ listing_ext m _ _ (λ y l. sym (ap (λ (r : List ℕ). (worth y r 0 + times false (worth y r (0 + 2 ^ length y))) % 4294967296) eo ∙ by_low (worth y (low ++ high) 0) (worth y (low ++ high) (0 + 2 ^ length y)) ∙ ap (λ r. r % 4294967296) (left y l))))
    (th ∙ listing_ext m _ _ (λ y l. sym (ap (λ (r : List ℕ). (worth y r 0 + times true (worth y r (0 + 2 ^ length y))) % 4294967296) eo ∙ ap₂ (λ p q. (p + times true q) % 4294967296) (left y l) (right y l) ∙ by_high (worth y low 0) (worth y high 0) (worth y sum 0) (worth_added y high low sum 0 (λ i. mod_sum i)))))
  where
    mod_sum : (i : ℕ) → get_or sum i 0 % 4294967296 ≡ (get_or high i 0 + get_or low i 0) % 4294967296
    mod_sum i = ap (λ r. r % 4294967296) (fs i) ∙ same_rest (get_or high i 0 + get_or low i 0)

pub spread_more : (count : ℕ) (old low high sum low' high' new : List ℕ) → (count ≡ 0 → ⊥) → old ≡ low ++ high → length low ≡ 2 ^ (count - 1) → ((i : ℕ) → get_or sum i 0 ≡ (get_or high i 0 + get_or low i 0) % 4294967296)
    → reduced low' ≡ listing (count - 1) (λ y. worth y low 0) → reduced high' ≡ listing (count - 1) (λ y. worth y sum 0) → new ≡ low' ++ high' → reduced new ≡ listing count (λ y. worth y old 0)
spread_more zero old low high sum low' high' new z eo el fs tl th en = absurd (z refl)
spread_more (suc m) old low high sum low' high' new z eo el fs tl th en =
    let k : suc m - 1 ≡ m = omega arith in
    spread_half m old low high sum low' high' new eo (el ∙ ap (λ n. 2 ^ n) k) fs (tl ∙ ap (λ n. listing n (λ y. worth y low 0)) k) (th ∙ ap (λ n. listing n (λ y. worth y sum 0)) k) en

-- ---- a monomial at an assignment that is as `all` but for the variables of the table
false_true : false ≡ true → ⊥
false_true k = cc

both_true : (x y : Bool) → x ≡ true → y ≡ true → (x && y) ≡ true
both_true x y e f = ap₂ (λ p q. p && q) e f

and_true : (x y : Bool) → (x && y) ≡ true → (x ≡ true) × (y ≡ true)
and_true true y e = (refl, e)
and_true false y e = absurd (false_true e)

covers_at : (vs m : List ℕ) (a : ℕ → Bool) (v : ℕ) → covers vs m a ≡ true → stands v vs ≡ true → stands v m ≡ true → a v ≡ true
unfolding covers stands
covers_at [] m a v c s t = absurd (false_true s)
covers_at (u ∷ vs) m a v c s t = by (nat_eq v u) refl s (λ r. covers_at vs m a v (and_true (cond (stands u m) (a u) true) (covers vs m a) c).1 r t)
  where
    by : (b : Bool) → nat_eq v u ≡ b → (b || stands v vs) ≡ true → (stands v vs ≡ true → a v ≡ true) → a v ≡ true
    by true e s r =
        let w : v ≡ u = nat_eq_true v u e in
        let k : stands u m ≡ true = sym (ap (λ x. stands x m) w) ∙ t in
        ap a w ∙ sym (ap (λ b. cond b (a u) true) k) ∙ (and_true (cond (stands u m) (a u) true) (covers vs m a) c).0
    by false e s r = r s

covers_all : (vs m : List ℕ) (a : ℕ → Bool) → holds m a ≡ true → covers vs m a ≡ true
unfolding covers
covers_all [] m a h = refl
covers_all (u ∷ vs) m a h = both_true _ _ (by (stands u m) refl) (covers_all vs m a h)
  where
    by : (b : Bool) → stands u m ≡ b → cond b (a u) true ≡ true
    by true e = holds_at m a u h e
    by false e = refl

same_truth : (p q : Bool) → (p ≡ true → q ≡ true) → (q ≡ true → p ≡ true) → p ≡ q
same_truth true q f g = sym (f refl)
same_truth false true f g = g refl
same_truth false false f g = refl

holds_each : (m : List ℕ) (a : ℕ → Bool) (b : Bool) → holds m a ≡ b → ((v : ℕ) → stands v m ≡ true → a v ≡ true) → b ≡ true
holds_each m a true h f = refl
holds_each m a false h f = let x = fails m a h in sym (x.2) ∙ f x.0 x.1

Beside : List ℕ → List ℕ → (ℕ → Bool) → Type 0
Beside vs all a = (v : ℕ) → stands v vs ≡ false → a v ≡ stands v all

-- it holds at `all` where it holds at a, and where it holds at `all` it holds at a where it is covered
holds_there : (vs all m : List ℕ) (a : ℕ → Bool) → ((v : ℕ) → stands v vs ≡ true → stands v all ≡ true) → ((v : ℕ) → stands v vs ≡ false → a v ≡ stands v all) → holds m a ≡ true → holds m (λ v. stands v all) ≡ true
holds_there vs all m a c b h = holds_each m (λ v. stands v all) (holds m (λ v. stands v all)) refl (λ v t. at v t (stands v vs) refl)
  where
    at : (v : ℕ) → stands v m ≡ true → (s : Bool) → stands v vs ≡ s → stands v all ≡ true
    at v t true s = c v s
    at v t false s = sym (b v s) ∙ holds_at m a v h t

holds_covered : (vs all m : List ℕ) (a : ℕ → Bool) → ((v : ℕ) → stands v vs ≡ false → a v ≡ stands v all) → holds m (λ v. stands v all) ≡ true → covers vs m a ≡ true → holds m a ≡ true
holds_covered vs all m a b h c = holds_each m a (holds m a) refl (λ v t. at v t (stands v vs) refl)
  where
    at : (v : ℕ) → stands v m ≡ true → (s : Bool) → stands v vs ≡ s → a v ≡ true
    at v t true s = covers_at vs m a v c s t
    at v t false s = b v s ∙ holds_at m (λ u. stands u all) v h t

covered_is : (vs all m : List ℕ) (a : ℕ → Bool) → ((v : ℕ) → stands v vs ≡ true → stands v all ≡ true) → ((v : ℕ) → stands v vs ≡ false → a v ≡ stands v all) → holds m (λ v. stands v all) ≡ true → covers vs m a ≡ holds m a
covered_is vs all m a c b h = same_truth _ _ (holds_covered vs all m a b h) (covers_all vs m a)

not_there : (vs all m : List ℕ) (a : ℕ → Bool) → ((v : ℕ) → stands v vs ≡ true → stands v all ≡ true) → ((v : ℕ) → stands v vs ≡ false → a v ≡ stands v all) → holds m (λ v. stands v all) ≡ false → holds m a ≡ false
not_there vs all m a c b h = by (holds m a) refl
  where
    by : (t : Bool) → holds m a ≡ t → t ≡ false
    by true e = absurd (false_true (sym h ∙ holds_there vs all m a c b e))
    by false e = refl

-- ---- a phase more at the place of a monomial
pub record IsAdded (vs m : List ℕ) (p o : ℕ) (xs ys : List ℕ) : Type 0 where
  pub there : get_or ys (o + place_of vs m) 0 % 4294967296 ≡ (get_or xs (o + place_of vs m) 0 + p) % 4294967296
  pub elsewhere : (i : ℕ) → i ≢ o + place_of vs m → get_or ys i 0 ≡ get_or xs i 0

add_with : (b c : Bool) (p q q' f : ℕ) → q' % 4294967296 ≡ (q + times c f) % 4294967296 → (p + times b q') % 4294967296 ≡ (p + times b q + times (b && c) f) % 4294967296
unfolding times
add_with true c p q q' f e = omega (arith, e)
add_with false c p q q' f e = omega arith

add_without : (b c : Bool) (p p' q f : ℕ) → p' % 4294967296 ≡ (p + times c f) % 4294967296 → (p' + times b q) % 4294967296 ≡ (p + times b q + times c f) % 4294967296
add_without b c p p' q f e = omega (arith, e)

pub added_worth : (vs m : List ℕ) (f o : ℕ) (xs ys : List ℕ) (a : ℕ → Bool) → IsAdded vs m f o xs ys → table_value vs ys o a % 4294967296 ≡ (table_value vs xs o a + times (covers vs m a) f) % 4294967296
unfolding table_value place_of covers times
added_worth [] m f o xs ys a k =
    let e : o + 0 ≡ o = omega arith in
    ap (λ i. get_or ys i 0 % 4294967296) (sym e) ∙ k.there ∙ ap (λ i. (get_or xs i 0 + f) % 4294967296) e
added_worth (v ∷ vs) m f o xs ys a k = by (stands v m) refl (λ j. added_worth vs m f o xs ys a j) (λ j. added_worth vs m f (o + 2 ^ length vs) xs ys a j)
  where
    by : (b : Bool) → stands v m ≡ b → (IsAdded vs m f o xs ys → table_value vs ys o a % 4294967296 ≡ (table_value vs xs o a + times (covers vs m a) f) % 4294967296)
        → (IsAdded vs m f (o + 2 ^ length vs) xs ys → table_value vs ys (o + 2 ^ length vs) a % 4294967296 ≡ (table_value vs xs (o + 2 ^ length vs) a + times (covers vs m a) f) % 4294967296)
        → (table_value vs ys o a + times (a v) (table_value vs ys (o + 2 ^ length vs) a)) % 4294967296 ≡ (table_value vs xs o a + times (a v) (table_value vs xs (o + 2 ^ length vs) a) + times (cond (stands v m) (a v) true && covers vs m a) f) % 4294967296
    by true s p q =
        let c : o + (cond (stands v m) (2 ^ length vs) 0 + place_of vs m) ≡ o + 2 ^ length vs + place_of vs m = ap (λ b. o + (cond b (2 ^ length vs) 0 + place_of vs m)) s ∙ omega arith in
        let h = q (record { there = ap (λ i. get_or ys i 0 % 4294967296) (sym c) ∙ k.there ∙ ap (λ i. (get_or xs i 0 + f) % 4294967296) c; elsewhere = λ i n. k.elsewhere i (λ e. n (e ∙ c)) }) in
        let w = agree_value vs ys xs o a (λ i l u. k.elsewhere i (λ e. omega (arith, u, e, c))) in
        ap (λ r. (r + times (a v) (table_value vs ys (o + 2 ^ length vs) a)) % 4294967296) w ∙ add_with (a v) (covers vs m a) _ _ _ f h ∙ ap (λ b. (table_value vs xs o a + times (a v) (table_value vs xs (o + 2 ^ length vs) a) + times (cond b (a v) true && covers vs m a) f) % 4294967296) (sym s)
    by false s p q =
        let c : o + (cond (stands v m) (2 ^ length vs) 0 + place_of vs m) ≡ o + place_of vs m = ap (λ b. o + (cond b (2 ^ length vs) 0 + place_of vs m)) s ∙ omega arith in
        let h = p (record { there = ap (λ i. get_or ys i 0 % 4294967296) (sym c) ∙ k.there ∙ ap (λ i. (get_or xs i 0 + f) % 4294967296) c; elsewhere = λ i n. k.elsewhere i (λ e. n (e ∙ c)) }) in
        let g = place_below vs m in
        let w = agree_value vs ys xs (o + 2 ^ length vs) a (λ i l u. k.elsewhere i (λ e. omega (arith, l, e, c, g))) in
        ap (λ r. (table_value vs ys o a + times (a v) r) % 4294967296) w ∙ add_without (a v) (covers vs m a) _ _ _ f h ∙ ap (λ b. (table_value vs xs o a + times (a v) (table_value vs xs (o + 2 ^ length vs) a) + times (cond b (a v) true && covers vs m a) f) % 4294967296) (sym s)

-- ---- the loop over the terms
pub sixteen : (n : ℕ) → n ≤ 16 → 1 * 2 ^ n % 18446744073709551616 ≡ 2 ^ n
sixteen n h = let p : 2 ^ n < 2 ^ 64 = pow_below n 64 (omega (arith, h)) in omega (arith, p)

pub record Filled (vs all : List ℕ) (terms : List Term) (i : ℕ) (ts : List ℕ) : Type 0 where
  pub size : length ts ≡ 2 ^ length vs
  pub worth_is : (a : ℕ → Bool) → ((v : ℕ) → stands v vs ≡ false → a v ≡ stands v all) → table_value vs ts 0 a % 4294967296 ≡ phase_value (take i terms) a % 4294967296

pub filled_start : (vs all : List ℕ) (terms : List Term) (ts : List ℕ) → length ts ≡ 2 ^ length vs → ((i : ℕ) → get_or ts i 0 ≡ 0) → Filled vs all terms 0 ts
unfolding phase_value
filled_start vs all terms ts s z = record { size = s; worth_is = λ a b. ap (λ r. r % 4294967296) (zero_value vs ts 0 a (λ i l h. z i)) }

sum_step : (x y z w p : ℕ) → x % 4294967296 ≡ (y + p) % 4294967296 → y % 4294967296 ≡ z % 4294967296 → w ≡ z + p → x % 4294967296 ≡ w % 4294967296
sum_step x y z w p e f g = omega (arith, e, f, g)

-- the term doesn't hold at `all`
pub filled_skip : (vs all : List ℕ) (terms : List Term) (i : ℕ) (t : Term) (ts : List ℕ) → i < length terms → t ≡ get_or terms i t → ((v : ℕ) → stands v vs ≡ true → stands v all ≡ true) → holds t.mono (λ v. stands v all) ≡ false → Filled vs all terms i ts → Filled vs all terms (i + 1) ts
unfolding times
filled_skip vs all terms i t ts h e c n k = record {
  size = k.size;
  worth_is = λ a b.
      let w : phase_value (take (i + 1) terms) a ≡ phase_value (take i terms) a + 0 = phase_more terms i t a h e ∙ ap (λ (r : Bool). phase_value (take i terms) a + times r t.phase) (not_there vs all t.mono a c b n) in
      let s = k.worth_is a b in
      omega (arith, w, s);
}

-- it does, and its phase is added at its place
pub filled_put : (vs all : List ℕ) (terms : List Term) (i : ℕ) (t : Term) (ts : List ℕ) (p w : ℕ) → i < length terms → t ≡ get_or terms i t → ((v : ℕ) → stands v vs ≡ true → stands v all ≡ true) → holds t.mono (λ v. stands v all) ≡ true → p ≡ place_of vs t.mono → p < length ts
    → w ≡ get_or ts p w → Filled vs all terms i ts → Filled vs all terms (i + 1) (set ts p ((w + t.phase) % 4294967296))
filled_put vs all terms i t ts p w h e c n ep lp ew k = record {
  size = length-set ts p ((w + t.phase) % 4294967296) ∙ k.size;
  worth_is = λ a b. sum_step _ _ _ _ (times (covers vs t.mono a) t.phase) (added_worth vs t.mono t.phase 0 ts _ a added) (k.worth_is a b)
      (phase_more terms i t a h e ∙ ap (λ (r : Bool). phase_value (take i terms) a + times r t.phase) (sym (covered_is vs all t.mono a c b n)));
}
  where
    at : 0 + place_of vs t.mono ≡ p
    at = omega (arith, ep)

    added : IsAdded vs t.mono t.phase 0 ts (set ts p ((w + t.phase) % 4294967296))
    added = record {
      there = ap (λ j. get_or (set ts p ((w + t.phase) % 4294967296)) j 0 % 4294967296) at ∙ ap (λ r. r % 4294967296) (get_or-set_same ts p ((w + t.phase) % 4294967296) 0 lp) ∙ same_rest (w + t.phase)
          ∙ ap (λ r. (r + t.phase) % 4294967296) (ew ∙ get_or_default ts p w 0 lp) ∙ ap (λ j. (get_or ts j 0 + t.phase) % 4294967296) (sym at);
      elsewhere = λ j d. get_or-set_other ts p j ((w + t.phase) % 4294967296) 0 (λ q. d (q ∙ sym at));
    }

pub filled_next : (vs all : List ℕ) (terms : List Term) (i : ℕ) (t : Term) (ts ts' : List ℕ) (p w f size : ℕ) (r : Bool) → i < length terms → t ≡ get_or terms i t → ((v : ℕ) → stands v vs ≡ true → stands v all ≡ true) → r ≡ holds t.mono (λ v. stands v all) → length vs ≤ 16 → size ≡ 1 * 2 ^ length vs % 18446744073709551616
    → ((r ≡ true) × ((p ≡ place_of vs t.mono) × ((p < size) × ((w ≡ get_or ts p w) × ((f ≡ t.phase) × (ts' ≡ set ts p ((w + f) % 4294967296))))))) ⊎ ((r ≡ false) × (ts' ≡ ts)) → Filled vs all terms i ts → Filled vs all terms (i + 1) ts'
filled_next vs all terms i t ts ts' p w f size r h e c er few es (inl x) k =
    let n = sixteen (length vs) few in
    let z = k.size in
    let l = x.1.1.0 in
    subst (Filled vs all terms (i + 1)) (sym (x.1.1.1.1.1 ∙ ap (λ q. set ts p ((w + q) % 4294967296)) x.1.1.1.1.0)) (filled_put vs all terms i t ts p w h e c (sym er ∙ x.0) x.1.0 (omega (arith, n, z, l, es)) x.1.1.1.0 k)
filled_next vs all terms i t ts ts' p w f size r h e c er few es (inr x) k = subst (Filled vs all terms (i + 1)) (sym x.1) (filled_skip vs all terms i t ts h e c (sym er ∙ x.0) k)

pub filled_end : (vs all : List ℕ) (terms : List Term) (i : ℕ) (ts : List ℕ) → length terms ≤ i → Filled vs all terms i ts → (a : ℕ → Bool) → ((v : ℕ) → stands v vs ≡ false → a v ≡ stands v all) → table_value vs ts 0 a % 4294967296 ≡ phase_value terms a % 4294967296
filled_end vs all terms i ts h k a b = k.worth_is a b ∙ ap (λ (r : List Term). phase_value r a % 4294967296) (take_all i terms h)

-- ---- the inputs, and all path variables true
pub input_next : (n m i : ℕ) (at bits bits' : List ℕ) (b : Bool) → b ≡ stands i at → ((u : ℕ) → stands u bits' ≡ cond (nat_eq u i) b (stands u bits)) → ((v : ℕ) → stands v bits ≡ cond (nat_lt v i) (stands v at) (nat_lt v (n + m))) → (v : ℕ) → stands v bits' ≡ cond (nat_lt v (i + 1)) (stands v at) (nat_lt v (n + m))
input_next n m i at bits bits' b eb s h v = s v ∙ by (nat_eq v i) refl
  where
    by : (t : Bool) → nat_eq v i ≡ t → cond t b (stands v bits) ≡ cond (nat_lt v (i + 1)) (stands v at) (nat_lt v (n + m))
    by true e =
        let w : v ≡ i = nat_eq_true v i e in
        let l : nat_lt v (i + 1) ≡ true = grind (arith, nat_tests, w) in
        eb ∙ ap (λ k. stands k at) (sym w) ∙ sym (ap (λ c. cond c (stands v at) (nat_lt v (n + m))) l)
    by false e =
        let l : nat_lt v i ≡ nat_lt v (i + 1) = grind (arith, nat_tests, e) in
        h v ∙ ap (λ c. cond c (stands v at) (nat_lt v (n + m))) l

-- ---- an input in front of path variables
pub taken_long : (n lo : ℕ) (a : ℕ → Bool) → length (taken lo n a) ≡ n
unfolding taken
taken_long zero lo a = refl
taken_long (suc n) lo a = ap suc (taken_long n (suc lo) a)

past : (xs : Truths) (i : ℕ) → length xs ≤ i → bit xs i ≡ false
past [] i h = refl
past (x ∷ xs) zero h = absurd (omega (arith, h))
past (x ∷ xs) (suc i) h = past xs i (omega (arith, h))

-- away from the path variables
outside : (n m v : ℕ) (at : List ℕ) (y : Truths) → length y ≡ m → stands v (names_from n m) ≡ false → bit (point n at ++ y) v ≡ cond (nat_lt v n) (stands v at) (nat_lt v (n + m))
outside n m v at y l s = by (nat_lt v n) refl
  where
    by : (t : Bool) → nat_lt v n ≡ t → bit (point n at ++ y) v ≡ cond t (stands v at) (nat_lt v (n + m))
    by true e = point_bit n v at y (grind (arith, nat_tests, e))
    by false e = beyond (nat_lt v (n + m)) refl
      where
        beyond : (u : Bool) → nat_lt v (n + m) ≡ u → bit (point n at ++ y) v ≡ u
        beyond true k = absurd (false_true (sym s ∙ names_in n m v (grind (arith, nat_tests, e)) (grind (arith, nat_tests, k))))
        beyond false k = past (point n at ++ y) v (let a = length-append (point n at) y in let b = taken_long n 0 (λ u. stands u at) in let c : n + m ≤ v = grind (arith, nat_tests, k) in omega (arith, a, b, c, l))

-- ---- what the table counts to
pub table_counts : (S : PathSum) (at all vs ts ts' : List ℕ) (terms : List Term) → S.outs ≡ [] → vs ≡ names_from S.n S.m → terms ≡ S.phase → ((v : ℕ) → stands v all ≡ cond (nat_lt v S.n) (stands v at) (nat_lt v (S.n + S.m)))
    → ((a : ℕ → Bool) → ((v : ℕ) → stands v vs ≡ false → a v ≡ stands v all) → table_value vs ts 0 a % 4294967296 ≡ phase_value terms a % 4294967296) → reduced ts' ≡ listing S.m (λ y. worth y ts 0)
    → (j : ℤ) → signed_count (path_values S) (point S.n at) [] j ≡ tallied ts' j
unfolding signed_count values same_bits when
table_counts S at all vs ts ts' terms eo ev et ea f g j =
    total_ext S.m _ (λ y. one (j -ℤ pos (worth y ts 0))) (λ y l. ap (λ (r : List (List (List ℕ))). when (same_bits (values r (bit (point S.n at ++ y))) []) (one (j -ℤ pos (phase_value S.phase (bit (point S.n at ++ y)))))) eo
    ∙ turned_same one one_number (phase_value S.phase (bit (point S.n at ++ y))) (worth y ts 0) (sym (phase_at y l)) j)
    ∙ sym (tallied_listing S.m (λ y. worth y ts 0) j) ∙ ap (λ (r : List ℕ). tallied r j) (sym g) ∙ tallied_reduced ts' j
  where
    point_length : (n lo : ℕ) (a : ℕ → Bool) → length (taken lo n a) ≡ n
    point_length n lo a = taken_long n lo a

    behind : (y : Truths) (i : ℕ) → bit (point S.n at ++ y) (S.n + i) ≡ bit y i
    behind y i = ap (λ k. bit (point S.n at ++ y) (k + i)) (sym (point_length S.n 0 (λ v. stands v at))) ∙ get_or-append-add (point S.n at) y i false

    beside : (y : Truths) → length y ≡ S.m → (v : ℕ) → stands v vs ≡ false → bit (point S.n at ++ y) v ≡ stands v all
    beside y l v s = outside S.n S.m v at y l (sym (ap (λ (r : List ℕ). stands v r) ev) ∙ s) ∙ sym (ea v)

    phase_at : (y : Truths) → length y ≡ S.m → worth y ts 0 % 4294967296 ≡ phase_value S.phase (bit (point S.n at ++ y)) % 4294967296
    phase_at y l =
        ap (λ r. r % 4294967296) (sym (worth_names y S.n ts 0 (bit (point S.n at ++ y)) (λ i k. behind y i)))
        ∙ ap (λ (r : List ℕ). table_value r ts 0 (bit (point S.n at ++ y)) % 4294967296) (ap (names_from S.n) l ∙ sym ev)
        ∙ f (bit (point S.n at ++ y)) (beside y l) ∙ ap (λ (r : List Term). phase_value r (bit (point S.n at ++ y)) % 4294967296) et

pub names_few : (v m : ℕ) (vs : List ℕ) → vs ≡ names_from v m → m ≤ 16 → length vs ≤ 16
names_few v m vs e h = let k : length vs ≡ m = ap length e ∙ names_length v m in omega (arith, k, h)

pub names_true : (n m : ℕ) (at all vs : List ℕ) → vs ≡ names_from n m → ((v : ℕ) → stands v all ≡ cond (nat_lt v n) (stands v at) (nat_lt v (n + m))) → (v : ℕ) → stands v vs ≡ true → stands v all ≡ true
names_true n m at all vs e h v s =
    let k = names_stand n m v (sym (ap (λ (r : List ℕ). stands v r) e) ∙ s) in
    let a : nat_lt v n ≡ false = (let l = k.0 in grind (arith, nat_tests, l)) in
    let b : nat_lt v (n + m) ≡ true = (let l = k.1 in grind (arith, nat_tests, l)) in
    h v ∙ ap₂ (λ (p q : Bool). cond p (stands v at) q) a b

pub table_size : (v m : ℕ) (vs ts : List ℕ) → vs ≡ names_from v m → length ts ≡ 2 ^ length vs → length ts ≡ 2 ^ m
table_size v m vs ts e h = h ∙ ap (λ n. 2 ^ n) (ap length e ∙ names_length v m)
