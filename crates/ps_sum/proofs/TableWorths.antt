-- Tables of words, and what becomes of their worth.
use Rattle.std.proofs.Common.{◌≡◌, ◌≢◌, ◌||◌, ℕ, zero, suc, ◌+◌, ◌*◌, ◌-◌, ◌/◌, ◌%◌, ◌^◌, refl, ap, ap₂, sym, ◌∙◌, subst, arith, ◌<◌, ◌≤◌, Bool, true, false, ◌&&◌, cond, nat_eq, List, [], ◌∷◌, ◌++◌, length, take, drop, get_or, set, ◌⊎◌, inl, inr}
use Rattle.std.proofs.lemmas.Grind.{pow_more}
use Rattle.std.proofs.lemmas.Bool.Decides.{nat_tests}
use Rattle.std.proofs.lemmas.Nat.{pow_below}
use Rattle.std.proofs.lemmas.List.{get_or_append_left, get_or-append-add, get_or-set_same, get_or-set_other, take_more, take_all, drop_more, drop_all, length-set, get_or_default}
use Rattle.ps_phase.specs.declared.terms.Term.{Term}
use Rattle.ps_phase.specs.Phases.{phase_value, phase_occurs}
use Rattle.ps_phase.proofs.Values.{phase_append, one_value, free_push}
use Rattle.ps_mono.specs.Sets.{holds, stands, Below}
use Rattle.ps_mono.specs.Lists.{nat_eq_true}
use Rattle.ps_mono.specs.Truth.{times, differ}
use Rattle.ps_mono.proofs.Laws.{holds_at, fails, holds_union}
use Rattle.ps_bool.specs.Polys.{bool_value, occurs}
use Rattle.ps_phase.proofs.Adding.{M, times_none, neither, no_or, from_one}
use Rattle.ps_sum.specs.Tables.{table_value, place_of, is_odd}
use Rattle.ps_sum.proofs.Lifts.{bool_push, to_none}

pub two_more : (n : ℕ) → 2 ^ suc n ≡ 2 ^ n + 2 ^ n
two_more n = let e : 2 ^ (n + 1) ≡ 2 ^ n * 2 = pow_more 2 n in omega (arith, e)

-- ---- words added place by place
both : (b : Bool) (p q p1 q1 p2 q2 : ℕ) → p % M ≡ (p1 + p2) % M → q % M ≡ (q1 + q2) % M → (p + times b q) % M ≡ ((p1 + times b q1) + (p2 + times b q2)) % M
unfolding times
both true p q p1 q1 p2 q2 e f = omega arith
both false p q p1 q1 p2 q2 e f = omega arith

pub added_value : (vs xs ys zs : List ℕ) (o : ℕ) (a : ℕ → Bool) → ((i : ℕ) → get_or zs i 0 % M ≡ (get_or xs i 0 + get_or ys i 0) % M) → table_value vs zs o a % M ≡ (table_value vs xs o a + table_value vs ys o a) % M
unfolding table_value
added_value [] xs ys zs o a f = f o
added_value (v ∷ vs) xs ys zs o a f = both (a v) _ _ _ _ _ _ (added_value vs xs ys zs o a f) (added_value vs xs ys zs (o + 2 ^ length vs) a f)

-- ---- two halves
pub left_value : (vs xs ys : List ℕ) (o : ℕ) (a : ℕ → Bool) → o + 2 ^ length vs ≤ length xs → table_value vs (xs ++ ys) o a ≡ table_value vs xs o a
unfolding table_value
left_value [] xs ys o a h = get_or_append_left xs ys 0 o (omega (arith, h))
left_value (v ∷ vs) xs ys o a h =
    let t = two_more (length vs) in
    ap₂ (λ p q. p + times (a v) q) (left_value vs xs ys o a (omega (arith, h, t))) (left_value vs xs ys (o + 2 ^ length vs) a (omega (arith, h, t)))

pub right_value : (vs xs ys : List ℕ) (o : ℕ) (a : ℕ → Bool) → table_value vs (xs ++ ys) (length xs + o) a ≡ table_value vs ys o a
unfolding table_value
right_value [] xs ys o a = get_or-append-add xs ys o 0
right_value (v ∷ vs) xs ys o a =
    let e : length xs + o + 2 ^ length vs ≡ length xs + (o + 2 ^ length vs) = omega arith in
    ap₂ (λ p q. p + times (a v) q) (right_value vs xs ys o a) (ap (λ i. table_value vs (xs ++ ys) i a) e ∙ right_value vs xs ys (o + 2 ^ length vs) a)

pub halves_value : (v : ℕ) (vs xs ys : List ℕ) (a : ℕ → Bool) → length xs ≡ 2 ^ length vs → table_value (v ∷ vs) (xs ++ ys) 0 a ≡ table_value vs xs 0 a + times (a v) (table_value vs ys 0 a)
unfolding table_value
halves_value v vs xs ys a e =
    let i : 0 + 2 ^ length vs ≡ length xs + 0 = omega (arith, e) in
    ap₂ (λ p q. p + times (a v) q) (left_value vs xs ys 0 a (omega (arith, e))) (ap (λ j. table_value vs (xs ++ ys) j a) i ∙ right_value vs xs ys 0 a)

-- ---- the values of a table
pub odd_same : (x y : ℕ) → x % M ≡ y % M → is_odd x ≡ is_odd y
unfolding is_odd
odd_same x y e = let z : x % 2 ≡ y % 2 = omega arith in ap (λ r. nat_eq r 1) z

abbrev pub Transforms : ℕ → ℕ → List ℕ → List ℕ → Type 0
Transforms count by old new = (names : List ℕ) → length names ≡ count → (a : ℕ → Bool) → table_value names new 0 a % M ≡ times (is_odd (table_value names old 0 a)) by % M

transform_step : (b : Bool) (by l h g l' h' g' : ℕ) → l' % M ≡ times (is_odd l) by % M → h' % M ≡ times (is_odd h) by % M → h % M ≡ (g + l) % M → h' % M ≡ (g' + l') % M → (l' + times b g') % M ≡ times (is_odd (l + times b g)) by % M
unfolding times
transform_step false by l h g l' h' g' e f p q =
    let z : l + 0 ≡ l = omega arith in
    let w : (l' + 0) % M ≡ l' % M = omega arith in
    w ∙ e ∙ sym (ap (λ r. times (is_odd r) by % M) z)
transform_step true by l h g l' h' g' e f p q =
    let z : (l' + g') % M ≡ h' % M = omega arith in
    let w : h % M ≡ (l + g) % M = omega arith in
    z ∙ f ∙ ap (λ r. times r by % M) (odd_same h (l + g) w)

-- low and high are the halves of old, sum the second one with the first one added, low' and high' what comes of low and sum, and last what is left of high' without low'
pub transformed : (count by : ℕ) (old low high sum low' high' last new : List ℕ) → count ≢ 0 → length old ≡ 2 ^ count → old ≡ low ++ high → length low ≡ length old / 2 → ((i : ℕ) → get_or sum i 0 % M ≡ (get_or high i 0 + get_or low i 0) % M)
    → Transforms (count - 1) by low low' → Transforms (count - 1) by sum high' → ((i : ℕ) → get_or high' i 0 % M ≡ (get_or last i 0 + get_or low' i 0) % M) → length low' ≡ length low → new ≡ low' ++ last → Transforms count by old new
transformed count by old low high sum low' high' last new z s eo el fs tl th ft ell en [] n a = absurd (z (sym n))
transformed count by old low high sum low' high' last new z s eo el fs tl th ft ell en (v ∷ vs) n a =
    let t = two_more (length vs) in
    let p : 2 ^ count ≡ 2 ^ suc (length vs) = ap (λ k. 2 ^ k) (sym n) in
    let w : length low ≡ 2 ^ length vs = omega (arith, s, el, t, p) in
    let k : length vs ≡ count - 1 = omega (arith, n) in
    ap (λ r. table_value (v ∷ vs) r 0 a % M) en ∙ ap (λ r. r % M) (halves_value v vs low' last a (ell ∙ w))
    ∙ transform_step (a v) by (table_value vs low 0 a) (table_value vs sum 0 a) (table_value vs high 0 a) (table_value vs low' 0 a) (table_value vs high' 0 a) (table_value vs last 0 a) (tl vs k a) (th vs k a) (added_value vs high low sum 0 a fs) (added_value vs last low' high' 0 a ft)
    ∙ sym (ap (λ r. times (is_odd r) by % M) (ap (λ r. table_value (v ∷ vs) r 0 a) eo ∙ halves_value v vs low high a w))

pub transformed_one : (count by : ℕ) (old new : List ℕ) → count ≡ 0 → get_or new 0 0 ≡ times (is_odd (get_or old 0 0)) by → Transforms count by old new
unfolding table_value
transformed_one count by old new z e [] n a = ap (λ r. r % M) e
transformed_one count by old new z e (v ∷ vs) n a = absurd (omega (arith, z, n))

-- ---- words that are 0
pub zero_value : (vs ts : List ℕ) (o : ℕ) (a : ℕ → Bool) → ((i : ℕ) → o ≤ i → i < o + 2 ^ length vs → get_or ts i 0 ≡ 0) → table_value vs ts o a ≡ 0
unfolding table_value
zero_value [] ts o a f = f o (omega arith) (omega arith)
zero_value (v ∷ vs) ts o a f =
    let t = two_more (length vs) in
    let p = zero_value vs ts o a (λ i l h. f i l (omega (arith, h, t))) in
    let q = zero_value vs ts (o + 2 ^ length vs) a (λ i l h. f i (omega (arith, l)) (omega (arith, h, t))) in
    ap₂ (λ x y. x + times (a v) y) p q ∙ ap (λ r. 0 + r) (times_none (a v))

pub agree_value : (vs xs ys : List ℕ) (o : ℕ) (a : ℕ → Bool) → ((i : ℕ) → o ≤ i → i < o + 2 ^ length vs → get_or xs i 0 ≡ get_or ys i 0) → table_value vs xs o a ≡ table_value vs ys o a
unfolding table_value
agree_value [] xs ys o a f = f o (omega arith) (omega arith)
agree_value (v ∷ vs) xs ys o a f =
    let t = two_more (length vs) in
    ap₂ (λ x y. x + times (a v) y) (agree_value vs xs ys o a (λ i l h. f i l (omega (arith, h, t)))) (agree_value vs xs ys (o + 2 ^ length vs) a (λ i l h. f i (omega (arith, l)) (omega (arith, h, t))))

-- ---- the place of a monomial
pub place_below : (vs m : List ℕ) → place_of vs m < 2 ^ length vs
unfolding place_of
place_below [] m = omega arith
place_below (v ∷ vs) m = let t = two_more (length vs) in let p = place_below vs m in by (stands v m) t p
  where
    by : (b : Bool) → 2 ^ suc (length vs) ≡ 2 ^ length vs + 2 ^ length vs → place_of vs m < 2 ^ length vs → cond b (2 ^ length vs) 0 + place_of vs m < 2 ^ suc (length vs)
    by true t p = omega (arith, t, p)
    by false t p = omega (arith, t, p)

-- the variables of the list that stand in m are true
unfoldable pub covers : List ℕ → List ℕ → (ℕ → Bool) → Bool
covers [] m a = true
covers (v ∷ vs) m a = cond (stands v m) (a v) true && covers vs m a

-- ys is xs with one more at the place of m
pub record IsMarked (vs m : List ℕ) (o : ℕ) (xs ys : List ℕ) : Type 0 where
  pub there : get_or ys (o + place_of vs m) 0 % M ≡ (get_or xs (o + place_of vs m) 0 + 1) % M
  pub elsewhere : (i : ℕ) → i ≢ o + place_of vs m → get_or ys i 0 ≡ get_or xs i 0

mark_with : (b c : Bool) (p q q' : ℕ) → q' % M ≡ (q + times c 1) % M → (p + times b q') % M ≡ (p + times b q + times (b && c) 1) % M
unfolding times
mark_with true c p q q' e = omega arith
mark_with false c p q q' e = omega arith

mark_without : (b c : Bool) (p p' q : ℕ) → p' % M ≡ (p + times c 1) % M → (p' + times b q) % M ≡ (p + times b q + times c 1) % M
mark_without b c p p' q e = omega arith

pub marked_value : (vs m : List ℕ) (o : ℕ) (xs ys : List ℕ) (a : ℕ → Bool) → IsMarked vs m o xs ys → table_value vs ys o a % M ≡ (table_value vs xs o a + times (covers vs m a) 1) % M
unfolding table_value place_of covers times
marked_value [] m o xs ys a k =
    let e : o + 0 ≡ o = omega arith in
    ap (λ i. get_or ys i 0 % M) (sym e) ∙ k.there ∙ ap (λ i. (get_or xs i 0 + 1) % M) e
marked_value (v ∷ vs) m o xs ys a k = by (stands v m) refl (λ j. marked_value vs m o xs ys a j) (λ j. marked_value vs m (o + 2 ^ length vs) xs ys a j)
  where
    by : (b : Bool) → stands v m ≡ b → (IsMarked vs m o xs ys → table_value vs ys o a % M ≡ (table_value vs xs o a + times (covers vs m a) 1) % M)
        → (IsMarked vs m (o + 2 ^ length vs) xs ys → table_value vs ys (o + 2 ^ length vs) a % M ≡ (table_value vs xs (o + 2 ^ length vs) a + times (covers vs m a) 1) % M)
        → (table_value vs ys o a + times (a v) (table_value vs ys (o + 2 ^ length vs) a)) % M ≡ (table_value vs xs o a + times (a v) (table_value vs xs (o + 2 ^ length vs) a) + times (cond (stands v m) (a v) true && covers vs m a) 1) % M
    by true s f g =
        let c : o + (cond (stands v m) (2 ^ length vs) 0 + place_of vs m) ≡ o + 2 ^ length vs + place_of vs m = ap (λ b. o + (cond b (2 ^ length vs) 0 + place_of vs m)) s ∙ omega arith in
        let h = g (record { there = ap (λ i. get_or ys i 0 % M) (sym c) ∙ k.there ∙ ap (λ i. (get_or xs i 0 + 1) % M) c; elsewhere = λ i n. k.elsewhere i (λ e. n (e ∙ c)) }) in
        let w = agree_value vs ys xs o a (λ i l u. k.elsewhere i (λ e. omega (arith, u, e, c))) in
        ap (λ r. (r + times (a v) (table_value vs ys (o + 2 ^ length vs) a)) % M) w ∙ mark_with (a v) (covers vs m a) _ _ _ h ∙ ap (λ b. (table_value vs xs o a + times (a v) (table_value vs xs (o + 2 ^ length vs) a) + times (cond b (a v) true && covers vs m a) 1) % M) (sym s)
    by false s f g =
        let c : o + (cond (stands v m) (2 ^ length vs) 0 + place_of vs m) ≡ o + place_of vs m = ap (λ b. o + (cond b (2 ^ length vs) 0 + place_of vs m)) s ∙ omega arith in
        let h = f (record { there = ap (λ i. get_or ys i 0 % M) (sym c) ∙ k.there ∙ ap (λ i. (get_or xs i 0 + 1) % M) c; elsewhere = λ i n. k.elsewhere i (λ e. n (e ∙ c)) }) in
        let p = place_below vs m in
        let w = agree_value vs ys xs (o + 2 ^ length vs) a (λ i l u. k.elsewhere i (λ e. omega (arith, l, e, c, p))) in
        ap (λ r. (table_value vs ys o a + times (a v) r) % M) w ∙ mark_without (a v) (covers vs m a) _ _ _ h ∙ ap (λ b. (table_value vs xs o a + times (a v) (table_value vs xs (o + 2 ^ length vs) a) + times (cond b (a v) true && covers vs m a) 1) % M) (sym s)

-- ---- where all variables of m are in the list, m holds just where those of the list do
same_truth : (p q : Bool) → (p ≡ true → q ≡ true) → (q ≡ true → p ≡ true) → p ≡ q
same_truth true q f g = sym (f refl)
same_truth false true f g = g refl
same_truth false false f g = refl

and_true : (x y : Bool) → (x && y) ≡ true → (x ≡ true) × (y ≡ true)
and_true true y e = (refl, e)
and_true false y e = absurd (clash e)
  where
    clash : false ≡ true → ⊥
    clash k = cc

both_true : (x y : Bool) → x ≡ true → y ≡ true → (x && y) ≡ true
both_true x y e f = ap₂ (λ p q. p && q) e f

false_true : false ≡ true → ⊥
false_true k = cc

covers_at : (vs m : List ℕ) (a : ℕ → Bool) (v : ℕ) → covers vs m a ≡ true → stands v vs ≡ true → stands v m ≡ true → a v ≡ true
unfolding covers stands
covers_at [] m a v c s t = absurd (false_true s)
covers_at (u ∷ vs) m a v c s t = by (nat_eq v u) refl s (λ r. covers_at vs m a v (and_true (cond (stands u m) (a u) true) (covers vs m a) c).1 r t)
  where
    by : (b : Bool) → nat_eq v u ≡ b → (b || stands v vs) ≡ true → (stands v vs ≡ true → a v ≡ true) → a v ≡ true
    by true e s r =
        let w : v ≡ u = nat_eq_true v u e in
        let k : stands u m ≡ true = sym (ap (λ x. stands x m) w) ∙ t in
        ap a w ∙ sym (ap (λ b. cond b (a u) true) k) ∙ (and_true (cond (stands u m) (a u) true) (covers vs m a) c).0
    by false e s r = r s

holds_each : (m : List ℕ) (a : ℕ → Bool) (b : Bool) → holds m a ≡ b → ((v : ℕ) → stands v m ≡ true → a v ≡ true) → b ≡ true
holds_each m a true h f = refl
holds_each m a false h f = let x = fails m a h in sym (x.2) ∙ f x.0 x.1

covers_all : (vs m : List ℕ) (a : ℕ → Bool) → holds m a ≡ true → covers vs m a ≡ true
unfolding covers
covers_all [] m a h = refl
covers_all (u ∷ vs) m a h = both_true _ _ (by (stands u m) refl) (covers_all vs m a h)
  where
    by : (b : Bool) → stands u m ≡ b → cond b (a u) true ≡ true
    by true e = holds_at m a u h e
    by false e = refl

pub covers_holds : (vs m : List ℕ) (a : ℕ → Bool) → ((v : ℕ) → stands v m ≡ true → stands v vs ≡ true) → covers vs m a ≡ holds m a
covers_holds vs m a f = same_truth _ _ (λ c. holds_each m a (holds m a) refl (λ v t. covers_at vs m a v c (f v t) t)) (covers_all vs m a)

-- ---- the table of a sum of monomials
pub record Marked (vs : List ℕ) (f : List (List ℕ)) (i : ℕ) (ts : List ℕ) : Type 0 where
  pub size : length ts ≡ 2 ^ length vs
  pub odd : (a : ℕ → Bool) → is_odd (table_value vs ts 0 a) ≡ bool_value (take i f) a

pub marked_start : (vs : List ℕ) (f : List (List ℕ)) (ts : List ℕ) → length ts ≡ 2 ^ length vs → ((i : ℕ) → get_or ts i 0 ≡ 0) → Marked vs f 0 ts
unfolding bool_value is_odd
marked_start vs f ts s z = record { size = s; odd = λ a. ap is_odd (zero_value vs ts 0 a (λ i l h. z i)) }

odd_step : (r x : ℕ) → x % 2 ≡ r → r < 2 → nat_eq ((x + 1) % 2) 1 ≡ differ (nat_eq (x % 2) 1) true
unfolding differ
odd_step zero x e h = let w : (x + 1) % 2 ≡ 1 = omega (arith, e) in ap (λ r. nat_eq r 1) w ∙ sym (ap (λ r. differ (nat_eq r 1) true) e)
odd_step (suc zero) x e h = let w : (x + 1) % 2 ≡ 0 = omega (arith, e) in ap (λ r. nat_eq r 1) w ∙ sym (ap (λ r. differ (nat_eq r 1) true) e)
odd_step (suc (suc r)) x e h = absurd (omega (arith, h))

differ_none : (b : Bool) → b ≡ differ b false
unfolding differ
differ_none true = refl
differ_none false = refl

pub odd_more : (b : Bool) (x : ℕ) → is_odd (x + times b 1) ≡ differ (is_odd x) b
unfolding is_odd times
odd_more true x = odd_step (x % 2) x refl (omega arith)
odd_more false x = let w : x + 0 ≡ x = omega arith in ap (λ r. nat_eq (r % 2) 1) w ∙ differ_none (nat_eq (x % 2) 1)

stands_in : (v : ℕ) (f : List (List ℕ)) (i : ℕ) (m : List ℕ) → i < length f → m ≡ get_or f i m → stands v m ≡ true → occurs v f ≡ true
unfolding occurs
stands_in v [] i m h e t = absurd (omega (arith, h))
stands_in v (x ∷ f) zero m h e t = ap (λ b. b || occurs v f) (sym (ap (stands v) e) ∙ t)
stands_in v (x ∷ f) (suc i) m h e t = by (stands v x) (stands_in v f i m (omega (arith, h)) e t)
  where
    by : (b : Bool) → occurs v f ≡ true → (b || occurs v f) ≡ true
    by true e = refl
    by false e = e

-- one more at the place of the monomial at i
pub marked_more : (vs : List ℕ) (f : List (List ℕ)) (i p w : ℕ) (m ts ts' : List ℕ) → i < length f → m ≡ get_or f i m → ((v : ℕ) → occurs v f ≡ true → stands v vs ≡ true) → p ≡ place_of vs m → p < length ts
    → w ≡ get_or ts p 0 → ts' ≡ set ts p ((w + 1) % M) → Marked vs f i ts → Marked vs f (i + 1) ts'
marked_more vs f i p w m ts ts' h em c ep l ew e k = record {
  size = ap length e ∙ length-set ts p _ ∙ k.size;
  odd = λ a.
      let q : p ≡ 0 + place_of vs m = ep ∙ omega arith in
      let t : get_or ts' p 0 ≡ (w + 1) % M = ap (λ r. get_or r p 0) e ∙ get_or-set_same ts p _ 0 l in
      let y : IsMarked vs m 0 ts ts' = record {
        there = ap (λ j. get_or ts' j 0 % M) (sym q) ∙ ap (λ r. r % M) t ∙ omega arith ∙ ap (λ r. (r + 1) % M) ew ∙ ap (λ j. (get_or ts j 0 + 1) % M) q;
        elsewhere = λ j n. ap (λ r. get_or r j 0) e ∙ get_or-set_other ts p j _ 0 (λ u. n (u ∙ q));
      } in
      let g = covers_holds vs m a (λ v s. c v (stands_in v f i m h em s)) in
      odd_same _ _ (marked_value vs m 0 ts ts' a y) ∙ odd_more (covers vs m a) (table_value vs ts 0 a) ∙ ap₂ differ (k.odd a) g ∙ sym (ap (λ (r : List (List ℕ)). bool_value r a) (take_more f i m h ∙ ap (λ (r : List ℕ). take i f ++ r ∷ []) (sym em)) ∙ bool_push (take i f) m a);
}

pub marked_end : (vs : List ℕ) (f : List (List ℕ)) (i : ℕ) (ts : List ℕ) → length f ≤ i → Marked vs f i ts → (a : ℕ → Bool) → is_odd (table_value vs ts 0 a) ≡ bool_value f a
marked_end vs f i ts h k a = k.odd a ∙ ap (λ (r : List (List ℕ)). bool_value r a) (take_all i f h)

-- ---- the loop of `variables`
pub variables_start : (f : List (List ℕ)) (k : List ℕ) → k ≡ [] → (v : ℕ) → stands v k ≡ occurs v (take 0 f)
unfolding stands occurs
variables_start f k e v = ap (stands v) e

occurs_pushed : (v : ℕ) (f : List (List ℕ)) (m : List ℕ) → occurs v (f ++ m ∷ []) ≡ (occurs v f || stands v m)
unfolding occurs
occurs_pushed v [] m = or_none (stands v m)
  where
    or_none : (b : Bool) → (b || false) ≡ b
    or_none true = refl
    or_none false = refl
occurs_pushed v (x ∷ f) m = by (stands v x) (occurs_pushed v f m)
  where
    by : (b : Bool) → occurs v (f ++ m ∷ []) ≡ (occurs v f || stands v m) → (b || occurs v (f ++ m ∷ [])) ≡ ((b || occurs v f) || stands v m)
    by true e = refl
    by false e = e

pub variables_more : (f : List (List ℕ)) (i : ℕ) (m k k' : List ℕ) → i < length f → m ≡ get_or f i m → ((v : ℕ) → stands v k' ≡ (stands v k || stands v m)) → ((v : ℕ) → stands v k ≡ occurs v (take i f))
    → (v : ℕ) → stands v k' ≡ occurs v (take (i + 1) f)
variables_more f i m k k' h em g s v =
    g v ∙ ap (λ b. b || stands v m) (s v) ∙ sym (occurs_pushed v (take i f) m)
    ∙ sym (ap (occurs v) (take_more f i m h ∙ ap (λ (r : List ℕ). take i f ++ r ∷ []) (sym em)))

-- ---- the loop of `place_in`
pub below_at : (vs : List ℕ) (i : ℕ) → Below 512 vs → i < length vs → get_or vs i 0 < 512
below_at [] i b h = absurd (omega (arith, h))
below_at (v ∷ vs) zero b h = b.0
below_at (v ∷ vs) (suc i) b h = below_at vs i b.1 (omega (arith, h))

pub record Placing (vs m : List ℕ) (size i place half : ℕ) : Type 0 where
  pub half_is : half ≡ 2 ^ length (drop i vs)
  pub value : place + place_of (drop i vs) m ≡ place_of vs m
  pub room : place + half ≤ size

pub placing_start : (vs m : List ℕ) (size : ℕ) → size ≡ 2 ^ length vs → Placing vs m size 0 0 size
placing_start vs m size e = record { half_is = e; value = omega arith; room = omega arith }

pub placing_more : (vs m : List ℕ) (size i place place' half : ℕ) (b : Bool) → i < length vs → b ≡ stands (get_or vs i 0) m → (((b ≡ true) × (place' ≡ place + half / 2)) ⊎ ((b ≡ false) × (place' ≡ place))) → Placing vs m size i place half → Placing vs m size (i + 1) place' (half / 2)
unfolding place_of
placing_more vs m size i place place' half b h eb c s =
    let d = drop_more vs i 0 h in
    let t = two_more (length (drop (i + 1) vs)) in
    let w : half ≡ 2 ^ suc (length (drop (i + 1) vs)) = s.half_is ∙ ap (λ (r : List ℕ). 2 ^ length r) d in
    let q : half / 2 ≡ 2 ^ length (drop (i + 1) vs) = omega (arith, w, t) in
    let p : place + (cond (stands (get_or vs i 0) m) (2 ^ length (drop (i + 1) vs)) 0 + place_of (drop (i + 1) vs) m) ≡ place_of vs m = sym (ap (λ (r : List ℕ). place + place_of r m) d) ∙ s.value in
    by c q (ap (λ k. place + (cond k (2 ^ length (drop (i + 1) vs)) 0 + place_of (drop (i + 1) vs) m)) eb ∙ p)
  where
    by : (((b ≡ true) × (place' ≡ place + half / 2)) ⊎ ((b ≡ false) × (place' ≡ place))) → half / 2 ≡ 2 ^ length (drop (i + 1) vs)
        → place + (cond b (2 ^ length (drop (i + 1) vs)) 0 + place_of (drop (i + 1) vs) m) ≡ place_of vs m → Placing vs m size (i + 1) place' (half / 2)
    by (inl k) q p =
        let r = sym (ap (λ z. place + (cond z (2 ^ length (drop (i + 1) vs)) 0 + place_of (drop (i + 1) vs) m)) k.0) ∙ p in
        let o = s.room in
        record { half_is = q; value = omega (arith, k.1, r, q); room = omega (arith, k.1, o) }
    by (inr k) q p =
        let r = sym (ap (λ z. place + (cond z (2 ^ length (drop (i + 1) vs)) 0 + place_of (drop (i + 1) vs) m)) k.0) ∙ p in
        let o = s.room in
        record { half_is = q; value = omega (arith, k.1, r); room = omega (arith, k.1, o) }

pub placing_end : (vs m : List ℕ) (size i place half : ℕ) → length vs ≤ i → Placing vs m size i place half → (place ≡ place_of vs m) × (place < size)
unfolding place_of
placing_end vs m size i place half h s =
    let d = drop_all i vs h in
    let v : place + 0 ≡ place_of vs m = sym (ap (λ (r : List ℕ). place + place_of r m) d) ∙ s.value in
    let w : half ≡ 1 = s.half_is ∙ ap (λ (r : List ℕ). 2 ^ length r) d in
    let o = s.room in
    (omega (arith, v), omega (arith, w, o))

-- ---- a table of no words but 0
abbrev pub AllZero : List ℕ → Type 0
AllZero ts = (i : ℕ) → get_or ts i 0 ≡ 0

pub zeros_start : (ts : List ℕ) → ts ≡ [] → AllZero ts
zeros_start ts e i = ap (λ (r : List ℕ). get_or r i 0) e

zeros_push : (ts : List ℕ) (i : ℕ) → AllZero ts → get_or (ts ++ 0 ∷ []) i 0 ≡ 0
zeros_push [] zero z = refl
zeros_push [] (suc i) z = refl
zeros_push (t ∷ ts) zero z = z zero
zeros_push (t ∷ ts) (suc i) z = zeros_push ts i (λ j. z (suc j))

pub zeros_more : (ts ts' : List ℕ) → ts' ≡ ts ++ 0 ∷ [] → AllZero ts → AllZero ts'
zeros_more ts ts' e z i = ap (λ (r : List ℕ). get_or r i 0) e ∙ zeros_push ts i z

-- ---- the terms of a table
words_step : (b n : Bool) (o p q r s : ℕ) → q ≡ o + times b r → p ≡ q + times (b && n) s → p ≡ o + times b (r + times n s)
unfolding times
words_step true true o p q r s e f = omega (arith, e, f)
words_step true false o p q r s e f = omega (arith, e, f)
words_step false n o p q r s e f = omega (arith, e, f)

and_end : (b : Bool) → (b && true) ≡ b
and_end true = refl
and_end false = refl

one_holds : (v : ℕ) (m : List ℕ) (a : ℕ → Bool) → m ≡ v ∷ [] → holds m a ≡ a v
unfolding holds
one_holds v m a e = ap (λ (r : List ℕ). holds r a) e ∙ and_end (a v)

-- first those without the variable n, then those with it
pub words_value : (base more one names rest ts : List ℕ) (n o half : ℕ) (old mid new : List Term) → names ≡ n ∷ rest → half ≡ 2 ^ length rest → one ≡ n ∷ [] → ((v : ℕ) → stands v more ≡ (stands v base || stands v one))
    → ((a : ℕ → Bool) → phase_value mid a ≡ phase_value old a + times (holds base a) (table_value rest ts o a)) → ((a : ℕ → Bool) → phase_value new a ≡ phase_value mid a + times (holds more a) (table_value rest ts (o + half) a))
    → (a : ℕ → Bool) → phase_value new a ≡ phase_value old a + times (holds base a) (table_value names ts o a)
unfolding table_value
words_value base more one names rest ts n o half old mid new en eh eo em f g a =
    let k = holds_union base one more em a ∙ ap (λ b. holds base a && b) (one_holds n one a eo) in
    let q = g a ∙ ap₂ (λ b i. phase_value mid a + times b (table_value rest ts i a)) k (ap (λ h. o + h) eh) in
    words_step (holds base a) (a n) _ _ _ (table_value rest ts o a) (table_value rest ts (o + 2 ^ length rest) a) (f a) q ∙ sym (ap (λ (r : List ℕ). phase_value old a + times (holds base a) (table_value r ts o a)) en)

stands_first : (v n : ℕ) (one : List ℕ) → one ≡ n ∷ [] → nat_eq v n ≡ false → stands v one ≡ false
unfolding stands
stands_first v n one e f = ap (stands v) e ∙ ap (λ b. b || false) f

pub words_free : (base more one names rest : List ℕ) (n : ℕ) (old mid new : List Term) → names ≡ n ∷ rest → one ≡ n ∷ [] → ((v : ℕ) → stands v more ≡ (stands v base || stands v one))
    → ((v : ℕ) → stands v base ≡ false → stands v rest ≡ false → phase_occurs v old ≡ false → phase_occurs v mid ≡ false) → ((v : ℕ) → stands v more ≡ false → stands v rest ≡ false → phase_occurs v mid ≡ false → phase_occurs v new ≡ false)
    → (v : ℕ) → stands v base ≡ false → stands v names ≡ false → phase_occurs v old ≡ false → phase_occurs v new ≡ false
unfolding stands
words_free base more one names rest n old mid new en eo em f g v s t o =
    let k = neither (nat_eq v n) (stands v rest) (sym (ap (λ (r : List ℕ). stands v r) en) ∙ t) in
    g v (em v ∙ no_or _ _ s (stands_first v n one eo k.0)) k.1 (f v s k.1 o)

pub word_value : (base names ts : List ℕ) (o w : ℕ) (old new : List Term) → length names ≡ 0 → w ≡ get_or ts o 0 → new ≡ old ++ record { mono = base; phase = w } ∷ [] → (a : ℕ → Bool) → phase_value new a ≡ phase_value old a + times (holds base a) (table_value names ts o a)
unfolding table_value
word_value base [] ts o w old new z ew e a = ap (λ (r : List Term). phase_value r a) e ∙ phase_append old _ a ∙ ap (λ n. phase_value old a + n) (one_value (record { mono = base; phase = w }) a) ∙ ap (λ n. phase_value old a + times (holds base a) n) ew
word_value base (v ∷ vs) ts o w old new z ew e a = absurd (omega (arith, z))

pub word_free : (base : List ℕ) (w : ℕ) (old new : List Term) → new ≡ old ++ record { mono = base; phase = w } ∷ [] → (v : ℕ) → stands v base ≡ false → phase_occurs v old ≡ false → phase_occurs v new ≡ false
word_free base w old new e v s o = ap (phase_occurs v) e ∙ free_push v old _ o s

pub no_words : (base names ts : List ℕ) (o size : ℕ) (old : List Term) → size ≡ 2 ^ length names → ((i : ℕ) → o ≤ i → i < o + size → get_or ts i 0 ≡ 0) → (a : ℕ → Bool) → phase_value old a ≡ phase_value old a + times (holds base a) (table_value names ts o a)
no_words base names ts o size old e z a =
    let q = zero_value names ts o a (λ i l h. z i l (omega (arith, h, e))) in
    let w : phase_value old a ≡ phase_value old a + 0 = omega arith in
    w ∙ ap (λ r. phase_value old a + r) (sym (times_none (holds base a))) ∙ ap (λ r. phase_value old a + times (holds base a) r) (sym q)

-- ---- the halves of a table
pub half_size : (count : ℕ) (table low high : List ℕ) → count ≢ 0 → length table ≡ 2 ^ count → length low ≡ length table / 2 → length high + length table / 2 ≡ length table → (length low ≡ 2 ^ (count - 1)) × (length high ≡ 2 ^ (count - 1))
half_size zero table low high z s l h = absurd (z refl)
half_size (suc n) table low high z s l h =
    let t = two_more n in
    let i : suc n - 1 ≡ n = omega arith in
    let p : 2 ^ (suc n - 1) ≡ 2 ^ n = ap (λ k. 2 ^ k) i in
    (omega (arith, t, p, s, l), omega (arith, t, p, s, h))

pub one_word : (count by w : ℕ) (table : List ℕ) → count ≡ 0 → length table ≡ 2 ^ count → (((get_or table 0 0 % 2 ≡ 1) × (w ≡ by)) ⊎ ((get_or table 0 0 % 2 ≢ 1) × (w ≡ 0))) → get_or (set table 0 w) 0 0 ≡ times (is_odd (get_or table 0 0)) by
unfolding is_odd times
one_word count by w table z s c =
    let k : 2 ^ count ≡ 1 = ap (λ k. 2 ^ k) z in
    get_or-set_same table 0 w 0 (omega (arith, s, k)) ∙ at c
  where
    at : (((get_or table 0 0 % 2 ≡ 1) × (w ≡ by)) ⊎ ((get_or table 0 0 % 2 ≢ 1) × (w ≡ 0))) → w ≡ times (nat_eq (get_or table 0 0 % 2) 1) by
    at (inl k) = k.1 ∙ sym (ap (λ r. times (nat_eq r 1) by) k.0)
    at (inr k) = let e : nat_eq (get_or table 0 0 % 2) 1 ≡ false = grind (arith, nat_tests, k.0) in k.1 ∙ sym (ap (λ b. times b by) e)

-- ---- the calls around a table
pub size_is : (n : ℕ) → n ≤ 14 → 1 * 2 ^ n % 18446744073709551616 ≡ 2 ^ n
size_is n h = let p : 2 ^ n < 2 ^ 64 = pow_below n 64 (omega (arith, h)) in omega (arith, p)

pub marked_next : (vs : List ℕ) (f : List (List ℕ)) (i p w : ℕ) (m ts : List ℕ) → i < length f → m ≡ get_or f i m → ((v : ℕ) → occurs v f ≡ true → stands v vs ≡ true) → length vs ≤ 14 → p ≡ place_of vs m → p < 1 * 2 ^ length vs % 18446744073709551616
    → w ≡ get_or ts p w → Marked vs f i ts → Marked vs f (i + 1) (set ts p ((w + 1) % M))
marked_next vs f i p w m ts h em c few ep l ew k =
    let s = size_is (length vs) few in
    let z = k.size in
    let q : p < length ts = omega (arith, l, s, z) in
    marked_more vs f i p w m ts _ h em c ep q (ew ∙ get_or_default ts p w 0 q) refl k

whole : (p : ℕ) → times true p ≡ p
unfolding times
whole p = refl

pub tabled_value : (support names first second : List ℕ) (f : List (List ℕ)) (by count : ℕ) (table old new last one : List ℕ) (empty out vs : List Term) → names ≡ support → first ≡ names → second ≡ names → count ≡ length support → old ≡ table → last ≡ new
    → ((a : ℕ → Bool) → is_odd (table_value first table 0 a) ≡ bool_value f a) → Transforms count by old new → one ≡ [] → empty ≡ [] → ((a : ℕ → Bool) → phase_value out a ≡ phase_value empty a + times (holds one a) (table_value second last 0 a))
    → ((a : ℕ → Bool) → phase_value vs a % M ≡ phase_value out a % M) → (a : ℕ → Bool) → phase_value vs a % M ≡ times (bool_value f a) by % M
unfolding phase_value holds
tabled_value support names first second f by count table old new last one empty out vs es e1 e2 ec eo el odd tr e0 ee pw g a =
    let n : length names ≡ count = ap length es ∙ sym ec in
    let t = tr names n a in
    let p : phase_value out a ≡ 0 + times true (table_value second last 0 a) = pw a ∙ ap₂ (λ (r : List Term) (m : List ℕ). phase_value r a + times (holds m a) (table_value second last 0 a)) ee e0 in
    let w : times true (table_value second last 0 a) ≡ table_value second last 0 a = whole (table_value second last 0 a) in
    let q : phase_value out a ≡ table_value names new 0 a = p ∙ omega (arith, w) ∙ ap₂ (λ (r k : List ℕ). table_value r k 0 a) e2 el in
    g a ∙ ap (λ r. r % M) q ∙ t ∙ ap (λ b. times b by % M) (ap (λ (k : List ℕ). is_odd (table_value names k 0 a)) eo ∙ ap (λ (r : List ℕ). is_odd (table_value r table 0 a)) (sym e1) ∙ odd a)

pub tabled_free : (support names second : List ℕ) (f : List (List ℕ)) (one : List ℕ) (empty out vs : List Term) → names ≡ support → second ≡ names → one ≡ [] → empty ≡ [] → ((v : ℕ) → stands v support ≡ occurs v f)
    → ((v : ℕ) → stands v one ≡ false → stands v second ≡ false → phase_occurs v empty ≡ false → phase_occurs v out ≡ false) → ((v : ℕ) → phase_occurs v vs ≡ true → phase_occurs v out ≡ true) → (v : ℕ) → phase_occurs v vs ≡ true → occurs v f ≡ true
unfolding stands phase_occurs
tabled_free support names second f one empty out vs es e2 e0 ee c pw g v h = from_one (occurs v f) (phase_occurs v vs) (λ o. to_none (phase_occurs v out) (phase_occurs v vs) (g v)
    (pw v (ap (λ (r : List ℕ). stands v r) e0) (ap (λ (r : List ℕ). stands v r) (e2 ∙ es) ∙ c v ∙ o) (ap (λ (r : List Term). phase_occurs v r) ee))) h

pub reduced_sum : (x y : ℕ) → x ≡ y % M → x % M ≡ y % M
reduced_sum x y e = omega (arith, e)

pub half_words : (size n : ℕ) (names rest : List ℕ) → size ≡ 2 ^ length names → names ≡ n ∷ rest → size / 2 ≡ 2 ^ length rest
half_words size n names rest e en =
    let t = two_more (length rest) in
    let w : size ≡ 2 ^ suc (length rest) = e ∙ ap (λ (r : List ℕ). 2 ^ length r) en in
    omega (arith, w, t)

pub written_back : (n : ℕ) (new items : List ℕ) → length new ≡ length items → n ≡ length items → take n (new ++ drop (length new) items) ≡ new
written_back n new items e f =
    let d : drop (length new) items ≡ [] = drop_all (length new) items (omega (arith, e)) in
    let k : new ++ [] ≡ new = append_none new in
    ap (λ (r : List ℕ). take n (new ++ r)) d ∙ ap (take n) k ∙ take_all n new (omega (arith, e, f))
  where
    append_none : (xs : List ℕ) → xs ++ [] ≡ xs
    append_none [] = refl
    append_none (x ∷ xs) = ap (λ (r : List ℕ). x ∷ r) (append_none xs)

pub same_units : (by u count : ℕ) (old new : List ℕ) → u ≡ by → Transforms count u old new → Transforms count by old new
same_units by u count old new e t = subst (λ r. Transforms count r old new) e t
