-- Two names that close up at once, by words.
use Rattle.std.proofs.Common.{◌≡◌, ◌≢◌, ℕ, suc, ◌+◌, ◌-◌, ◌*◌, ◌/◌, ◌%◌, ◌^◌, refl, ap, sym, ◌∙◌, arith, ◌<◌, ◌≤◌, Bool, true, false, nat_eq, nat_lt, ◌||◌, List, [], ◌∷◌, length, set, get_or, ◌⊎◌, inl, inr, bit_and, bit_or}
use Rattle.std.proofs.lemmas.Bool.{cases_lt, cases_eq}
use Rattle.std.proofs.lemmas.Bool.Decides.{nat_tests}
use Rattle.std.specs.Int.{bit_at}
use Rattle.std.proofs.lemmas.Nat.{and_le_l, or_lt, pow_pos}
use Rattle.std.proofs.lemmas.Nat.Bits.{bit_at-suc, bit_at-zero, bit_at_lowest, bit_at_above, bit_at_cat_low, bit_at_cat_high}
use Rattle.std.proofs.lemmas.List.{get_or-set_same, get_or-set_other}
use Rattle.ps_mono.specs.Sets.{is_set, has, members, vars, stands, Fits8, IsCounted}
use Rattle.ps_mono.specs.Names.{opened}
use Rattle.ps_mono.specs.Words.{has_at}
use Rattle.ps_mono.proofs.Calls.{stands_vars, stands_not}
use Rattle.ps_mono.proofs.Counts.{put_fits}
use Rattle.ps_mono.proofs.Closings.{not_below, is_below, opened_low, opened_high, past_end, none_past, is_set_zero, close_count, last_off, pick, pick_other, rest_at, set_one, set_none, or_left, or_right}

-- ---- one word, one lower
abbrev pub lower1 : ℕ → ℕ → ℕ
lower1 word next = bit_or (word / 2) (next * 9223372036854775808 % 18446744073709551616)

abbrev pub lower2 : ℕ → ℕ → ℕ
lower2 word next = bit_or (word / 4) (next * 4611686018427387904 % 18446744073709551616)

top1 : (next : ℕ) → next * 9223372036854775808 % 18446744073709551616 ≡ next % 2 * 2 ^ 63 + 0
top1 next = omega arith

top2 : (next : ℕ) → next * 4611686018427387904 % 18446744073709551616 ≡ next % 4 * 2 ^ 62 + 0
top2 next = omega arith

top1_low : (next j : ℕ) → j < 63 → bit_at (next * 9223372036854775808 % 18446744073709551616) j ≡ 0
top1_low next j h = ap (λ x. bit_at x j) (top1 next) ∙ bit_at_cat_low (next % 2) 63 0 j h ∙ bit_at-zero j

top2_low : (next j : ℕ) → j < 62 → bit_at (next * 4611686018427387904 % 18446744073709551616) j ≡ 0
top2_low next j h = ap (λ x. bit_at x j) (top2 next) ∙ bit_at_cat_low (next % 4) 62 0 j h ∙ bit_at-zero j

top1_top : (next : ℕ) → bit_at (next * 9223372036854775808 % 18446744073709551616) 63 ≡ bit_at next 0
top1_top next = ap (λ x. bit_at x 63) (top1 next) ∙ bit_at_cat_high (next % 2) 63 0 63 (pow_pos 63) (omega arith) ∙ bit_at_lowest (next % 2) ∙ twice ∙ sym (bit_at_lowest next)
  where
    twice : next % 2 % 2 ≡ next % 2
    twice = omega arith

top2_first : (next : ℕ) → bit_at (next * 4611686018427387904 % 18446744073709551616) 62 ≡ bit_at next 0
top2_first next = ap (λ x. bit_at x 62) (top2 next) ∙ bit_at_cat_high (next % 4) 62 0 62 (pow_pos 62) (omega arith) ∙ bit_at_lowest (next % 4) ∙ twice ∙ sym (bit_at_lowest next)
  where
    twice : next % 4 % 2 ≡ next % 2
    twice = omega arith

bit_one : (n : ℕ) → bit_at n 1 ≡ n / 2 % 2
bit_one n = bit_at-suc n 0 ∙ bit_at_lowest (n / 2)

top2_second : (next : ℕ) → bit_at (next * 4611686018427387904 % 18446744073709551616) 63 ≡ bit_at next 1
top2_second next = ap (λ x. bit_at x 63) (top2 next) ∙ bit_at_cat_high (next % 4) 62 0 63 (pow_pos 62) (omega arith) ∙ bit_one (next % 4) ∙ twice ∙ sym (bit_one next)
  where
    twice : next % 4 / 2 % 2 ≡ next / 2 % 2
    twice = omega arith

half_half : (word j : ℕ) → bit_at (word / 4) j ≡ bit_at word (j + 2)
half_half word j =
    let e : word / 4 ≡ word / 2 / 2 = omega arith in
    let d : suc (suc j) ≡ j + 2 = omega arith in
    ap (λ x. bit_at x j) e ∙ sym (bit_at-suc (word / 2) j) ∙ sym (bit_at-suc word (suc j)) ∙ ap (bit_at word) d

lower1_is : (ws : List ℕ) (i word next : ℕ) → word ≡ get_or ws i 0 → next ≡ get_or ws (i + 1) 0 → word < 2 ^ 64 → (j : ℕ) → j < 64 → is_set (lower1 word next) j ≡ has ws (64 * i + j + 1)
unfolding is_set
lower1_is ws i word next e f s j h = by (cases_lt j 63)
  where
    by : ((j < 63) ⊎ (63 ≤ j)) → nat_eq (bit_at (lower1 word next) j) 1 ≡ has ws (64 * i + j + 1)
    by (inl l) =
        let d : suc j ≡ j + 1 = omega arith in
        let o : 64 * i + (j + 1) ≡ 64 * i + j + 1 = omega arith in
        ap (λ b. nat_eq b 1) (or_left (word / 2) _ j (top1_low next j l) ∙ sym (bit_at-suc word j) ∙ ap (bit_at word) d ∙ ap (λ x. bit_at x (j + 1)) e)
        ∙ sym (has_at ws i (j + 1) (omega arith)) ∙ ap (has ws) o
    by (inr l) =
        let d : j ≡ 63 = omega arith in
        let o : 64 * (i + 1) + 0 ≡ 64 * i + j + 1 = omega arith in
        ap (λ b. nat_eq b 1) (ap (bit_at (lower1 word next)) d ∙ or_right (word / 2) _ 63 (bit_at_above (word / 2) 63 63 (omega arith) (omega arith)) ∙ top1_top next ∙ ap (λ x. bit_at x 0) f)
        ∙ sym (has_at ws (i + 1) 0 (omega arith)) ∙ ap (has ws) o

pub lower1_at : (ws : List ℕ) (i word next : ℕ) → word ≡ get_or ws i 0 → next ≡ get_or ws (i + 1) 0 → word < 2 ^ 64 → (j : ℕ) → j < 64 → is_set (lower1 word next) j ≡ has ws (64 * i + j + 1)
lower1_at = lower1_is

pub lower2_at : (ws : List ℕ) (i word next : ℕ) → word ≡ get_or ws i 0 → next ≡ get_or ws (i + 1) 0 → word < 2 ^ 64 → (j : ℕ) → j < 64 → is_set (lower2 word next) j ≡ has ws (64 * i + j + 2)
unfolding is_set
lower2_at ws i word next e f s j h = by (cases_lt j 62) (cases_lt j 63)
  where
    gone : (k : ℕ) → 62 ≤ k → bit_at (word / 4) k ≡ 0
    gone k l = bit_at_above (word / 4) 62 k (omega arith) l

    by : ((j < 62) ⊎ (62 ≤ j)) → ((j < 63) ⊎ (63 ≤ j)) → nat_eq (bit_at (lower2 word next) j) 1 ≡ has ws (64 * i + j + 2)
    by (inl l) m =
        let o : 64 * i + (j + 2) ≡ 64 * i + j + 2 = omega arith in
        ap (λ b. nat_eq b 1) (or_left (word / 4) _ j (top2_low next j l) ∙ half_half word j ∙ ap (λ x. bit_at x (j + 2)) e)
        ∙ sym (has_at ws i (j + 2) (omega arith)) ∙ ap (has ws) o
    by (inr l) (inl m) =
        let d : j ≡ 62 = omega arith in
        let o : 64 * (i + 1) + 0 ≡ 64 * i + j + 2 = omega arith in
        ap (λ b. nat_eq b 1) (ap (bit_at (lower2 word next)) d ∙ or_right (word / 4) _ 62 (gone 62 (omega arith)) ∙ top2_first next ∙ ap (λ x. bit_at x 0) f)
        ∙ sym (has_at ws (i + 1) 0 (omega arith)) ∙ ap (has ws) o
    by (inr l) (inr m) =
        let d : j ≡ 63 = omega arith in
        let o : 64 * (i + 1) + 1 ≡ 64 * i + j + 2 = omega arith in
        ap (λ b. nat_eq b 1) (ap (bit_at (lower2 word next)) d ∙ or_right (word / 4) _ 63 (gone 63 (omega arith)) ∙ top2_second next ∙ ap (λ x. bit_at x 1) f)
        ∙ sym (has_at ws (i + 1) 1 (omega arith)) ∙ ap (has ws) o

pub lower1_small : (word next : ℕ) → word < 2 ^ 64 → lower1 word next < 2 ^ 64
lower1_small word next h = or_lt 64 (word / 2) _ (omega arith) (omega arith)

pub lower2_small : (word next : ℕ) → word < 2 ^ 64 → lower2 word next < 2 ^ 64
lower2_small word next h = or_lt 64 (word / 4) _ (omega arith) (omega arith)

-- ---- one of two by a mask
abbrev pub choice : ℕ → ℕ → ℕ → ℕ
choice mask x y = bit_or (bit_and x mask) (bit_and y (18446744073709551615 - mask))

pub choice_on : (mask x y j : ℕ) → mask < 2 ^ 64 → j < 64 → is_set mask j ≡ true → is_set (choice mask x y) j ≡ is_set x j
unfolding is_set
choice_on mask x y j s h e =
    let o : bit_at mask j ≡ 1 = set_one mask j e in
    ap (λ b. nat_eq b 1) (pick x y _ _ j o (rest_at mask j s h ∙ ap (λ n. 1 - n) o))

pub choice_off : (mask x y j : ℕ) → mask < 2 ^ 64 → j < 64 → is_set mask j ≡ false → is_set (choice mask x y) j ≡ is_set y j
unfolding is_set
choice_off mask x y j s h e =
    let o : bit_at mask j ≡ 0 = set_none mask j e in
    ap (λ b. nat_eq b 1) (pick_other x y _ _ j o (rest_at mask j s h ∙ ap (λ n. 1 - n) o))

pub choice_small : (mask x y : ℕ) → x < 2 ^ 64 → y < 2 ^ 64 → choice mask x y < 2 ^ 64
choice_small mask x y s t = or_lt 64 (bit_and x mask) (bit_and y (18446744073709551615 - mask)) (less x _ s (and_le_l x mask)) (less y _ t (and_le_l y (18446744073709551615 - mask)))
  where
    less : (x y : ℕ) → x < 2 ^ 64 → y ≤ x → y < 2 ^ 64
    less x y a b = omega arith

-- ---- a loop over the words, each d lower
pub record Lowering (d from i : ℕ) (old words : List ℕ) : Type 0 where
  pub fits : Fits8 words
  pub low_is : from ≤ i
  pub done : (k : ℕ) → from ≤ k → k < i → (j : ℕ) → j < 64 → is_set (get_or words k 0) j ≡ has old (64 * k + j + d)
  pub before : (k : ℕ) → k < from → get_or words k 0 ≡ get_or old k 0
  pub rest : (k : ℕ) → i ≤ k → get_or words k 0 ≡ get_or old k 0

pub lowering_start : (d from : ℕ) (old : List ℕ) → Fits8 old → Lowering d from from old old
lowering_start d from old f = record { fits = f; low_is = omega arith; done = λ k a b. absurd (omega arith); before = λ k a. refl; rest = λ k a. refl }

-- what stands from word i on is as it was
same_has : (old words : List ℕ) (i u : ℕ) → ((k : ℕ) → i ≤ k → get_or words k 0 ≡ get_or old k 0) → 64 * i ≤ u → has words u ≡ has old u
unfolding has
same_has old words i u f l = ap (λ x. is_set x (u % 64)) (f (u / 64) (omega arith))

pub lowering_more : (d from i x : ℕ) (old words : List ℕ) → i < 8 → x < 2 ^ 64 → ((j : ℕ) → j < 64 → is_set x j ≡ has words (64 * i + j + d)) → Lowering d from i old words → Lowering d from (i + 1) old (set words i x)
lowering_more d from i x old words h s b f = record {
  fits = put_fits words i x f.fits h s;
  low_is = (let q = f.low_is in omega arith);
  done = λ k l m. by k l m (cases_eq k i);
  before = λ k l. let n : k ≢ i = (let q = f.low_is in omega arith) in rw get_or-set_other (f.before k l);
  rest = λ k l. let n : k ≢ i = omega arith in rw get_or-set_other (f.rest k (omega arith));
}
  where
    by : (k : ℕ) → from ≤ k → k < i + 1 → ((k ≡ i) ⊎ (k ≢ i)) → (j : ℕ) → j < 64 → is_set (get_or (set words i x) k 0) j ≡ has old (64 * k + j + d)
    by k l m (inl e) j n =
        ap (λ n. is_set (get_or (set words i x) n 0) j) e ∙ ap (λ y. is_set y j) (get_or-set_same words i x 0 (omega (arith, f.fits.size))) ∙ b j n
        ∙ same_has old words i (64 * i + j + d) f.rest (omega arith) ∙ ap (λ n. has old (64 * n + j + d)) (sym e)
    by k l m (inr o) j n = rw get_or-set_other (f.done k l (omega arith) j n)

-- ---- names
pair_low : (low last w : ℕ) → low ≤ last → w < low → opened (last + 1) (opened low w) ≡ w
unfolding opened
pair_low low last w h l = grind (arith, nat_tests)

pair_mid : (low last w : ℕ) → low ≤ w → w < last → opened (last + 1) (opened low w) ≡ w + 1
unfolding opened
pair_mid low last w h l = grind (arith, nat_tests)

pair_high : (low last w : ℕ) → low ≤ last → last ≤ w → opened (last + 1) (opened low w) ≡ w + 2
unfolding opened
pair_high low last w h l = grind (arith, nat_tests)

-- ---- all words: x is what word k becomes
abbrev pub PairAt : List ℕ → ℕ → ℕ → ℕ → ℕ → Type 0
PairAt ws low last k x = (j : ℕ) → j < 64 → is_set x j ≡ has ws (opened (last + 1) (opened low (64 * k + j)))

-- the words up to place i are closed up, and the others are as they were
pub record Pairing (low last i : ℕ) (old words : List ℕ) : Type 0 where
  pub fits : Fits8 words
  pub done : (k : ℕ) → k < i → PairAt old low last k (get_or words k 0)
  pub rest : (k : ℕ) → i ≤ k → get_or words k 0 ≡ get_or old k 0

pub pairing_start : (low last : ℕ) (old : List ℕ) → low ≤ last → Fits8 old → Pairing low last (low / 64) old old
pairing_start low last old o f = record {
  fits = f;
  done = λ k h j l. sym (ap (has old) (pair_low low last (64 * k + j) o (omega arith)) ∙ has_at old k j l);
  rest = λ k h. refl;
}

-- one bit, by the three places where it may stand
place : (ws : List ℕ) (low last w : ℕ) (b : Bool) → low ≤ last → (w < low → b ≡ has ws w) → (low ≤ w → w < last → b ≡ has ws (w + 1)) → (last ≤ w → b ≡ has ws (w + 2)) → b ≡ has ws (opened (last + 1) (opened low w))
place ws low last w b o f g h = by (cases_lt w low) (cases_lt w last)
  where
    by : ((w < low) ⊎ (low ≤ w)) → ((w < last) ⊎ (last ≤ w)) → b ≡ has ws (opened (last + 1) (opened low w))
    by (inl l) m = f l ∙ sym (ap (has ws) (pair_low low last w o l))
    by (inr l) (inl m) = g l m ∙ sym (ap (has ws) (pair_mid low last w l m))
    by (inr l) (inr m) = h m ∙ sym (ap (has ws) (pair_high low last w o m))

pub pairing_set : (low last i x : ℕ) (old words : List ℕ) → low ≤ last → i < 8 → x < 2 ^ 64 → ((j : ℕ) → j < 64 → 64 * i + j < low → is_set x j ≡ is_set (get_or words i 0) j) → ((j : ℕ) → j < 64 → low ≤ 64 * i + j → 64 * i + j < last → is_set x j ≡ has words (64 * i + j + 1))
    → ((j : ℕ) → j < 64 → last ≤ 64 * i + j → is_set x j ≡ has words (64 * i + j + 2)) → Pairing low last i old words → Pairing low last (i + 1) old (set words i x)
pairing_set low last i x old words o h s a b c f = record {
  fits = put_fits words i x f.fits h s;
  done = λ k l. by k l (cases_eq k i);
  rest = λ k l. let n : k ≢ i = omega arith in rw get_or-set_other (f.rest k (omega arith));
}
  where
    new : PairAt old low last i x
    new j l = place old low last (64 * i + j) (is_set x j) o
        (λ m. a j l m ∙ sym (has_at words i j l) ∙ same_has old words i (64 * i + j) f.rest (omega arith))
        (λ m n. b j l m n ∙ same_has old words i (64 * i + j + 1) f.rest (omega arith))
        (λ m. c j l m ∙ same_has old words i (64 * i + j + 2) f.rest (omega arith))

    by : (k : ℕ) → k < i + 1 → ((k ≡ i) ⊎ (k ≢ i)) → PairAt old low last k (get_or (set words i x) k 0)
    by k l (inl e) = λ j m.
        ap (λ n. is_set (get_or (set words i x) n 0) j) e ∙ ap (λ y. is_set y j) (get_or-set_same words i x 0 (omega (arith, f.fits.size))) ∙ new j m
        ∙ ap (λ n. has old (opened (last + 1) (opened low (64 * n + j)))) (sym e)
    by k l (inr d) = λ j m. rw get_or-set_other (f.done k (omega arith) j m)

pub pairing_once : (low last from to : ℕ) (old words new : List ℕ) → low ≤ 64 * from → 64 * to ≤ last → Fits8 new
    → ((k : ℕ) → from ≤ k → k < to → (j : ℕ) → j < 64 → is_set (get_or new k 0) j ≡ has words (64 * k + j + 1)) → ((k : ℕ) → k < from → get_or new k 0 ≡ get_or words k 0) → ((k : ℕ) → to ≤ k → get_or new k 0 ≡ get_or words k 0)
    → from ≤ to → Pairing low last from old words → Pairing low last to old new
pairing_once low last from to old words new a b g bits before behind o f = record {
  fits = g;
  done = λ k l. by k l (cases_lt k from);
  rest = λ k l. behind k l ∙ f.rest k (omega arith);
}
  where
    by : (k : ℕ) → k < to → ((k < from) ⊎ (from ≤ k)) → PairAt old low last k (get_or new k 0)
    by k l (inl m) = λ j n. ap (λ x. is_set x j) (before k m) ∙ f.done k m j n
    by k l (inr m) = λ j n.
        bits k m l j n ∙ same_has old words from (64 * k + j + 1) f.rest (omega arith) ∙ sym (ap (has old) (pair_mid low last (64 * k + j) (omega arith) (omega arith)))

pub pairing_twice : (low last from to : ℕ) (old words new : List ℕ) → low ≤ last → last ≤ 64 * from → Fits8 new
    → ((k : ℕ) → from ≤ k → k < to → (j : ℕ) → j < 64 → is_set (get_or new k 0) j ≡ has words (64 * k + j + 2)) → ((k : ℕ) → k < from → get_or new k 0 ≡ get_or words k 0) → ((k : ℕ) → to ≤ k → get_or new k 0 ≡ get_or words k 0)
    → from ≤ to → Pairing low last from old words → Pairing low last to old new
pairing_twice low last from to old words new a b g bits before behind o f = record {
  fits = g;
  done = λ k l. by k l (cases_lt k from);
  rest = λ k l. behind k l ∙ f.rest k (omega arith);
}
  where
    by : (k : ℕ) → k < to → ((k < from) ⊎ (from ≤ k)) → PairAt old low last k (get_or new k 0)
    by k l (inl m) = λ j n. ap (λ x. is_set x j) (before k m) ∙ f.done k m j n
    by k l (inr m) = λ j n.
        bits k m l j n ∙ same_has old words from (64 * k + j + 2) f.rest (omega arith) ∙ sym (ap (has old) (pair_high low last (64 * k + j) a (omega arith)))

pair_all : (ws out : List ℕ) (low last : ℕ) → ((k : ℕ) → k < 8 → PairAt ws low last k (get_or out k 0)) → (w : ℕ) → w < 512 → has out w ≡ has ws (opened (last + 1) (opened low w))
pair_all ws out low last h w l =
    let e : w ≡ 64 * (w / 64) + w % 64 = omega arith in
    ap (has out) e ∙ has_at out (w / 64) (w % 64) (omega arith) ∙ h (w / 64) (omega arith) (w % 64) (omega arith) ∙ ap (λ n. has ws (opened (last + 1) (opened low n))) (sym e)

pub pairing_end : (low last used : ℕ) (old words : List ℕ) → low ≤ last → last < 64 * used → ((k : ℕ) → used ≤ k → get_or old k 0 ≡ 0) → Pairing low last used old words → (w : ℕ) → w < 512 → has words w ≡ has old (opened (last + 1) (opened low w))
pairing_end low last used old words o h z f = pair_all old words low last (λ k m. by k (cases_lt k used))
  where
    by : (k : ℕ) → ((k < used) ⊎ (used ≤ k)) → PairAt old low last k (get_or words k 0)
    by k (inl a) = f.done k a
    by k (inr a) = λ j m. is_set_zero _ j (f.rest k a ∙ z k a) ∙ sym (none_past old used _ z (omega (arith, pair_high low last (64 * k + j) o (omega arith))))

-- ---- the set
pub pair_stands : (ws out m : List ℕ) (low last : ℕ) → Fits8 ws → vars ws ≡ m → low ≤ last → last < 511 → ((w : ℕ) → w < 512 → has out w ≡ has ws (opened (last + 1) (opened low w))) → (w : ℕ) → stands w (vars out) ≡ stands (opened (last + 1) (opened low w)) m
pair_stands ws out m low last f e o h bits w = by (cases_lt w 510) (cases_lt w 512)
  where
    old : ℕ
    old = opened (last + 1) (opened low w)

    far : 512 ≤ opened (last + 1) (opened low w) → stands (opened (last + 1) (opened low w)) m ≡ false
    far l = ap (stands (opened (last + 1) (opened low w))) (sym e) ∙ stands_not ws (opened (last + 1) (opened low w)) l

    high : 510 ≤ w → opened (last + 1) (opened low w) ≡ w + 2
    high l = pair_high low last w o (omega arith)

    by : ((w < 510) ⊎ (510 ≤ w)) → ((w < 512) ⊎ (512 ≤ w)) → stands w (vars out) ≡ stands (opened (last + 1) (opened low w)) m
    by (inl l) n = stands_vars out w (omega arith) ∙ bits w (omega arith) ∙ sym (stands_vars ws (opened (last + 1) (opened low w)) (small (cases_lt w low) (cases_lt w last))) ∙ ap (stands (opened (last + 1) (opened low w))) e
      where
        small : ((w < low) ⊎ (low ≤ w)) → ((w < last) ⊎ (last ≤ w)) → opened (last + 1) (opened low w) < 512
        small (inl a) b = omega (arith, pair_low low last w o a)
        small (inr a) (inl b) = omega (arith, pair_mid low last w a b)
        small (inr a) (inr b) = omega (arith, pair_high low last w o b)
    by (inr l) (inl n) = stands_vars out w n ∙ bits w n ∙ past_end ws (opened (last + 1) (opened low w)) f (omega (arith, high l)) (omega (arith, high l)) ∙ sym (far (omega (arith, high l)))
    by (inr l) (inr n) = stands_not out w n ∙ sym (far (omega (arith, high l)))

-- ---- as many as before
pub pair_counted : (ws out m : List ℕ) (degree low last : ℕ) → IsCounted ws degree → vars ws ≡ m → low ≤ last → last < 511 → stands low m ≡ false → stands (last + 1) m ≡ false → Fits8 out → ((w : ℕ) → w < 512 → has out w ≡ has ws (opened (last + 1) (opened low w))) → IsCounted out degree
unfolding vars
pair_counted ws out m degree low last c e l h fl fh o bits = record {
  fits = o;
  counted = c.counted ∙ one ∙ two;
}
  where
    mid : ℕ → Bool
    mid u = has ws (opened (last + 1) u)

    none : (v : ℕ) → v < 512 → stands v m ≡ false → has ws v ≡ false
    none v a f = sym (stands_vars ws v a) ∙ ap (stands v) e ∙ f

    one : length (members (has ws) 0 512) ≡ length (members (λ u. has ws (opened (last + 1) u)) 0 512)
    one = close_count (has ws) (λ u. has ws (opened (last + 1) u)) 0 511 (last + 1) (omega arith) (omega arith) (none (last + 1) (omega arith) fh) (λ w a. ap (has ws) (opened_low (last + 1) w a)) (λ w a b. ap (has ws) (opened_high (last + 1) w b))
        ∙ sym (last_off (λ u. has ws (opened (last + 1) u)) (ap (has ws) (opened_high (last + 1) 511 (omega arith)) ∙ past_end ws 512 c.fits (omega arith) (omega arith)))

    two : length (members (λ u. has ws (opened (last + 1) u)) 0 512) ≡ length (members (has out) 0 512)
    two = close_count (λ u. has ws (opened (last + 1) u)) (has out) 0 511 low (omega arith) (omega arith) (ap (has ws) (opened_low (last + 1) low (omega arith)) ∙ none low (omega arith) fl)
        (λ w a. bits w (omega arith) ∙ ap (λ u. has ws (opened (last + 1) u)) (opened_low low w a)) (λ w a b. bits w (omega arith) ∙ ap (λ u. has ws (opened (last + 1) u)) (opened_high low w b))
        ∙ sym (last_off (has out) (bits 511 (omega arith) ∙ ap (has ws) (pair_high low last 511 l (omega arith)) ∙ past_end ws 513 c.fits (omega arith) (omega arith)))

-- ---- words by masks
abbrev pub MaskAt : ℕ → ℕ → ℕ → Type 0
MaskAt v k x = (j : ℕ) → j < 64 → is_set x j ≡ nat_lt (64 * k + j) v

-- x is that of the first where the mask has ones, and else that of the second
pub record Chosen (mask x first second : ℕ) : Type 0 where
  pub on : (j : ℕ) → j < 64 → is_set mask j ≡ true → is_set x j ≡ is_set first j
  pub off : (j : ℕ) → j < 64 → is_set mask j ≡ false → is_set x j ≡ is_set second j

abbrev pub LowerAt : List ℕ → ℕ → ℕ → ℕ → Type 0
LowerAt words d i x = (j : ℕ) → j < 64 → is_set x j ≡ has words (64 * i + j + d)

-- both stand in the same word
pub pairing_near : (low last i kept once x moved one two : ℕ) (old words : List ℕ) → low ≤ last → i < 8 → x < 2 ^ 64 → MaskAt low i kept → MaskAt last i once → Chosen kept x (get_or words i 0) moved → Chosen once moved one two → LowerAt words 1 i one → LowerAt words 2 i two
    → Pairing low last i old words → Pairing low last (i + 1) old (set words i x)
pairing_near low last i kept once x moved one two old words o h s k n a b f g p = pairing_set low last i x old words o h s
    (λ j l m. a.on j l (k j l ∙ is_below low (64 * i + j) m))
    (λ j l m r. a.off j l (k j l ∙ not_below low (64 * i + j) m) ∙ b.on j l (n j l ∙ is_below last (64 * i + j) r) ∙ f j l)
    (λ j l m. a.off j l (k j l ∙ not_below low (64 * i + j) (omega arith)) ∙ b.off j l (n j l ∙ not_below last (64 * i + j) m) ∙ g j l) p

-- the word of the low one, before that of the other
pub pairing_first : (low last i kept x one : ℕ) (old words : List ℕ) → low ≤ last → i < 8 → x < 2 ^ 64 → 64 * i + 64 ≤ last → MaskAt low i kept → Chosen kept x (get_or words i 0) one → LowerAt words 1 i one → Pairing low last i old words → Pairing low last (i + 1) old (set words i x)
pairing_first low last i kept x one old words o h s far k a f p = pairing_set low last i x old words o h s
    (λ j l m. a.on j l (k j l ∙ is_below low (64 * i + j) m))
    (λ j l m r. a.off j l (k j l ∙ not_below low (64 * i + j) m) ∙ f j l)
    (λ j l m. absurd (omega arith)) p

-- the word of the high one, behind that of the other
pub pairing_second : (low last i once x one two : ℕ) (old words : List ℕ) → low ≤ last → i < 8 → x < 2 ^ 64 → low ≤ 64 * i → MaskAt last i once → Chosen once x one two → LowerAt words 1 i one → LowerAt words 2 i two → Pairing low last i old words → Pairing low last (i + 1) old (set words i x)
pairing_second low last i once x one two old words o h s far n b f g p = pairing_set low last i x old words o h s
    (λ j l m. absurd (omega arith))
    (λ j l m r. b.on j l (n j l ∙ is_below last (64 * i + j) r) ∙ f j l)
    (λ j l m. b.off j l (n j l ∙ not_below last (64 * i + j) m) ∙ g j l) p

-- ---- three variables
or_none : (p : Bool) → (p || false) ≡ p
or_none true = refl
or_none false = refl

or_three : (p q r : Bool) → ((p || q) || r) ≡ (p || (q || r))
or_three true q r = refl
or_three false q r = refl

alone : (w v : ℕ) (m : List ℕ) → m ≡ v ∷ [] → stands w m ≡ nat_eq w v
unfolding stands
alone w v m e = ap (stands w) e ∙ or_none (nat_eq w v)

pub three_made : (w a b c : ℕ) (one two three both all : List ℕ) → one ≡ a ∷ [] → two ≡ b ∷ [] → three ≡ c ∷ [] → stands w both ≡ (stands w one || stands w two) → stands w all ≡ (stands w both || stands w three) → stands w all ≡ (nat_eq w a || (nat_eq w b || nat_eq w c))
three_made w a b c one two three both all e f g h k =
    k ∙ ap (λ p. p || stands w three) h ∙ or_three (stands w one) (stands w two) (stands w three) ∙ ap (λ p. p || (stands w two || stands w three)) (alone w a one e)
    ∙ ap (λ p. nat_eq w a || (p || stands w three)) (alone w b two f) ∙ ap (λ p. nat_eq w a || (nat_eq w b || p)) (alone w c three g)
