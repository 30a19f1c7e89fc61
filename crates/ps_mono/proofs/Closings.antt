-- Names that close up, by words.
use Rattle.std.proofs.Common.{◌≡◌, ◌≢◌, ℕ, zero, suc, ◌+◌, ◌-◌, ◌*◌, ◌/◌, ◌%◌, ◌^◌, refl, ap, sym, ◌∙◌, arith, ◌<◌, ◌≤◌, Bool, true, false, nat_eq, nat_lt, List, [], length, set, get_or, length-append, ◌⊎◌, inl, inr, bit_and, bit_or, w64}
use Rattle.std.proofs.lemmas.Bool.{cases_lt, cases_eq}
use Rattle.std.proofs.lemmas.Bool.Decides.{nat_tests}
use Rattle.std.specs.Int.{bit_at}
use Rattle.std.proofs.lemmas.Nat.{and_le_l, one_shl, or_lt, pow_pos}
use Rattle.std.proofs.lemmas.Nat.Bits.{bit_at_and, bit_at_or, bit_at_not, bit_at-lt, bit_at-suc, bit_at-zero, bit_at_lowest, bit_at_above, bit_at_ones, bit_at_ones_above, bit_at_cat_low, bit_at_cat_high}
use Rattle.std.proofs.lemmas.List.{get_or-set_same, get_or-set_other, get_or_past}
use Rattle.ps_mono.specs.Sets.{is_set, has, put, members, vars, stands, digit, number, Fits8, IsCounted}
use Rattle.ps_mono.specs.Names.{opened}
use Rattle.ps_mono.specs.Lists.{members_split}
use Rattle.ps_mono.specs.Words.{has_at, number_is}
use Rattle.ps_mono.proofs.Calls.{stands_vars, stands_not}
use Rattle.ps_mono.proofs.Counts.{put_fits, length_put, digit_off}

-- ---- one word
abbrev pub closed_bits : ℕ → ℕ → ℕ → ℕ
closed_bits word next kept = bit_or (bit_and word kept) (bit_and (bit_or (word / 2) (next * 9223372036854775808 % 18446744073709551616)) (18446744073709551615 - kept))

pub pick : (x y m n j : ℕ) → bit_at m j ≡ 1 → bit_at n j ≡ 0 → bit_at (bit_or (bit_and x m) (bit_and y n)) j ≡ bit_at x j
pick x y m n j a b = omega (arith, bit_at_or (bit_and x m) (bit_and y n) j, bit_at_and x m j, bit_at_and y n j, bit_at-lt x j)

pub pick_other : (x y m n j : ℕ) → bit_at m j ≡ 0 → bit_at n j ≡ 1 → bit_at (bit_or (bit_and x m) (bit_and y n)) j ≡ bit_at y j
pick_other x y m n j a b = omega (arith, bit_at_or (bit_and x m) (bit_and y n) j, bit_at_and x m j, bit_at_and y n j, bit_at-lt y j)

pub rest_at : (m j : ℕ) → m < 2 ^ 64 → j < 64 → bit_at (18446744073709551615 - m) j ≡ 1 - bit_at m j
rest_at m j h l = bit_at_not w64 m j h l

-- what a bit is
is_one : (b : ℕ) → nat_eq b 1 ≡ true → b ≡ 1
is_one b e = grind (arith, nat_tests)

is_none : (b : ℕ) → b < 2 → nat_eq b 1 ≡ false → b ≡ 0
is_none zero h e = refl
is_none (suc zero) h e = cc
is_none (suc (suc b)) h e = absurd (omega arith)

pub set_one : (x j : ℕ) → is_set x j ≡ true → bit_at x j ≡ 1
unfolding is_set
set_one x j e = is_one (bit_at x j) e

pub set_none : (x j : ℕ) → is_set x j ≡ false → bit_at x j ≡ 0
unfolding is_set
set_none x j e = is_none (bit_at x j) (bit_at-lt x j) e

pub top_is : (next : ℕ) → next * 9223372036854775808 % 18446744073709551616 ≡ next % 2 * 2 ^ 63 + 0
top_is next = omega arith

top_low : (next j : ℕ) → j < 63 → bit_at (next * 9223372036854775808 % 18446744073709551616) j ≡ 0
top_low next j h = ap (λ x. bit_at x j) (top_is next) ∙ bit_at_cat_low (next % 2) 63 0 j h ∙ bit_at-zero j

top_top : (next : ℕ) → bit_at (next * 9223372036854775808 % 18446744073709551616) 63 ≡ next % 2
top_top next = ap (λ x. bit_at x 63) (top_is next) ∙ bit_at_cat_high (next % 2) 63 0 63 (pow_pos 63) (omega arith) ∙ bit_at_lowest (next % 2) ∙ twice
  where
    twice : next % 2 % 2 ≡ next % 2
    twice = omega arith

pub or_left : (x y j : ℕ) → bit_at y j ≡ 0 → bit_at (bit_or x y) j ≡ bit_at x j
or_left x y j h = omega (arith, bit_at_or x y j, bit_at-lt x j)

pub or_right : (x y j : ℕ) → bit_at x j ≡ 0 → bit_at (bit_or x y) j ≡ bit_at y j
or_right x y j h = omega (arith, bit_at_or x y j, bit_at-lt y j)

pub bits_below : (word next kept j : ℕ) → kept < 2 ^ 64 → j < 64 → is_set kept j ≡ true → is_set (closed_bits word next kept) j ≡ is_set word j
unfolding is_set
bits_below word next kept j s h e =
    let o : bit_at kept j ≡ 1 = set_one kept j e in
    ap (λ b. nat_eq b 1) (pick word _ _ _ j o (rest_at kept j s h ∙ ap (λ x. 1 - x) o))

pub bits_above : (word next kept j : ℕ) → kept < 2 ^ 64 → j < 63 → is_set kept j ≡ false → is_set (closed_bits word next kept) j ≡ is_set word (j + 1)
unfolding is_set
bits_above word next kept j s k e =
    let d : suc j ≡ j + 1 = omega arith in
    let o : bit_at kept j ≡ 0 = set_none kept j e in
    ap (λ b. nat_eq b 1)
    (pick_other word _ _ _ j o (rest_at kept j s (omega arith) ∙ ap (λ x. 1 - x) o) ∙ or_left (word / 2) _ j (top_low next j k) ∙ sym (bit_at-suc word j) ∙ ap (bit_at word) d)

pub bits_top : (word next kept : ℕ) → kept < 2 ^ 64 → word < 2 ^ 64 → is_set kept 63 ≡ false → is_set (closed_bits word next kept) 63 ≡ is_set next 0
unfolding is_set
bits_top word next kept s w e =
    let half : bit_at (word / 2) 63 ≡ 0 = bit_at_above (word / 2) 63 63 (omega arith) (omega arith) in
    let o : bit_at kept 63 ≡ 0 = set_none kept 63 e in
    ap (λ b. nat_eq b 1)
    (pick_other word _ _ _ 63 o (rest_at kept 63 s (omega arith) ∙ ap (λ x. 1 - x) o) ∙ or_right (word / 2) _ 63 half ∙ top_top next ∙ sym (bit_at_lowest next))

pub bits_small : (word next kept : ℕ) → word < 2 ^ 64 → closed_bits word next kept < 2 ^ 64
bits_small word next kept s =
    let t : ℕ = next * 9223372036854775808 % 18446744073709551616 in
    both (bit_and word kept) (bit_and (bit_or (word / 2) t) (18446744073709551615 - kept))
    (less word (bit_and word kept) s (and_le_l word kept))
    (less (bit_or (word / 2) t) (bit_and (bit_or (word / 2) t) (18446744073709551615 - kept)) (or_lt 64 (word / 2) t (omega arith) (omega arith)) (and_le_l (bit_or (word / 2) t) (18446744073709551615 - kept)))
  where
    less : (x y : ℕ) → x < 2 ^ 64 → y ≤ x → y < 2 ^ 64
    less x y a b = omega arith

    both : (x y : ℕ) → x < 2 ^ 64 → y < 2 ^ 64 → bit_or x y < 2 ^ 64
    both x y a b = or_lt 64 x y a b

-- ---- the bits below a variable
pub not_below : (v x : ℕ) → v ≤ x → nat_lt x v ≡ false
not_below v x h = grind (arith, nat_tests)

pub is_below : (v x : ℕ) → x < v → nat_lt x v ≡ true
is_below v x h = grind (arith, nat_tests)

pub none_below : (v start j : ℕ) → v ≤ start → is_set 0 j ≡ nat_lt (start + j) v
unfolding is_set
none_below v start j h = ap (λ b. nat_eq b 1) (bit_at-zero j) ∙ sym (not_below v (start + j) (omega arith))

pub all_below : (v start j : ℕ) → j < 64 → start < v → 64 ≤ v - start → is_set 18446744073709551615 j ≡ nat_lt (start + j) v
unfolding is_set
all_below v start j h k l = ap (λ b. nat_eq b 1) (bit_at_ones 64 j h) ∙ sym (is_below v (start + j) (omega arith))

pub some_below : (v start j : ℕ) → j < 64 → start < v → v - start < 64 → is_set (1 * 2 ^ (v - start) % 18446744073709551616 - 1) j ≡ nat_lt (start + j) v
unfolding is_set
some_below v start j h k l = ap (λ b. nat_eq b 1) (ap (λ x. bit_at (x - 1) j) (one_shl (v - start) 64 l)) ∙ by (cases_lt j (v - start))
  where
    by : ((j < v - start) ⊎ (v - start ≤ j)) → nat_eq (bit_at (2 ^ (v - start) - 1) j) 1 ≡ nat_lt (start + j) v
    by (inl a) = ap (λ b. nat_eq b 1) (bit_at_ones (v - start) j a) ∙ sym (is_below v (start + j) (omega arith))
    by (inr a) = ap (λ b. nat_eq b 1) (bit_at_ones_above (v - start) j a) ∙ sym (not_below v (start + j) (omega arith))

-- ---- x is the word at place k of the bits below v
abbrev pub BelowAt : ℕ → ℕ → ℕ → Type 0
BelowAt v k x = (j : ℕ) → j < 64 → is_set x j ≡ nat_lt (64 * k + j) v

-- ---- names
pub opened_low : (v w : ℕ) → w < v → opened v w ≡ w
unfolding opened
opened_low v w h = grind (arith, nat_tests)

pub opened_high : (v w : ℕ) → v ≤ w → opened v w ≡ suc w
unfolding opened
opened_high v w h = grind (arith, nat_tests)

-- ---- all words: x is what word k becomes
abbrev pub ClosedAt : List ℕ → ℕ → ℕ → ℕ → Type 0
ClosedAt ws v k x = (j : ℕ) → j < 64 → is_set x j ≡ has ws (opened v (64 * k + j))

closed_at : (ws : List ℕ) (v k kept x : ℕ) → BelowAt v k kept → ((j : ℕ) → j < 64 → is_set kept j ≡ true → is_set x j ≡ is_set (get_or ws k 0) j) → ((j : ℕ) → j < 63 → is_set kept j ≡ false → is_set x j ≡ is_set (get_or ws k 0) (j + 1))
    → (is_set kept 63 ≡ false → is_set x 63 ≡ is_set (get_or ws (k + 1) 0) 0) → ClosedAt ws v k x
closed_at ws v k kept x b low high top j l = by (cases_lt (64 * k + j) v) (cases_lt j 63)
  where
    by : ((64 * k + j < v) ⊎ (v ≤ 64 * k + j)) → ((j < 63) ⊎ (63 ≤ j)) → is_set x j ≡ has ws (opened v (64 * k + j))
    by (inl a) n = low j l (b j l ∙ is_below v (64 * k + j) a) ∙ sym (ap (has ws) (opened_low v (64 * k + j) a) ∙ has_at ws k j l)
    by (inr a) (inl n) =
        let e : suc (64 * k + j) ≡ 64 * k + (j + 1) = omega arith in
        high j n (b j l ∙ not_below v (64 * k + j) a) ∙ sym (ap (has ws) (opened_high v (64 * k + j) a ∙ e) ∙ has_at ws k (j + 1) (omega arith))
    by (inr a) (inr n) =
        let d : j ≡ 63 = omega arith in
        let e : suc (64 * k + j) ≡ 64 * (k + 1) + 0 = omega arith in
        let o : v ≤ 64 * k + 63 = omega arith in
        ap (is_set x) d ∙ top (b 63 (omega arith) ∙ not_below v (64 * k + 63) o) ∙ sym (ap (has ws) (opened_high v (64 * k + j) a ∙ e) ∙ has_at ws (k + 1) 0 (omega arith))

-- the words up to place i are closed up, and the others are as they were
pub record Shifting (v i : ℕ) (old words : List ℕ) : Type 0 where
  pub fits : Fits8 words
  pub done : (k : ℕ) → k < i → ClosedAt old v k (get_or words k 0)
  pub rest : (k : ℕ) → i ≤ k → get_or words k 0 ≡ get_or old k 0

pub shift_start : (v : ℕ) (old : List ℕ) → Fits8 old → Shifting v (v / 64) old old
shift_start v old f = record {
  fits = f;
  done = λ k h j l. sym (ap (has old) (opened_low v (64 * k + j) (omega arith)) ∙ has_at old k j l);
  rest = λ k h. refl;
}

pub shift_more : (v i kept x : ℕ) (old words : List ℕ) → i < 8 → x < 2 ^ 64 → BelowAt v i kept → ((j : ℕ) → j < 64 → is_set kept j ≡ true → is_set x j ≡ is_set (get_or words i 0) j) → ((j : ℕ) → j < 63 → is_set kept j ≡ false → is_set x j ≡ is_set (get_or words i 0) (j + 1))
    → (is_set kept 63 ≡ false → is_set x 63 ≡ is_set (get_or words (i + 1) 0) 0) → Shifting v i old words → Shifting v (i + 1) old (set words i x)
shift_more v i kept x old words h s b low high top f = record {
  fits = put_fits words i x f.fits h s;
  done = λ k l. by k l (cases_eq k i);
  rest = λ k l. let d : k ≢ i = omega arith in rw get_or-set_other (f.rest k (omega arith));
}
  where
    here : get_or words i 0 ≡ get_or old i 0
    here = f.rest i (omega arith)

    next : get_or words (i + 1) 0 ≡ get_or old (i + 1) 0
    next = f.rest (i + 1) (omega arith)

    new : ClosedAt old v i x
    new = closed_at old v i kept x b (λ j m e. low j m e ∙ ap (λ y. is_set y j) here) (λ j m e. high j m e ∙ ap (λ y. is_set y (j + 1)) here) (λ e. top e ∙ ap (λ y. is_set y 0) next)

    by : (k : ℕ) → k < i + 1 → ((k ≡ i) ⊎ (k ≢ i)) → ClosedAt old v k (get_or (set words i x) k 0)
    by k l (inl e) = λ j m.
        ap (λ n. is_set (get_or (set words i x) n 0) j) e ∙ ap (λ y. is_set y j) (get_or-set_same words i x 0 (omega (arith, f.fits.size))) ∙ new j m
        ∙ ap (λ n. has old (opened v (64 * n + j))) (sym e)
    by k l (inr d) = λ j m. rw get_or-set_other (f.done k (omega arith) j m)

closed_all : (ws out : List ℕ) (v : ℕ) → ((k : ℕ) → k < 8 → ClosedAt ws v k (get_or out k 0)) → (w : ℕ) → w < 512 → has out w ≡ has ws (opened v w)
closed_all ws out v h w l =
    let e : w ≡ 64 * (w / 64) + w % 64 = omega arith in
    ap (has out) e ∙ has_at out (w / 64) (w % 64) (omega arith) ∙ h (w / 64) (omega arith) (w % 64) (omega arith) ∙ ap (λ n. has ws (opened v n)) (sym e)

pub is_set_zero : (x i : ℕ) → x ≡ 0 → is_set x i ≡ false
unfolding is_set
is_set_zero x i h = ap (λ y. nat_eq (bit_at y i) 1) h ∙ ap (λ b. nat_eq b 1) (bit_at-zero i)

-- no bit in the words that are 0
pub none_past : (ws : List ℕ) (used u : ℕ) → ((k : ℕ) → used ≤ k → get_or ws k 0 ≡ 0) → 64 * used ≤ u → has ws u ≡ false
unfolding has
none_past ws used u h l = is_set_zero _ (u % 64) (h (u / 64) (omega arith))

pub shift_end : (v i used : ℕ) (old words : List ℕ) → v < 64 * used → used ≤ i → ((k : ℕ) → used ≤ k → get_or old k 0 ≡ 0) → Shifting v i old words → (w : ℕ) → w < 512 → has words w ≡ has old (opened v w)
shift_end v i used old words h l z f = closed_all old words v (λ k m. by k (cases_lt k i))
  where
    by : (k : ℕ) → ((k < i) ⊎ (i ≤ k)) → ClosedAt old v k (get_or words k 0)
    by k (inl a) = f.done k a
    by k (inr a) = λ j m. is_set_zero _ j (f.rest k a ∙ z k (omega arith)) ∙ sym (none_past old used _ z (omega (arith, opened_high v (64 * k + j) (omega arith))))

number_none : (i n : ℕ) → number (λ j. false) i n ≡ 0
unfolding number digit
number_none i zero = refl
number_none i (suc n) = omega (arith, number_none (suc i) n)

-- no variable from `names` on, so no bit in the words above
pub empty_past : (ws m : List ℕ) (names used k : ℕ) → Fits8 ws → vars ws ≡ m → ((w : ℕ) → names ≤ w → stands w m ≡ false) → names ≤ 64 * used → used ≤ k → get_or ws k 0 ≡ 0
empty_past ws m names used k f e h l n = by (cases_lt k 8)
  where
    off_at : k < 8 → (j : ℕ) → j < 64 → false ≡ is_set (get_or ws k 0) j
    off_at a j b = sym (sym (has_at ws k j b) ∙ sym (stands_vars ws (64 * k + j) (omega arith)) ∙ ap (stands (64 * k + j)) e ∙ h (64 * k + j) (omega arith))

    by : ((k < 8) ⊎ (8 ≤ k)) → get_or ws k 0 ≡ 0
    by (inl a) = sym (number_is (λ j. false) 0 64 (get_or ws k 0) (f.small k) (off_at a)) ∙ number_none 0 64
    by (inr a) = get_or_past ws k 0 (omega (arith, f.size))

-- ---- the set
pub past_end : (ws : List ℕ) (w : ℕ) → Fits8 ws → 512 ≤ w → w < 576 → has ws w ≡ false
past_end ws w f h l =
    let e : w ≡ 64 * 8 + (w - 512) = omega arith in
    ap (has ws) e ∙ has_at ws 8 (w - 512) (omega arith) ∙ is_set_zero _ (w - 512) (get_or_past ws 8 0 (omega (arith, f.size)))

pub closed_stands : (ws out m : List ℕ) (v : ℕ) → Fits8 ws → vars ws ≡ m → v < 512 → ((w : ℕ) → w < 512 → has out w ≡ has ws (opened v w)) → (w : ℕ) → stands w (vars out) ≡ stands (opened v w) m
closed_stands ws out m v f e h bits w = by (cases_lt w 511) (cases_lt w 512) (cases_lt w v)
  where
    far : 512 ≤ opened v w → stands (opened v w) m ≡ false
    far l = ap (stands (opened v w)) (sym e) ∙ stands_not ws (opened v w) l

    near : w < 512 → opened v w < 512 → stands w (vars out) ≡ stands (opened v w) m
    near l n = stands_vars out w l ∙ bits w l ∙ sym (stands_vars ws (opened v w) n) ∙ ap (stands (opened v w)) e

    by : ((w < 511) ⊎ (511 ≤ w)) → ((w < 512) ⊎ (512 ≤ w)) → ((w < v) ⊎ (v ≤ w)) → stands w (vars out) ≡ stands (opened v w) m
    by (inl l) n (inl k) = near (omega arith) (omega (arith, opened_low v w k))
    by (inl l) n (inr k) = near (omega arith) (omega (arith, opened_high v w k))
    by (inr l) n (inl k) = absurd (omega arith)
    by (inr l) (inl n) (inr k) =
        stands_vars out w n ∙ bits w n ∙ past_end ws (opened v w) f (omega (arith, opened_high v w k)) (omega (arith, opened_high v w k)) ∙ sym (far (omega (arith, opened_high v w k)))
    by (inr l) (inr n) (inr k) = stands_not out w n ∙ sym (far (omega (arith, opened_high v w k)))

-- ---- as many as before
shift_count : (p q : ℕ → Bool) (lo n : ℕ) → ((w : ℕ) → lo ≤ w → w < lo + n → q w ≡ p (suc w)) → length (members p (suc lo) n) ≡ length (members q lo n)
unfolding members
shift_count p q lo zero h = refl
shift_count p q lo (suc n) h =
    omega (arith, length_put (p (suc lo)) (suc lo) (members p (suc (suc lo)) n), length_put (q lo) lo (members q (suc lo) n), ap digit (h lo (omega arith) (omega arith)), shift_count p q (suc lo) n (λ w a b. h w (omega arith) (omega arith)))

count_here : (p q : ℕ → Bool) (lo n : ℕ) → p lo ≡ false → ((w : ℕ) → lo ≤ w → w < lo + n → q w ≡ p (suc w)) → length (put (p lo) lo (members p (suc lo) n)) ≡ length (members q lo n)
count_here p q lo n f h = omega (arith, length_put (p lo) lo (members p (suc lo) n), digit_off (p lo) f, shift_count p q lo n h)

more_members : (p : ℕ → Bool) (lo n : ℕ) → length (members p lo (suc n)) ≡ length (put (p lo) lo (members p (suc lo) n))
unfolding members
more_members p lo n = refl

no_members : (p : ℕ → Bool) (lo : ℕ) → members p lo 0 ≡ []
unfolding members
no_members p lo = refl

pub close_count : (p q : ℕ → Bool) (lo n v : ℕ) → lo ≤ v → v ≤ lo + n → p v ≡ false → ((w : ℕ) → w < v → q w ≡ p w) → ((w : ℕ) → w < lo + n → v ≤ w → q w ≡ p (suc w)) → length (members p lo (suc n)) ≡ length (members q lo n)
close_count p q lo zero v h k f a b = let e : lo ≡ v = omega arith in more_members p lo zero ∙ count_here p q lo zero (ap p e ∙ f) (λ w l m. absurd (omega arith))
close_count p q lo (suc n) v h k f a b = by (cases_lt lo v) (λ l. close_count p q (suc lo) n v l (omega arith) f a (λ w m o. b w (omega arith) o))
  where
    by : ((lo < v) ⊎ (v ≤ lo)) → (lo < v → length (members p (suc lo) (suc n)) ≡ length (members q (suc lo) n)) → length (members p lo (suc (suc n))) ≡ length (members q lo (suc n))
    by (inl l) r = omega (arith, more_members p lo (suc n), more_members q lo n, length_put (p lo) lo (members p (suc lo) (suc n)), length_put (q lo) lo (members q (suc lo) n), ap digit (a lo l), r l)
    by (inr l) r = let e : lo ≡ v = omega arith in more_members p lo (suc n) ∙ count_here p q lo (suc n) (ap p e ∙ f) (λ w x y. b w y (omega arith))

pub last_off : (q : ℕ → Bool) → q 511 ≡ false → length (members q 0 512) ≡ length (members q 0 511)
last_off q h = omega (arith, ap (λ (m : List ℕ). length m) (members_split q 0 511 1), length-append (members q 0 511) (members q 511 1), more_members q 511 0, ap (λ (m : List ℕ). length (put (q 511) 511 m)) (no_members q 512), length_put (q 511) 511 [], digit_off (q 511) h)

pub closed_counted : (ws out m : List ℕ) (degree v : ℕ) → IsCounted ws degree → vars ws ≡ m → v < 512 → stands v m ≡ false → Fits8 out → ((w : ℕ) → w < 512 → has out w ≡ has ws (opened v w)) → IsCounted out degree
unfolding vars
closed_counted ws out m degree v c e h f o bits = record {
  fits = o;
  counted = c.counted
      ∙ close_count (has ws) (has out) 0 511 v (omega arith) (omega arith) (sym (stands_vars ws v h) ∙ ap (stands v) e ∙ f) (λ w l. bits w (omega arith) ∙ ap (has ws) (opened_low v w l)) (λ w l n. bits w (omega arith) ∙ ap (has ws) (opened_high v w n))
      ∙ sym (last_off (has out) (bits 511 (omega arith) ∙ ap (has ws) (opened_high v 511 (omega arith)) ∙ past_end ws 512 c.fits (omega arith) (omega arith)));
}
