-- The numbers of short monomials have the order of the monomials.
use Rattle.std.proofs.Common.{◌≡◌, ◌≢◌, ℕ, ◌+◌, ◌*◌, ◌-◌, ◌^◌, refl, ap, ap₂, sym, ◌∙◌, arith, ◌<◌, ◌≤◌, true, false, nat_eq, List, [], ◌∷◌, ◌++◌, length, get_or, ◌⊎◌, inl, inr, nat_cmp, Less, Equal, Greater, bit_and, cond}
use Rattle.std.specs.Prelude.{nat_lt}
use Rattle.std.specs.Ordering.{ordering_then}
use Rattle.std.specs.Cmp.Lexicographic.{slice_cmp}
use Rattle.std.specs.Int.Count.{count_trailing_zeros}
use Rattle.std.proofs.lemmas.Bool.{cases_lt}
use Rattle.std.proofs.lemmas.Bool.Decides.{nat_tests}
use Rattle.ps_mono.specs.Sets.{is_set, has, members, vars, Below, IsVarSet, mono_cmp}
use Rattle.std.proofs.lemmas.Nat.Bits.{bit_at-zero}
use Rattle.ps_mono.specs.Lists.{members_ext, members_split, members_empty}
use Rattle.ps_mono.specs.Words.{has_at}
use Rattle.ps_mono.specs.Keys.{key_behind, order_key, from_word}
use Rattle.ps_mono.proofs.Laws.{set_all_below}
use Rattle.ps_mono.proofs.Places.{less_lowest}

-- ---- the order
-- a lower number stays lower, with no more variables behind it
pub behind_less : (m n : List ℕ) (k j : ℕ) → k < j → length m ≤ length n → Below 512 m → key_behind k m < key_behind j n
unfolding key_behind
behind_less [] [] k j h l b = h
behind_less [] (u ∷ n) k j h l b = behind_less [] n k (j * 512 + u) (omega arith) (omega arith) tt
behind_less (v ∷ m) [] k j h l b = absurd (omega arith)
behind_less (v ∷ m) (u ∷ n) k j h l b = behind_less m n (k * 512 + v) (j * 512 + u) (omega (arith, b.0)) (omega arith) b.1

pub behind_more : (m : List ℕ) (k : ℕ) → k ≤ key_behind k m
unfolding key_behind
behind_more [] k = omega arith
behind_more (v ∷ m) k = omega (arith, behind_more m (k * 512 + v))

pub less_nat : (x y : ℕ) → x < y → nat_cmp x y ≡ Less
less_nat x y h = grind (arith, nat_tests)

pub more_nat : (x y : ℕ) → y < x → nat_cmp x y ≡ Greater
more_nat x y h = grind (arith, nat_tests)

pub same_nat : (x y : ℕ) → x ≡ y → nat_cmp x y ≡ Equal
same_nat x y h = grind (arith, nat_tests)

pub one_of : (x y : ℕ) → (x < y) ⊎ ((y < x) ⊎ (x ≡ y))
one_of x y = first (cases_lt x y)
  where
    second : y ≤ x → ((y < x) ⊎ (x ≤ y)) → (x < y) ⊎ ((y < x) ⊎ (x ≡ y))
    second h (inl k) = inr (inl k)
    second h (inr k) = inr (inr (omega arith))

    first : ((x < y) ⊎ (y ≤ x)) → (x < y) ⊎ ((y < x) ⊎ (x ≡ y))
    first (inl k) = inl k
    first (inr k) = second k (cases_lt y x)

-- behind one number, lists of one length decide
pub behind_cmp : (m n : List ℕ) (k : ℕ) → length m ≡ length n → Below 512 m → Below 512 n → nat_cmp (key_behind k m) (key_behind k n) ≡ slice_cmp nat_cmp m n
unfolding key_behind
behind_cmp [] [] k l a b = same_nat k k refl
behind_cmp [] (u ∷ n) k l a b = absurd (omega arith)
behind_cmp (v ∷ m) [] k l a b = absurd (omega arith)
behind_cmp (v ∷ m) (u ∷ n) k l a b = by (one_of v u) (behind_cmp m n (k * 512 + u) (omega arith) a.1 b.1)
  where
    by : ((v < u) ⊎ ((u < v) ⊎ (v ≡ u))) → nat_cmp (key_behind (k * 512 + u) m) (key_behind (k * 512 + u) n) ≡ slice_cmp nat_cmp m n
        → nat_cmp (key_behind (k * 512 + v) m) (key_behind (k * 512 + u) n) ≡ ordering_then (nat_cmp v u) (slice_cmp nat_cmp m n)
    by (inl h) r = less_nat _ _ (behind_less m n (k * 512 + v) (k * 512 + u) (omega arith) (omega arith) a.1) ∙ ap (λ o. ordering_then o (slice_cmp nat_cmp m n)) (sym (less_nat v u h))
    by (inr (inl h)) r = more_nat _ _ (behind_less n m (k * 512 + u) (k * 512 + v) (omega arith) (omega arith) b.1) ∙ ap (λ o. ordering_then o (slice_cmp nat_cmp m n)) (sym (more_nat v u h))
    by (inr (inr h)) r = ap (λ x. nat_cmp (key_behind (k * 512 + x) m) (key_behind (k * 512 + u) n)) h ∙ r ∙ ap (λ o. ordering_then o (slice_cmp nat_cmp m n)) (sym (same_nat v u h))

not_over : (n : ℕ) → n ≤ 6 → nat_lt 6 n ≡ false
not_over n h = grind (arith, nat_tests)

over : (n : ℕ) → 6 < n → nat_lt 6 n ≡ true
over n h = grind (arith, nat_tests)

pub short_key : (m : List ℕ) → length m ≤ 6 → order_key m ≡ key_behind (length m) m
unfolding order_key
short_key m h = ap (λ b. cond b 18446744073709551615 (key_behind (length m) m)) (not_over (length m) h)

pub long_key : (m : List ℕ) → 6 < length m → order_key m ≡ 18446744073709551615
unfolding order_key
long_key m h = ap (λ b. cond b 18446744073709551615 (key_behind (length m) m)) (over (length m) h)

pub key_cmp : (m n : List ℕ) → length m ≤ 6 → length n ≤ 6 → IsVarSet m → IsVarSet n → nat_cmp (order_key m) (order_key n) ≡ mono_cmp m n
key_cmp m n h l s t = ap₂ nat_cmp (short_key m h) (short_key n l) ∙ by (one_of (length m) (length n))
  where
    by : ((length m < length n) ⊎ ((length n < length m) ⊎ (length m ≡ length n))) → nat_cmp (key_behind (length m) m) (key_behind (length n) n) ≡ ordering_then (nat_cmp (length m) (length n)) (slice_cmp nat_cmp m n)
    by (inl k) = less_nat _ _ (behind_less m n _ _ k (omega arith) (set_all_below m s)) ∙ ap (λ o. ordering_then o (slice_cmp nat_cmp m n)) (sym (less_nat _ _ k))
    by (inr (inl k)) = more_nat _ _ (behind_less n m _ _ k (omega arith) (set_all_below n t)) ∙ ap (λ o. ordering_then o (slice_cmp nat_cmp m n)) (sym (more_nat _ _ k))
    by (inr (inr k)) = ap (λ x. nat_cmp (key_behind (length m) m) (key_behind x n)) (sym k) ∙ behind_cmp m n (length m) k (set_all_below m s) (set_all_below n t) ∙ ap (λ o. ordering_then o (slice_cmp nat_cmp m n)) (sym (same_nat _ _ k))

-- ---- it fits into 64 bits
zeros6 : List ℕ
zeros6 = 0 ∷ 0 ∷ 0 ∷ 0 ∷ 0 ∷ 0 ∷ []

top_key : key_behind 7 (0 ∷ 0 ∷ 0 ∷ 0 ∷ 0 ∷ 0 ∷ []) ≡ 126100789566373888
unfolding key_behind
top_key = refl

pub key_fits : (m : List ℕ) → length m ≤ 6 → Below 512 m → key_behind (length m) m < 126100789566373888
key_fits m h b = omega (arith, behind_less m (0 ∷ 0 ∷ 0 ∷ 0 ∷ 0 ∷ 0 ∷ []) (length m) 7 (omega arith) h b, top_key)

-- ---- one word
-- the least of a word goes behind the key
pub word_step : (word lo k : ℕ) → 0 < word → word < 2 ^ 64 → key_behind k (from_word lo word) ≡ key_behind (k * 512 + (lo + count_trailing_zeros 64 word)) (from_word lo (bit_and word (word - 1)))
unfolding key_behind from_word
word_step word lo k h l = ap (key_behind k) (less_lowest 64 lo word (bit_and word (word - 1)) (λ v. is_set word (v - lo)) (λ v. is_set (bit_and word (word - 1)) (v - lo)) h l refl
    (λ i c. let d : lo + i - lo ≡ i = omega arith in ap (is_set word) d) (λ i c. let d : lo + i - lo ≡ i = omega arith in ap (is_set (bit_and word (word - 1))) d))

pub key_whole : (word lo k : ℕ) → word ≡ 0 → k ≡ key_behind k (from_word lo word)
unfolding key_behind from_word is_set
key_whole word lo k h = ap (key_behind k) (sym (members_empty (λ v. is_set word (v - lo)) lo 64 (λ v a. ap (λ w. is_set w (v - lo)) h ∙ ap (λ b. nat_eq b 1) (bit_at-zero (v - lo)))))

-- the next of a word keeps what the word gives
pub word_more : (word lo key k all : ℕ) → word ≢ 0 → word < 2 ^ 64 → key_behind k (from_word lo word) ≡ all → key ≡ k * 512 + (lo + count_trailing_zeros 64 word) → key_behind key (from_word lo (bit_and word (word - 1))) ≡ all
word_more word lo key k all n l e h = ap (λ x. key_behind x (from_word lo (bit_and word (word - 1)))) h ∙ sym (word_step word lo k (omega arith) l) ∙ e

pub word_room : (word lo k all : ℕ) → word ≢ 0 → word < 2 ^ 64 → key_behind k (from_word lo word) ≡ all → k * 512 + (lo + count_trailing_zeros 64 word) ≤ all
word_room word lo k all n l e = omega (arith, behind_more (from_word lo (bit_and word (word - 1))) (k * 512 + (lo + count_trailing_zeros 64 word)), word_step word lo k (omega arith) l)

-- ---- all words
pub behind_append : (m n : List ℕ) (k : ℕ) → key_behind k (m ++ n) ≡ key_behind (key_behind k m) n
unfolding key_behind
behind_append [] n k = refl
behind_append (v ∷ m) n k = behind_append m n (k * 512 + v)

-- the variables from word i on
unfoldable pub from_place : List ℕ → ℕ → List ℕ
from_place ws i = members (has ws) (64 * i) (512 - 64 * i)

own_word : (ws : List ℕ) (i : ℕ) → members (has ws) (64 * i) 64 ≡ from_word (64 * i) (get_or ws i 0)
unfolding from_word
own_word ws i = members_ext (has ws) (λ v. is_set (get_or ws i 0) (v - 64 * i)) (64 * i) 64 (λ v a b. let d : v ≡ 64 * i + (v - 64 * i) = omega arith in ap (has ws) d ∙ has_at ws i (v - 64 * i) (omega arith))

pub place_more : (ws : List ℕ) (i key : ℕ) → i < 8 → key_behind key (from_place ws i) ≡ key_behind (key_behind key (from_word (64 * i) (get_or ws i 0))) (from_place ws (i + 1))
unfolding from_place
place_more ws i key l =
    let d : 512 - 64 * i ≡ 64 + (512 - 64 * (i + 1)) = omega arith in
    let e : 64 * i + 64 ≡ 64 * (i + 1) = omega arith in
    ap (λ n. key_behind key (members (has ws) (64 * i) n)) d
    ∙ ap (key_behind key) (members_split (has ws) (64 * i) 64 (512 - 64 * (i + 1)))
    ∙ ap (λ n. key_behind key (members (has ws) (64 * i) 64 ++ members (has ws) n (512 - 64 * (i + 1)))) e
    ∙ behind_append (members (has ws) (64 * i) 64) (members (has ws) (64 * (i + 1)) (512 - 64 * (i + 1))) key
    ∙ ap (λ (m : List ℕ). key_behind (key_behind key m) (members (has ws) (64 * (i + 1)) (512 - 64 * (i + 1)))) (own_word ws i)

pub place_start : (ws m : List ℕ) (degree : ℕ) → vars ws ≡ m → degree ≡ length m → degree ≤ 6 → key_behind degree (from_place ws 0) ≡ order_key m
unfolding from_place vars
place_start ws m degree e d h = ap₂ key_behind d e ∙ sym (short_key m (omega arith))

pub place_next : (ws : List ℕ) (i key next all : ℕ) → i < 8 → next ≡ key_behind key (from_word (64 * i) (get_or ws i 0)) → key_behind key (from_place ws i) ≡ all → key_behind next (from_place ws (i + 1)) ≡ all
place_next ws i key next all l n e = ap (λ k. key_behind k (from_place ws (i + 1))) n ∙ sym (place_more ws i key l) ∙ e

pub place_end : (ws : List ℕ) (i key all : ℕ) → 8 ≤ i → key_behind key (from_place ws i) ≡ all → key ≡ all
unfolding from_place key_behind members
place_end ws i key all l e =
    let d : 512 - 64 * i ≡ 0 = omega arith in
    sym (ap (λ n. key_behind key (members (has ws) (64 * i) n)) d) ∙ e

pub place_fits : (ws m : List ℕ) (i key : ℕ) → i < 8 → length m ≤ 6 → IsVarSet m → key_behind key (from_place ws i) ≡ order_key m → key_behind key (from_word (64 * i) (get_or ws i 0)) < 2 ^ 64
place_fits ws m i key l h s e = omega (arith, behind_more (from_place ws (i + 1)) (key_behind key (from_word (64 * i) (get_or ws i 0))), place_more ws i key l, e, short_key m h, key_fits m h (set_all_below m s))

pub key_of : (ws m : List ℕ) (degree : ℕ) → vars ws ≡ m → degree ≡ length (vars ws) → 6 < degree → 18446744073709551615 ≡ order_key m
key_of ws m degree e d h = sym (long_key m (omega (arith, ap (λ (n : List ℕ). length n) e)))

pub key_is : (key : ℕ) (m n : List ℕ) → key ≡ order_key m → length m ≤ 6 → length n ≤ 6 → IsVarSet m → IsVarSet n → nat_cmp key (order_key n) ≡ mono_cmp m n
key_is key m n e h l s t = ap (λ x. nat_cmp x (order_key n)) e ∙ key_cmp m n h l s t
