-- Words with their bits in the other order.
use Rattle.std.proofs.Common.{◌≡◌, ◌≢◌, ℕ, zero, suc, ◌+◌, ◌*◌, ◌-◌, ◌/◌, ◌%◌, ◌^◌, refl, ap, ap₂, sym, ◌∙◌, arith, ◌<◌, ◌≤◌, Bool, true, false, not, ◌&&◌, ◌||◌, nat_eq, List, [], ◌∷◌, ◌⊎◌, inl, inr, bit_and, bit_or, cond}
use Rattle.std.specs.Prelude.{nat_lt}
use Rattle.std.specs.Int.{bit_at}
use Rattle.std.proofs.Math.Nat.{pow-suc, add-mul}
use Rattle.std.proofs.lemmas.Bool.{cases_lt}
use Rattle.std.proofs.lemmas.Bool.Decides.{nat_tests}
use Rattle.std.proofs.lemmas.Nat.{pow_pos, shr-shr, pow-add, div-add-mod', or_lt, and_le_r}
use Rattle.std.proofs.lemmas.Nat.Bits.{bit_at_and, bit_at_or, bit_at-zero, bit_at_cat_low, bit_at_cat_high, same_from_bits_below}
use Rattle.ps_mono.specs.Sets.{is_set, digit}
use Rattle.ps_mono.specs.Keys.{mirror}

-- ---- mirrored numbers
top_digit : (b : Bool) (x r : ℕ) → r < x → digit b * x + r < x * 2
unfolding digit
top_digit true x r h = omega arith
top_digit false x r h = omega arith

pub mirror_below : (p : ℕ → Bool) (lo n : ℕ) → mirror p lo n < 2 ^ n
unfolding mirror
mirror_below p lo zero = omega arith
mirror_below p lo (suc n) = omega (arith, top_digit (p lo) (2 ^ n) (mirror p (suc lo) n) (mirror_below p (suc lo) n), pow-suc 2 n)

not_digit : (b : Bool) (x r s : ℕ) → r + s + 1 ≡ x → digit (not b) * x + r + (digit b * x + s) + 1 ≡ x * 2
unfolding digit
not_digit true x r s h = omega arith
not_digit false x r s h = omega arith

-- each bit is the other one
pub mirror_not : (p : ℕ → Bool) (lo n : ℕ) → mirror (λ v. not (p v)) lo n + mirror p lo n + 1 ≡ 2 ^ n
unfolding mirror
mirror_not p lo zero = refl
mirror_not p lo (suc n) = not_digit (p lo) (2 ^ n) _ _ (mirror_not p (suc lo) n) ∙ sym (pow-suc 2 n)

pub mirror_ext : (p q : ℕ → Bool) (lo start n : ℕ) → ((i : ℕ) → i < n → p (lo + i) ≡ q (start + i)) → mirror p lo n ≡ mirror q start n
unfolding mirror
mirror_ext p q lo start zero h = refl
mirror_ext p q lo start (suc n) h =
    let a : lo ≡ lo + 0 = omega arith in
    let b : start ≡ start + 0 = omega arith in
    ap₂ (λ (d : Bool) (r : ℕ). digit d * 2 ^ n + r) (ap p a ∙ h 0 (omega arith) ∙ ap q (sym b))
    (mirror_ext p q (suc lo) (suc start) n (λ i l. let c : suc lo + i ≡ lo + suc i = omega arith in let d : suc start + i ≡ start + suc i = omega arith in ap p c ∙ h (suc i) (omega arith) ∙ ap q (sym d)))

split_digit : (b : Bool) (x y z r s : ℕ) → z ≡ x * y → digit b * z + (r * y + s) ≡ (digit b * x + r) * y + s
unfolding digit
split_digit true x y z r s h = omega (arith, add-mul (1 * x) r y, h)
split_digit false x y z r s h = omega (arith, add-mul (0 * x) r y)

pub mirror_split : (p : ℕ → Bool) (lo a b : ℕ) → mirror p lo (a + b) ≡ mirror p lo a * 2 ^ b + mirror p (lo + a) b
unfolding mirror
mirror_split p lo zero b = let e : lo ≡ lo + 0 = omega arith in let f : 0 + b ≡ b = omega arith in ap (mirror p lo) f ∙ ap (λ k. mirror p k b) e ∙ omega arith
mirror_split p lo (suc a) b =
    let e : suc a + b ≡ suc (a + b) = omega arith in
    let f : suc lo + a ≡ lo + suc a = omega arith in
    ap (mirror p lo) e ∙ ap (λ r. digit (p lo) * 2 ^ (a + b) + r) (mirror_split p (suc lo) a b ∙ ap (λ k. mirror p (suc lo) a * 2 ^ b + mirror p k b) f)
    ∙ split_digit (p lo) (2 ^ a) (2 ^ b) (2 ^ (a + b)) _ _ (pow-add 2 a b)

digit_bit : (b : Bool) → bit_at (digit b) 0 ≡ digit b
unfolding digit
digit_bit true = refl
digit_bit false = refl

pub mirror_bit : (p : ℕ → Bool) (lo n j : ℕ) → j < n → bit_at (mirror p lo n) j ≡ digit (p (lo + (n - 1 - j)))
unfolding mirror
mirror_bit p lo zero j h = absurd (omega arith)
mirror_bit p lo (suc n) j h = by (cases_lt j n) (λ l. mirror_bit p (suc lo) n j l)
  where
    by : ((j < n) ⊎ (n ≤ j)) → (j < n → bit_at (mirror p (suc lo) n) j ≡ digit (p (suc lo + (n - 1 - j)))) → bit_at (digit (p lo) * 2 ^ n + mirror p (suc lo) n) j ≡ digit (p (lo + (suc n - 1 - j)))
    by (inl l) r =
        let e : suc lo + (n - 1 - j) ≡ lo + (suc n - 1 - j) = omega arith in
        bit_at_cat_low (digit (p lo)) n (mirror p (suc lo) n) j l ∙ r l ∙ ap (λ k. digit (p k)) e
    by (inr l) r =
        let e : j - n ≡ 0 = omega arith in
        let f : lo ≡ lo + (suc n - 1 - j) = omega arith in
        bit_at_cat_high (digit (p lo)) n (mirror p (suc lo) n) j (mirror_below p (suc lo) n) l ∙ ap (bit_at (digit (p lo))) e ∙ digit_bit (p lo) ∙ ap (λ k. digit (p k)) f

-- ---- bits that change places
abbrev pub swap : ℕ → ℕ → ℕ → ℕ
swap x s mask = bit_or (bit_and (x / 2 ^ s) mask) (bit_and x mask * 2 ^ s % 2 ^ 64)

-- where bit i comes from
unfoldable source : ℕ → ℕ → ℕ → ℕ
source s mask i = cond (nat_eq (bit_at mask i) 1) (s + i) (i - s)

-- bit i has one source
unfoldable single : ℕ → ℕ → ℕ → Bool
single s mask i = cond (nat_eq (bit_at mask i) 1) (nat_lt i s || nat_eq (bit_at mask (i - s)) 0) (not (nat_lt i s) && nat_eq (bit_at mask (i - s)) 1)

bit_down : (x s i : ℕ) → bit_at (x / 2 ^ s) i ≡ bit_at x (s + i)
bit_down x s i = ap (λ y. y % 2) (shr-shr x s i)

bit_cut : (y i : ℕ) → i < 64 → bit_at (y % 2 ^ 64) i ≡ bit_at y i
bit_cut y i h = sym (bit_at_cat_low (y / 2 ^ 64) 64 (y % 2 ^ 64) i h) ∙ ap (λ x. bit_at x i) (div-add-mod' y (2 ^ 64))

bit_up : (y s i : ℕ) → i < 64 → s ≤ i → bit_at (y * 2 ^ s % 2 ^ 64) i ≡ bit_at y (i - s)
bit_up y s i h l = let e : y * 2 ^ s ≡ y * 2 ^ s + 0 = omega arith in bit_cut (y * 2 ^ s) i h ∙ ap (λ x. bit_at x i) e ∙ bit_at_cat_high y s 0 i (pow_pos s) l

bit_under : (y s i : ℕ) → i < 64 → i < s → bit_at (y * 2 ^ s % 2 ^ 64) i ≡ 0
bit_under y s i h l = let e : y * 2 ^ s ≡ y * 2 ^ s + 0 = omega arith in bit_cut (y * 2 ^ s) i h ∙ ap (λ x. bit_at x i) e ∙ bit_at_cat_low y s 0 i l ∙ bit_at-zero i

swap_bit : (x s mask i : ℕ) → i < 64 → single s mask i ≡ true → bit_at (swap x s mask) i ≡ bit_at x (source s mask i)
unfolding source single
swap_bit x s mask i h e = by (nat_eq (bit_at mask i) 1) refl e (cases_lt i s)
  where
    by : (b : Bool) → nat_eq (bit_at mask i) 1 ≡ b → cond b (nat_lt i s || nat_eq (bit_at mask (i - s)) 0) (not (nat_lt i s) && nat_eq (bit_at mask (i - s)) 1) ≡ true → ((i < s) ⊎ (s ≤ i)) → bit_at (swap x s mask) i ≡ bit_at x (cond b (s + i) (i - s))
    by true m g (inl l) =
        let a : bit_at mask i ≡ 1 = grind (arith, nat_tests) in
        omega (arith, bit_at_or (bit_and (x / 2 ^ s) mask) (bit_and x mask * 2 ^ s % 2 ^ 64) i, bit_at_and (x / 2 ^ s) mask i, bit_down x s i, bit_under (bit_and x mask) s i h l, a)
    by true m g (inr l) =
        let a : bit_at mask i ≡ 1 = grind (arith, nat_tests) in
        let c : bit_at mask (i - s) ≡ 0 = grind (arith, nat_tests) in
        omega (arith, bit_at_or (bit_and (x / 2 ^ s) mask) (bit_and x mask * 2 ^ s % 2 ^ 64) i, bit_at_and (x / 2 ^ s) mask i, bit_down x s i, bit_up (bit_and x mask) s i h l, bit_at_and x mask (i - s), a, c)
    by false m g (inl l) = absurd (grind (arith, nat_tests))
    by false m g (inr l) =
        let a : bit_at mask i ≢ 1 = λ z. grind (arith, nat_tests) in
        let c : bit_at mask (i - s) ≡ 1 = grind (arith, nat_tests) in
        omega (arith, bit_at_or (bit_and (x / 2 ^ s) mask) (bit_and x mask * 2 ^ s % 2 ^ 64) i, bit_at_and (x / 2 ^ s) mask i, bit_down x s i, bit_up (bit_and x mask) s i h l, bit_at_and x mask (i - s), a, c)

-- ---- bits that change places six times, the last change first
unfoldable steps : List (ℕ × ℕ)
steps = (32, 4294967295) ∷ (16, 281470681808895) ∷ (8, 71777214294589695) ∷ (4, 1085102592571150095) ∷ (2, 3689348814741910323) ∷ (1, 6148914691236517205) ∷ []

unfoldable changed : List (ℕ × ℕ) → ℕ → ℕ
changed [] x = x
changed (p ∷ ps) x = swap (changed ps x) p.0 p.1

unfoldable origin : List (ℕ × ℕ) → ℕ → ℕ
origin [] i = i
origin (p ∷ ps) i = origin ps (source p.0 p.1 i)

unfoldable orderly : List (ℕ × ℕ) → ℕ → Bool
orderly [] i = true
orderly (p ∷ ps) i = nat_lt i 64 && (single p.0 p.1 i && orderly ps (source p.0 p.1 i))

both : (a b : Bool) → (a && b) ≡ true → (a ≡ true) × (b ≡ true)
both true true e = (refl, refl)
both true false e = cc
both false b e = cc

below_of : (i n : ℕ) → nat_lt i n ≡ true → i < n
below_of i n e = grind (arith, nat_tests)

equal_of : (i n : ℕ) → nat_eq i n ≡ true → i ≡ n
equal_of i n e = grind (arith, nat_tests)

changed_bit : (ps : List (ℕ × ℕ)) (x i : ℕ) → orderly ps i ≡ true → bit_at (changed ps x) i ≡ bit_at x (origin ps i)
unfolding changed origin orderly
changed_bit [] x i e = refl
changed_bit (p ∷ ps) x i e =
    let b = both (nat_lt i 64) (single p.0 p.1 i && orderly ps (source p.0 p.1 i)) e in
    let d = both (single p.0 p.1 i) (orderly ps (source p.0 p.1 i)) b.1 in
    swap_bit (changed ps x) p.0 p.1 i (below_of i 64 b.0) d.0 ∙ changed_bit ps x (source p.0 p.1 i) d.1

-- it is so of all numbers below n
unfoldable all_below : (ℕ → Bool) → ℕ → Bool
all_below f zero = true
all_below f (suc n) = f n && all_below f n

one_below : (f : ℕ → Bool) (n i : ℕ) → all_below f n ≡ true → i < n → f i ≡ true
unfolding all_below
one_below f zero i e h = absurd (omega arith)
one_below f (suc n) i e h = let b = both (f n) (all_below f n) e in by (cases_lt i n) b (λ l. one_below f n i b.1 l)
  where
    by : ((i < n) ⊎ (n ≤ i)) → (f n ≡ true) × (all_below f n ≡ true) → (i < n → f i ≡ true) → f i ≡ true
    by (inl l) b r = r l
    by (inr l) b r = let e : i ≡ n = omega arith in ap f e ∙ b.0

-- bit i comes from the bit that is as far from the other end
unfoldable turned : ℕ → Bool
turned i = orderly steps i && nat_eq (origin steps i) (63 - i)

all_turned : all_below turned 64 ≡ true
unfolding all_below turned orderly origin steps source single
all_turned = refl

swap_small : (x s mask : ℕ) → mask < 2 ^ 64 → swap x s mask < 2 ^ 64
swap_small x s mask h =
    let low : bit_and (x / 2 ^ s) mask < 2 ^ 64 = omega (arith, and_le_r (x / 2 ^ s) mask, h) in
    let high : bit_and x mask * 2 ^ s % 2 ^ 64 < 2 ^ 64 = omega arith in
    or_lt 64 (bit_and (x / 2 ^ s) mask) (bit_and x mask * 2 ^ s % 2 ^ 64) low high

changed_small : (x : ℕ) → changed steps x < 2 ^ 64
unfolding changed steps
changed_small x = swap_small (changed ((16, 281470681808895) ∷ (8, 71777214294589695) ∷ (4, 1085102592571150095) ∷ (2, 3689348814741910323) ∷ (1, 6148914691236517205) ∷ []) x) 32 4294967295 (omega arith)

digit_set : (x i : ℕ) → bit_at x i ≡ digit (is_set x i)
unfolding is_set digit
digit_set x i = by (bit_at x i) (omega arith)
  where
    by : (b : ℕ) → b < 2 → b ≡ digit (nat_eq b 1)
    by zero h = refl
    by (suc zero) h = refl
    by (suc (suc b)) h = absurd (omega arith)

same_bit : (x j : ℕ) → j < 64 → turned j ≡ true → bit_at (changed steps x) j ≡ bit_at (mirror (is_set x) 0 64) j
unfolding turned
same_bit x j l t =
    let b = both (orderly steps j) (nat_eq (origin steps j) (63 - j)) t in
    let e : origin steps j ≡ 0 + (64 - 1 - j) = omega (arith, equal_of (origin steps j) (63 - j) b.1) in
    changed_bit steps x j b.0 ∙ ap (bit_at x) e ∙ digit_set x (0 + (64 - 1 - j)) ∙ sym (mirror_bit (is_set x) 0 64 j l)

changed_mirror : (x : ℕ) → changed steps x ≡ mirror (is_set x) 0 64
changed_mirror x = same_from_bits_below 64 (changed steps x) (mirror (is_set x) 0 64) (changed_small x) (mirror_below (is_set x) 0 64) (λ j l. same_bit x j l (one_below turned 64 j all_turned l))

-- what the six changes give
pub mirror_is : (x a b c d e r : ℕ) → a ≡ swap x 1 6148914691236517205 → b ≡ swap a 2 3689348814741910323 → c ≡ swap b 4 1085102592571150095 → d ≡ swap c 8 71777214294589695 → e ≡ swap d 16 281470681808895 → r ≡ swap e 32 4294967295 → r ≡ mirror (is_set x) 0 64
unfolding changed steps
mirror_is x a b c d e r ea eb ec ed ee er =
    er ∙ ap (λ y. swap y 32 4294967295) (ee ∙ ap (λ y. swap y 16 281470681808895) (ed ∙ ap (λ y. swap y 8 71777214294589695) (ec ∙ ap (λ y. swap y 4 1085102592571150095) (eb ∙ ap (λ y. swap y 2 3689348814741910323) ea)))) ∙ changed_mirror x
