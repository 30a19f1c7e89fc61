-- Which token is the longest one at a place.
use Rattle.std.proofs.Common.{◌≡◌, ℕ, ◌+◌, ◌<◌, ◌≤◌, Bool, true, false, ◌||◌, nat_eq, ◌⊎◌, inl, inr, List, length, arith, sym, ◌∙◌, ap, subst, refl}
use Rattle.std.proofs.lemmas.Bool.Decides.{nat_tests}
use Rattle.std.proofs.lemmas.Bool.{cases_lt}
use Rattle.std.proofs.lemmas.List.{get_or_past}
use Rattle.qasm_lex.specs.declared.types.Kind.{Kind}
use Rattle.qasm_lex.specs.declared.types.Kind.TheVariants.{Word as WordToken, Number, Text as TextToken, Sign}
use Rattle.qasm_lex.specs.declared.types.Class.{Class}
use Rattle.qasm_lex.specs.declared.types.Class.TheVariants.{Word, Digit, Text}
use Rattle.qasm_lex.specs.Ends.{is_inner_byte, MantissaEnd, ExponentEnd}
use Rattle.qasm_lex.specs.Tokens.{byte, NoToken, is_in, is_digit_byte, is_letter_byte, is_sign_byte, is_exponent_byte, is_plus_minus_byte, Run, WholeRun, IsMantissa, whole, point, front, IsExponent, none, plain, signed, Spells, word, number, text, sign, arrow, equals, IsLongest}

-- the first bytes of a kind of token
abbrev pub opens : Kind → ℕ → Bool
opens WordToken b = is_letter_byte b
opens Number b = is_digit_byte b || nat_eq b 46
opens TextToken b = nat_eq b 34
opens Sign b = is_sign_byte b || nat_eq b 61

or_left : (x y : Bool) → x ≡ true → (x || y) ≡ true
or_left true y h = refl
or_left false y h = cc

or_right : (x y : Bool) → y ≡ true → (x || y) ≡ true
or_right true y h = refl
or_right false y h = h

pub digit_first : (bytes : List ℕ) (a m : ℕ) → a < m → Run Digit bytes a m → is_digit_byte (byte bytes a) ≡ true
unfolding is_in
digit_first bytes a m lt r = r.each a (omega arith) lt

at_eq : (n k : ℕ) → n ≡ k → nat_eq n k ≡ true
at_eq n k h = grind (arith, nat_tests)

mantissa_opens : (bytes : List ℕ) (a m : ℕ) → IsMantissa bytes a m → opens Number (byte bytes a) ≡ true
mantissa_opens bytes a m (whole lt r) = or_left _ _ (digit_first bytes a m lt r)
mantissa_opens bytes a m (point b lt r _ _) = or_left _ _ (digit_first bytes a b lt r)
mantissa_opens bytes a m (front e _ _) = or_right _ _ (at_eq (byte bytes a) 46 e)

-- a token begins with a first byte of its kind
pub first_of : (bytes : List ℕ) (k : Kind) (a b : ℕ) → Spells bytes k a b → opens k (byte bytes a) ≡ true
first_of bytes k a b (word h _) = h
first_of bytes k a b (number m h _) = mantissa_opens bytes a m h
first_of bytes k a b (text q h _ _ _) = at_eq (byte bytes a) 34 h
first_of bytes k a b (sign h _) = or_left _ _ h
first_of bytes k a b (arrow h _ _) = ap (opens Sign) h
first_of bytes k a b (equals h _ _) = ap (opens Sign) h

not_both_1 : (b : ℕ) → opens WordToken b ≡ true → opens Number b ≡ true → ⊥
not_both_1 b g h = grind (arith, nat_tests)

not_both_2 : (b : ℕ) → opens WordToken b ≡ true → opens TextToken b ≡ true → ⊥
not_both_2 b g h = grind (arith, nat_tests)

not_both_3 : (b : ℕ) → opens WordToken b ≡ true → opens Sign b ≡ true → ⊥
not_both_3 b g h = grind (arith, nat_tests)

not_both_4 : (b : ℕ) → opens Number b ≡ true → opens TextToken b ≡ true → ⊥
not_both_4 b g h = grind (arith, nat_tests)

not_both_5 : (b : ℕ) → opens Number b ≡ true → opens Sign b ≡ true → ⊥
not_both_5 b g h = grind (arith, nat_tests)

not_both_6 : (b : ℕ) → opens TextToken b ≡ true → opens Sign b ≡ true → ⊥
not_both_6 b g h = grind (arith, nat_tests)

-- a first byte tells the kind of token
pub one_kind : (k j : Kind) (b : ℕ) → opens k b ≡ true → opens j b ≡ true → k ≡ j
one_kind WordToken WordToken b g h = refl
one_kind WordToken Number b g h = absurd (not_both_1 b g h)
one_kind WordToken TextToken b g h = absurd (not_both_2 b g h)
one_kind WordToken Sign b g h = absurd (not_both_3 b g h)
one_kind Number WordToken b g h = absurd (not_both_1 b h g)
one_kind Number Number b g h = refl
one_kind Number TextToken b g h = absurd (not_both_4 b g h)
one_kind Number Sign b g h = absurd (not_both_5 b g h)
one_kind TextToken WordToken b g h = absurd (not_both_2 b h g)
one_kind TextToken Number b g h = absurd (not_both_4 b h g)
one_kind TextToken TextToken b g h = refl
one_kind TextToken Sign b g h = absurd (not_both_6 b g h)
one_kind Sign WordToken b g h = absurd (not_both_3 b h g)
one_kind Sign Number b g h = absurd (not_both_5 b h g)
one_kind Sign TextToken b g h = absurd (not_both_6 b h g)
one_kind Sign Sign b g h = refl

-- a whole run is the longest one
pub whole_longest : (class : Class) (bytes : List ℕ) (a b c : ℕ) → WholeRun class bytes a b → Run class bytes a c → c ≤ b
whole_longest class bytes a b c w r = elim (cases_lt b c) [ inl lt ↦ (let low : a ≤ b = w.run.ordered in let in_it : b < length bytes = omega (arith, r.within) in let yes_in = r.each b low lt in let no_in = w.ends in_it in absurd (cc)) | inr le ↦ le ]

run_digit : (bytes : List ℕ) (a b k : ℕ) → Run Digit bytes a b → a ≤ k → k < b → is_inner_byte (byte bytes k) ≡ true
unfolding is_in
run_digit bytes a b k r le lt = or_left _ _ (r.each k le lt)

is_point : (bytes : List ℕ) (b : ℕ) → byte bytes b ≡ 46 → is_inner_byte (byte bytes b) ≡ true
is_point bytes b e = ap is_inner_byte e

-- a shorter run of digits has a digit after it
run_cases : (bytes : List ℕ) (a b c : ℕ) → WholeRun Digit bytes a b → Run Digit bytes a c → (c ≡ b) ⊎ ((c < b) × (is_digit_byte (byte bytes c) ≡ true))
unfolding is_in
run_cases bytes a b c w r = let le = whole_longest Digit bytes a b c w r in elim (cases_lt c b) [ inl lt ↦ inr (lt, w.run.each c r.ordered lt) | inr ge ↦ inl (omega arith) ]

not_digit_point : (n : ℕ) → is_digit_byte n ≡ true → n ≡ 46 → ⊥
not_digit_point n h e = let k : is_digit_byte 46 ≡ true = rw e at h in cc

at_place : (bytes : List ℕ) (b c : ℕ) → c ≡ b → byte bytes c ≡ byte bytes b
at_place bytes b c e = ap (byte bytes) e

-- digits with no point after them
whole_cases : (bytes : List ℕ) (a b : ℕ) → a < b → WholeRun Digit bytes a b → (byte bytes b ≡ 46 → ⊥) → (c : ℕ) → IsMantissa bytes a c → (c ≡ b) ⊎ ((c < b) × (is_inner_byte (byte bytes c) ≡ true))
whole_cases bytes a b lt w np c (whole lc r) = elim (run_cases bytes a b c w r) [ inl e ↦ inl e | inr (l, d) ↦ inr (l, or_left _ _ d) ]
whole_cases bytes a b lt w np c (point d ld r e _) = elim (run_cases bytes a b d w r) [ inl q ↦ absurd (np (sym (at_place bytes b d q) ∙ e)) | inr (l, g) ↦ absurd (not_digit_point _ g e) ]
whole_cases bytes a b lt w np c (front e _ _) = absurd (not_digit_point _ (digit_first bytes a b lt w.run) e)

pub mantissa_whole : (bytes : List ℕ) (a b : ℕ) → a < b → WholeRun Digit bytes a b → (byte bytes b ≡ 46 → ⊥) → MantissaEnd bytes a b
mantissa_whole bytes a b lt w np = record { is = whole lt w.run; longest = whole_cases bytes a b lt w np; within = w.run.within }

point_cases : (bytes : List ℕ) (a b m : ℕ) → a < b → WholeRun Digit bytes a b → byte bytes b ≡ 46 → WholeRun Digit bytes (b + 1) m → (c : ℕ) → IsMantissa bytes a c → (c ≡ m) ⊎ ((c < m) × (is_inner_byte (byte bytes c) ≡ true))
point_cases bytes a b m lt w p v c (whole lc r) = let le : b + 1 ≤ m = v.run.ordered in elim (run_cases bytes a b c w r) [ inl e ↦ inr (omega arith, is_point bytes c (at_place bytes b c e ∙ p)) | inr (l, d) ↦ inr (omega arith, or_left _ _ d) ]
point_cases bytes a b m lt w p v c (point d ld r e s) = elim (run_cases bytes a b d w r) [ inl q ↦ (let t : Run Digit bytes (b + 1) c = subst (λ x. Run Digit bytes (x + 1) c) q s in elim (run_cases bytes (b + 1) m c v t) [ inl f ↦ inl f | inr (l, g) ↦ inr (l, or_left _ _ g) ]) | inr (l, g) ↦ absurd (not_digit_point _ g e) ]
point_cases bytes a b m lt w p v c (front e _ _) = absurd (not_digit_point _ (digit_first bytes a b lt w.run) e)

pub mantissa_point : (bytes : List ℕ) (a b m : ℕ) → a < b → WholeRun Digit bytes a b → byte bytes b ≡ 46 → WholeRun Digit bytes (b + 1) m → MantissaEnd bytes a m
mantissa_point bytes a b m lt w p v = record { is = point b lt w.run p v.run; longest = point_cases bytes a b m lt w p v; within = v.run.within }

front_cases : (bytes : List ℕ) (a m : ℕ) → byte bytes a ≡ 46 → a + 1 < m → WholeRun Digit bytes (a + 1) m → (c : ℕ) → IsMantissa bytes a c → (c ≡ m) ⊎ ((c < m) × (is_inner_byte (byte bytes c) ≡ true))
front_cases bytes a m p lt w c (whole lc r) = absurd (not_digit_point _ (digit_first bytes a c lc r) p)
front_cases bytes a m p lt w c (point d ld r e s) = absurd (not_digit_point _ (digit_first bytes a d ld r) p)
front_cases bytes a m p lt w c (front e _ r) = elim (run_cases bytes (a + 1) m c w r) [ inl f ↦ inl f | inr (l, g) ↦ inr (l, or_left _ _ g) ]

pub mantissa_front : (bytes : List ℕ) (a m : ℕ) → byte bytes a ≡ 46 → a + 1 < m → WholeRun Digit bytes (a + 1) m → MantissaEnd bytes a m
mantissa_front bytes a m p lt w = record { is = front p lt w.run; longest = front_cases bytes a m p lt w; within = w.run.within }

-- Exponents

not_e : (n : ℕ) → is_exponent_byte n ≡ true → is_inner_byte n ≡ true → ⊥
not_e n g h = grind (arith, nat_tests)

pub not_sign_digit : (n : ℕ) → is_plus_minus_byte n ≡ true → is_digit_byte n ≡ true → ⊥
not_sign_digit n g h = grind (arith, nat_tests)

none_cases : (bytes : List ℕ) (m : ℕ) → (is_exponent_byte (byte bytes m) ≡ true → ⊥) → (c : ℕ) → IsExponent bytes m c → c ≤ m
none_cases bytes m no_e c (none e) = omega arith
none_cases bytes m no_e c (plain e _ _) = absurd (no_e e)
none_cases bytes m no_e c (signed e _ _ _) = absurd (no_e e)

-- no e or E
pub exponent_none : (bytes : List ℕ) (m : ℕ) → m ≤ length bytes → (is_exponent_byte (byte bytes m) ≡ true → ⊥) → ExponentEnd bytes m m
exponent_none bytes m le h = record { is = none refl; longest = none_cases bytes m h; ordered = omega arith; within = le }

short_cases : (bytes : List ℕ) (m : ℕ) → (is_plus_minus_byte (byte bytes (m + 1)) ≡ true → is_digit_byte (byte bytes (m + 2)) ≡ true → ⊥) → (is_digit_byte (byte bytes (m + 1)) ≡ true → ⊥) → (c : ℕ) → IsExponent bytes m c → c ≤ m
short_cases bytes m s d c (none e) = omega arith
short_cases bytes m s d c (plain _ lt r) = absurd (d (digit_first bytes (m + 1) c lt r))
short_cases bytes m s d c (signed _ g lt r) = absurd (s g (digit_first bytes (m + 2) c lt r))

-- an e with no digits behind it
pub exponent_short : (bytes : List ℕ) (m : ℕ) → m ≤ length bytes → (is_plus_minus_byte (byte bytes (m + 1)) ≡ true → is_digit_byte (byte bytes (m + 2)) ≡ true → ⊥) → (is_digit_byte (byte bytes (m + 1)) ≡ true → ⊥) → ExponentEnd bytes m m
exponent_short bytes m le s d = record { is = none refl; longest = short_cases bytes m s d; ordered = omega arith; within = le }

plain_cases : (bytes : List ℕ) (m b : ℕ) → is_digit_byte (byte bytes (m + 1)) ≡ true → WholeRun Digit bytes (m + 1) b → (c : ℕ) → IsExponent bytes m c → c ≤ b
plain_cases bytes m b d w c (none e) = let le = w.run.ordered in omega arith
plain_cases bytes m b d w c (plain _ lt r) = whole_longest Digit bytes (m + 1) b c w r
plain_cases bytes m b d w c (signed _ g lt r) = absurd (not_sign_digit (byte bytes (m + 1)) g d)

pub exponent_plain : (bytes : List ℕ) (m b : ℕ) → is_exponent_byte (byte bytes m) ≡ true → is_digit_byte (byte bytes (m + 1)) ≡ true → m + 1 < b → WholeRun Digit bytes (m + 1) b → ExponentEnd bytes m b
exponent_plain bytes m b e d lt w = record { is = plain e lt w.run; longest = plain_cases bytes m b d w; ordered = omega arith; within = w.run.within }

signed_cases : (bytes : List ℕ) (m b : ℕ) → is_plus_minus_byte (byte bytes (m + 1)) ≡ true → WholeRun Digit bytes (m + 2) b → (c : ℕ) → IsExponent bytes m c → c ≤ b
signed_cases bytes m b g w c (none e) = let le = w.run.ordered in omega arith
signed_cases bytes m b g w c (plain _ lt r) = absurd (not_sign_digit (byte bytes (m + 1)) g (digit_first bytes (m + 1) c lt r))
signed_cases bytes m b g w c (signed _ _ lt r) = whole_longest Digit bytes (m + 2) b c w r

pub exponent_signed : (bytes : List ℕ) (m b : ℕ) → is_exponent_byte (byte bytes m) ≡ true → is_plus_minus_byte (byte bytes (m + 1)) ≡ true → m + 2 < b → WholeRun Digit bytes (m + 2) b → ExponentEnd bytes m b
exponent_signed bytes m b e g lt w = record { is = signed e g lt w.run; longest = signed_cases bytes m b g w; ordered = omega arith; within = w.run.within }

-- Whole tokens

number_cases : (bytes : List ℕ) (a m b : ℕ) → MantissaEnd bytes a m → ExponentEnd bytes m b → (n c : ℕ) → IsMantissa bytes a n → IsExponent bytes n c → c ≤ b
number_cases bytes a m b x y n c h (none e) = let le = y.ordered in elim (x.longest n h) [ inl q ↦ omega arith | inr (l, g) ↦ omega arith ]
number_cases bytes a m b x y n c h (plain e lt r) = elim (x.longest n h) [ inl q ↦ (let z : IsExponent bytes m c = subst (λ i. IsExponent bytes i c) q (plain e lt r) in y.longest c z) | inr (l, g) ↦ absurd (not_e (byte bytes n) e g) ]
number_cases bytes a m b x y n c h (signed e s lt r) = elim (x.longest n h) [ inl q ↦ (let z : IsExponent bytes m c = subst (λ i. IsExponent bytes i c) q (signed e s lt r) in y.longest c z) | inr (l, g) ↦ absurd (not_e (byte bytes n) e g) ]

all_longest : (bytes : List ℕ) (j : Kind) (a b : ℕ) → opens j (byte bytes a) ≡ true → ((c : ℕ) → Spells bytes j a c → c ≤ b) → (k : Kind) (c : ℕ) → Spells bytes k a c → c ≤ b
all_longest bytes j a b o h k c s = let e : k ≡ j = one_kind k j (byte bytes a) (first_of bytes k a c s) o in h c (subst (λ x. Spells bytes x a c) e s)

word_only : (bytes : List ℕ) (a b : ℕ) → WholeRun Word bytes (a + 1) b → (c : ℕ) → Spells bytes WordToken a c → c ≤ b
word_only bytes a b w c (word _ r) = whole_longest Word bytes (a + 1) b c w r

pub longest_word : (bytes : List ℕ) (a b : ℕ) → is_letter_byte (byte bytes a) ≡ true → WholeRun Word bytes (a + 1) b → IsLongest bytes WordToken a b
longest_word bytes a b h w = record { spells = word h w.run; longest = all_longest bytes WordToken a b h (word_only bytes a b w) }

number_only : (bytes : List ℕ) (a m b : ℕ) → MantissaEnd bytes a m → ExponentEnd bytes m b → (c : ℕ) → Spells bytes Number a c → c ≤ b
number_only bytes a m b x y c (number n h e) = number_cases bytes a m b x y n c h e

pub longest_number : (bytes : List ℕ) (a m b : ℕ) → MantissaEnd bytes a m → ExponentEnd bytes m b → IsLongest bytes Number a b
longest_number bytes a m b x y = record { spells = number m x.is y.is; longest = all_longest bytes Number a b (mantissa_opens bytes a m x.is) (number_only bytes a m b x y) }

text_run : (bytes : List ℕ) (a q p : ℕ) → WholeRun Text bytes a q → Run Text bytes a p → byte bytes p ≡ 34 → p ≡ q
unfolding is_in
text_run bytes a q p w r e = let le = whole_longest Text bytes a q p w r in elim (cases_lt p q) [ inl lt ↦ (let h = w.run.each p r.ordered lt in let k : is_in Text 34 ≡ true = rw e at h in absurd (cc)) | inr ge ↦ omega arith ]

text_only : (bytes : List ℕ) (a q : ℕ) → WholeRun Text bytes (a + 1) q → (c : ℕ) → Spells bytes TextToken a c → c ≤ q + 1
text_only bytes a q w c (text p _ r e f) = let g : p ≡ q = text_run bytes (a + 1) q p w r e in omega arith

pub longest_text : (bytes : List ℕ) (a q : ℕ) → byte bytes a ≡ 34 → WholeRun Text bytes (a + 1) q → byte bytes q ≡ 34 → IsLongest bytes TextToken a (q + 1)
longest_text bytes a q h w e = record { spells = text q h w.run e refl; longest = all_longest bytes TextToken a (q + 1) (at_eq (byte bytes a) 34 h) (text_only bytes a q w) }

text_none : (bytes : List ℕ) (a q : ℕ) → WholeRun Text bytes (a + 1) q → (byte bytes q ≡ 34 → ⊥) → (c : ℕ) → Spells bytes TextToken a c → ⊥
text_none bytes a q w no_quote c (text p _ r e f) = no_quote (sym (ap (byte bytes) (text_run bytes (a + 1) q p w r e)) ∙ e)

pub open_text : (bytes : List ℕ) (a q : ℕ) → byte bytes a ≡ 34 → WholeRun Text bytes (a + 1) q → (byte bytes q ≡ 34 → ⊥) → NoToken bytes a
open_text bytes a q h w no_quote k c s = let e : k ≡ TextToken = one_kind k TextToken (byte bytes a) (first_of bytes k a c s) (at_eq (byte bytes a) 34 h) in text_none bytes a q w no_quote c (subst (λ x. Spells bytes x a c) e s)

-- Signs
pair_only : (bytes : List ℕ) (a : ℕ) (c : ℕ) → Spells bytes Sign a c → c ≤ a + 2
pair_only bytes a c (sign _ e) = omega arith
pair_only bytes a c (arrow _ _ e) = omega arith
pair_only bytes a c (equals _ _ e) = omega arith

pub longest_arrow : (bytes : List ℕ) (a : ℕ) → byte bytes a ≡ 45 → byte bytes (a + 1) ≡ 62 → IsLongest bytes Sign a (a + 2)
longest_arrow bytes a e f = record { spells = arrow e f refl; longest = all_longest bytes Sign a (a + 2) (ap (opens Sign) e) (pair_only bytes a) }

pub longest_equals : (bytes : List ℕ) (a : ℕ) → byte bytes a ≡ 61 → byte bytes (a + 1) ≡ 61 → IsLongest bytes Sign a (a + 2)
longest_equals bytes a e f = record { spells = equals e f refl; longest = all_longest bytes Sign a (a + 2) (ap (opens Sign) e) (pair_only bytes a) }

sign_only : (bytes : List ℕ) (a : ℕ) → (byte bytes a ≡ 45 → byte bytes (a + 1) ≡ 62 → ⊥) → (byte bytes a ≡ 61 → byte bytes (a + 1) ≡ 61 → ⊥) → (c : ℕ) → Spells bytes Sign a c → c ≤ a + 1
sign_only bytes a x y c (sign _ e) = omega arith
sign_only bytes a x y c (arrow e f _) = absurd (x e f)
sign_only bytes a x y c (equals e f _) = absurd (y e f)

pub longest_sign : (bytes : List ℕ) (a : ℕ) → is_sign_byte (byte bytes a) ≡ true → (byte bytes a ≡ 45 → byte bytes (a + 1) ≡ 62 → ⊥) → (byte bytes a ≡ 61 → byte bytes (a + 1) ≡ 61 → ⊥) → IsLongest bytes Sign a (a + 1)
longest_sign bytes a h x y = record { spells = sign h refl; longest = all_longest bytes Sign a (a + 1) (or_left _ _ h) (sign_only bytes a x y) }

-- no token begins there
pub no_token : (bytes : List ℕ) (a : ℕ) → is_letter_byte (byte bytes a) ≡ false → is_digit_byte (byte bytes a) ≡ false → (byte bytes a ≡ 46 → is_digit_byte (byte bytes (a + 1)) ≡ true → ⊥) → (byte bytes a ≡ 34 → ⊥) → is_sign_byte (byte bytes a) ≡ false → (byte bytes a ≡ 45 → byte bytes (a + 1) ≡ 62 → ⊥) → (byte bytes a ≡ 61 → byte bytes (a + 1) ≡ 61 → ⊥) → NoToken bytes a
no_token bytes a l d p q s x y k b (word h _) = absurd (cc)
no_token bytes a l d p q s x y k b (number m (whole lt r) _) = let h = digit_first bytes a m lt r in absurd (cc)
no_token bytes a l d p q s x y k b (number m (point c lt r _ _) _) = let h = digit_first bytes a c lt r in absurd (cc)
no_token bytes a l d p q s x y k b (number m (front e lt r) _) = p e (digit_first bytes (a + 1) m lt r)
no_token bytes a l d p q s x y k b (text _ e _ _ _) = q e
no_token bytes a l d p q s x y k b (sign h _) = absurd (cc)
no_token bytes a l d p q s x y k b (arrow e f _) = x e f
no_token bytes a l d p q s x y k b (equals e f _) = y e f

digit_inside : (bytes : List ℕ) (a : ℕ) → is_digit_byte (byte bytes a) ≡ true → a < length bytes
digit_inside bytes a h = elim (cases_lt a (length bytes)) [ inl lt ↦ lt | inr ge ↦ (let z : byte bytes a ≡ 0 = get_or_past bytes a 0 ge in let k : is_digit_byte 0 ≡ true = rw z at h in absurd (cc)) ]

-- a whole run at a digit is not empty
pub front_run : (bytes : List ℕ) (a b : ℕ) → WholeRun Digit bytes a b → is_digit_byte (byte bytes a) ≡ true → a < b
unfolding is_in
front_run bytes a b w h = elim (cases_lt a b) [ inl lt ↦ lt | inr ge ↦ (let e : b ≡ a = omega (arith, w.run.ordered) in let i : b < length bytes = omega (arith, digit_inside bytes a h) in let n = w.ends i in let m : is_digit_byte (byte bytes a) ≡ false = rw e at n in absurd (cc)) ]

-- a number that begins with no digit begins with a point and a digit
pub begins_front : (bytes : List ℕ) (a : ℕ) → (is_digit_byte (byte bytes a) ≡ true) ⊎ ((byte bytes a ≡ 46) × (is_digit_byte (byte bytes (a + 1)) ≡ true)) → (b : ℕ) → WholeRun Digit bytes a b → b ≡ a → (byte bytes a ≡ 46) × (is_digit_byte (byte bytes (a + 1)) ≡ true)
begins_front bytes a (inl h) b w e = let lt = front_run bytes a b w h in absurd (omega arith)
begins_front bytes a (inr h) b w e = h
