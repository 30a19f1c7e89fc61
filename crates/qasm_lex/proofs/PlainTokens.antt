-- Cutting a text of words, whole numbers, signs of one byte and white space into its tokens, byte by byte.
use Rattle.std.proofs.Common.{◌≡◌, ℕ, ◌+◌, ◌-◌, ◌<◌, ◌≤◌, Bool, true, false, ◌&&◌, ◌||◌, nat_eq, inl, inr, Option, Some, None, List, [], ◌∷◌, length, drop, get_or, length-drop, Ok, arith, sym, ◌∙◌, ap, subst, refl}
use Rattle.std.specs.Prelude.{if◌then◌else◌}
use Rattle.std.proofs.lemmas.Bool.Decides.{nat_tests}
use Rattle.std.proofs.lemmas.Bool.{eqb-true, cases_lt}
use Rattle.std.proofs.lemmas.List.{drop_more, get_or_past}
use Rattle.qasm_lex.specs.declared.types.Kind.TheVariants.{Word as WordToken, Number, Sign}
use Rattle.qasm_lex.specs.declared.types.Class.{Class}
use Rattle.qasm_lex.specs.declared.types.Class.TheVariants.{Word, Digit}
use Rattle.qasm_lex.specs.declared.types.Token.{Token}
use Rattle.qasm_lex.specs.Tokens.{byte, is_in, is_digit_byte, is_letter_byte, is_word_byte, is_white_byte, is_sign_byte, is_tail_byte, is_exponent_byte, Run, WholeRun, NoGap, IsLongest, IsToken, Reads, finished, gap, token}
use Rattle.qasm_lex.proofs.Longest.{longest_word, longest_number, longest_sign, mantissa_whole, mantissa_point, exponent_none}

-- between tokens, in a word or a number from a place on, in one with a point at a place, or behind a sign with its byte;
-- or lost, where the text has anything else
pub data Mode : Type 0 where
  between : Mode
  in_word : ℕ → Mode
  in_number : ℕ → Mode
  in_decimal : ℕ → ℕ → Mode
  on_sign : ℕ → ℕ → Mode
  lost : Mode

-- what begins with a byte that is white, a letter, a digit, a sign
unfoldable pub begun_by : ℕ → ℕ → Bool → Bool → Bool → Bool → Mode
begun_by i b true l d s = between
begun_by i b false true d s = in_word i
begun_by i b false false true s = in_number i
begun_by i b false false false true = on_sign i b
begun_by i b false false false false = lost

abbrev pub begun : ℕ → ℕ → Mode
begun i b = begun_by i b (is_white_byte b) (is_letter_byte b) (is_digit_byte b) (is_sign_byte b)

-- the byte makes one sign, or a comment, of the sign before it
abbrev pub joins : ℕ → ℕ → Bool
joins c b = nat_eq b 62 || (nat_eq c 47 && nat_eq b 47)

unfoldable pub step : Mode → ℕ → ℕ → Mode
step between i b = begun i b
step (in_word a) i b = if is_word_byte b then in_word a else begun i b
step (in_number a) i b = if is_digit_byte b then in_number a else if nat_eq b 46 then in_decimal a i else if is_tail_byte b then lost else begun i b
step (in_decimal a p) i b = if is_digit_byte b then in_decimal a p else if is_tail_byte b then lost else begun i b
step (on_sign a c) i b = if joins c b then lost else begun i b
step lost i b = lost

-- tokens with one that ends before a byte
unfoldable pub closing : Mode → ℕ → ℕ → Option (List Token) → Option (List Token)
closing m i b None = None
closing between i b (Some ts) = Some ts
closing (in_word a) i b (Some ts) = if is_word_byte b then Some ts else Some (record { kind = WordToken; from = a; to = i } ∷ ts)
closing (in_number a) i b (Some ts) = if is_digit_byte b then Some ts else if nat_eq b 46 then Some ts else Some (record { kind = Number; from = a; to = i } ∷ ts)
closing (in_decimal a p) i b (Some ts) = if is_digit_byte b then Some ts else Some (record { kind = Number; from = a; to = i } ∷ ts)
closing (on_sign a c) i b (Some ts) = Some (record { kind = Sign; from = a; to = i } ∷ ts)
closing lost i b (Some ts) = None

-- the tokens of these bytes, which stand at a place; the end is like a byte 0
unfoldable pub cut : List ℕ → Mode → ℕ → Option (List Token)
cut [] m i = closing m i 0 (Some [])
cut (b ∷ bs) m i = closing m i b (cut bs (step m i b) (i + 1))

-- ---- what is known of the bytes before a place
abbrev Known : List ℕ → Mode → ℕ → Type 0
Known bytes between i = Unit {0}
Known bytes (in_word a) i = (is_letter_byte (byte bytes a) ≡ true) × Run Word bytes (a + 1) i
Known bytes (in_number a) i = (a < i) × Run Digit bytes a i
Known bytes (in_decimal a p) i = (a < p) × WholeRun Digit bytes a p × (byte bytes p ≡ 46) × Run Digit bytes (p + 1) i
Known bytes (on_sign a c) i = (i ≡ a + 1) × (c ≡ byte bytes a) × (is_sign_byte c ≡ true) × (a < length bytes)
Known bytes lost i = Unit {0}

-- where the token that is open begins
abbrev start : Mode → ℕ → ℕ
start between i = i
start (in_word a) i = a
start (in_number a) i = a
start (in_decimal a p) i = a
start (on_sign a c) i = a
start lost i = i

-- ---- bytes
word_opens : (b : ℕ) → is_letter_byte b ≡ true → (is_white_byte b ≡ false) × (b ≡ 47 → ⊥)
word_opens b h = (grind (arith, nat_tests), λ e. grind (arith, nat_tests))

digit_opens : (b : ℕ) → is_digit_byte b ≡ true → (is_white_byte b ≡ false) × (b ≡ 47 → ⊥)
digit_opens b h = (grind (arith, nat_tests), λ e. grind (arith, nat_tests))

sign_opens : (b : ℕ) → is_sign_byte b ≡ true → (is_white_byte b ≡ false) × (b ≡ 61 → ⊥)
sign_opens b h = (grind (arith, nat_tests), λ e. grind (arith, nat_tests))

no_tail : (b : ℕ) → is_tail_byte b ≡ false → (is_digit_byte b ≡ false) × (b ≡ 46 → ⊥) × (is_exponent_byte b ≡ true → ⊥)
no_tail b h = (grind (arith, nat_tests), (λ e. grind (arith, nat_tests)), (λ e. grind (arith, nat_tests)))

not_joined : (c b : ℕ) → joins c b ≡ false → (b ≡ 62 → ⊥) × (c ≡ 47 → b ≡ 47 → ⊥)
not_joined c b h = ((λ e. grind (arith, nat_tests)), (λ e d. grind (arith, nat_tests)))

-- ---- places
module _ (bytes : List ℕ) where
  here : (i b : ℕ) (bs : List ℕ) → drop i bytes ≡ b ∷ bs → (i < length bytes) × (byte bytes i ≡ b) × (drop (i + 1) bytes ≡ bs)
  here i b bs e =
      let n : length bytes - i ≡ length (b ∷ bs) = sym (length-drop i bytes) ∙ ap length e in
      let lt : i < length bytes = omega (arith, n) in
      let d : drop i bytes ≡ byte bytes i ∷ drop (i + 1) bytes = drop_more bytes i 0 lt in
      let q : byte bytes i ∷ drop (i + 1) bytes ≡ b ∷ bs = sym d ∙ e in
      (lt, ap (λ xs. get_or xs 0 0) q, ap (drop 1) q)

  one_more : (class : Class) (a i : ℕ) → i < length bytes → Run class bytes a i → is_in class (byte bytes i) ≡ true → Run class bytes a (i + 1)
  one_more class a i lt r h = record {
    ordered = let o = r.ordered in omega arith;
    within = omega arith;
    each = λ k le l. elim (cases_lt k i) [ inl less ↦ r.each k le less | inr more ↦ (let e : i ≡ k = omega arith in ap (λ j. is_in class (byte bytes j)) (sym e) ∙ h) ];
  }

  none_yet : (class : Class) (a : ℕ) → a ≤ length bytes → Run class bytes a a
  none_yet class a le = record { ordered = omega arith; within = le; each = λ k g l. absurd (omega arith) }

  -- ---- tokens that end before a byte
  word_token : (a i : ℕ) → Known bytes (in_word a) i → is_word_byte (byte bytes i) ≡ false → IsToken bytes WordToken a i
  unfolding is_in
  word_token a i (l, r) h =
      let o = r.ordered in let w = r.within in let p = word_opens (byte bytes a) l in
      (record { inside = omega arith; white = p.0; comment = λ e d. p.1 e }, longest_word bytes a i l (record { run = r; ends = λ lt. h }), tt)

  number_token : (a i : ℕ) → Known bytes (in_number a) i → is_tail_byte (byte bytes i) ≡ false → IsToken bytes Number a i
  unfolding is_in
  number_token a i (lt, r) h =
      let w = r.within in let n = no_tail (byte bytes i) h in let p = digit_opens (byte bytes a) (r.each a (omega arith) lt) in (
        record { inside = omega arith; white = p.0; comment = λ e d. p.1 e },
        longest_number bytes a i i (mantissa_whole bytes a i lt (record { run = r; ends = λ l. n.0 }) n.1) (exponent_none bytes i w n.2),
        h,
      )

  decimal_token : (a p i : ℕ) → Known bytes (in_decimal a p) i → is_tail_byte (byte bytes i) ≡ false → IsToken bytes Number a i
  unfolding is_in
  decimal_token a p i (lt, v, e, r) h =
      let w = v.run.within in let n = no_tail (byte bytes i) h in let q = digit_opens (byte bytes a) (v.run.each a (omega arith) lt) in (
        record { inside = omega arith; white = q.0; comment = λ e d. q.1 e },
        longest_number bytes a i i (mantissa_point bytes a p i lt v e (record { run = r; ends = λ l. n.0 })) (exponent_none bytes i r.within n.2),
        h,
      )

  sign_token : (a c i : ℕ) → Known bytes (on_sign a c) i → joins c (byte bytes i) ≡ false → IsToken bytes Sign a i
  sign_token a c i (e, d, s, lt) h =
      let p = sign_opens c s in let n = not_joined c (byte bytes i) h in
      let next : byte bytes (a + 1) ≡ byte bytes i = ap (byte bytes) (sym e) in
      let is : is_sign_byte (byte bytes a) ≡ true = ap is_sign_byte (sym d) ∙ s in (
        record { inside = lt; white = ap is_white_byte (sym d) ∙ p.0; comment = λ x y. n.1 (d ∙ x) (sym next ∙ y) },
        subst (λ z. IsLongest bytes Sign a z) (sym e) (longest_sign bytes a is (λ x y. n.0 (sym next ∙ y)) (λ x y. p.1 (d ∙ x))),
        tt,
      )

  -- ---- byte by byte
  -- with these tokens from the one that is open on, the text is read
  abbrev Follows : Mode → ℕ → List Token → Type 0
  Follows m i us = (m ≡ lost → ⊥) × (Known bytes m i → Reads bytes (start m i) (Ok us))

  same : (a : ℕ) (us ts : List Token) → Some us ≡ Some ts → Reads bytes a (Ok us) → Reads bytes a (Ok ts)
  same a us ts e h = let d : us ≡ ts = cc in subst (λ z. Reads bytes a (Ok z)) d h

  module _ (i b : ℕ) (lt : i < length bytes) (is : byte bytes i ≡ b) (us : List Token) where
    begins : (w l d s : Bool) → is_white_byte b ≡ w → is_letter_byte b ≡ l → is_digit_byte b ≡ d → is_sign_byte b ≡ s → Follows (begun_by i b w l d s) (i + 1) us → Reads bytes i (Ok us)
    unfolding begun_by is_in
    begins true l d s p q x y f = gap lt (inl (ap is_white_byte is ∙ p, refl)) (f.1 tt)
    begins false true d s p q x y f = f.1 (ap is_letter_byte is ∙ q, none_yet Word (i + 1) (omega arith))
    begins false false true s p q x y f = f.1 (omega arith, one_more Digit i i lt (none_yet Digit i (omega arith)) (ap is_digit_byte is ∙ x))
    begins false false false true p q x y f = f.1 (refl, sym is, y, lt)
    begins false false false false p q x y f = absurd (f.0 refl)

    fresh : Follows (begun i b) (i + 1) us → Reads bytes i (Ok us)
    fresh f = begins (is_white_byte b) (is_letter_byte b) (is_digit_byte b) (is_sign_byte b) refl refl refl refl f

    module _ (ts : List Token) where
      in_a_word : (a : ℕ) (t : Bool) → is_word_byte b ≡ t → Known bytes (in_word a) i → Follows (if t then in_word a else begun i b) (i + 1) us
          → (if t then Some us else Some (record { kind = WordToken; from = a; to = i } ∷ us)) ≡ Some ts → Reads bytes a (Ok ts)
      unfolding is_in
      in_a_word a true h (l, r) f e = same a us ts e (f.1 (l, one_more Word (a + 1) i lt r (ap is_word_byte is ∙ h)))
      in_a_word a false h k f e = same a (record { kind = WordToken; from = a; to = i } ∷ us) ts e (token {r = Ok us} (word_token a i k (ap is_word_byte is ∙ h)) (fresh f))

      in_a_decimal : (a p : ℕ) (t z : Bool) → is_digit_byte b ≡ t → is_tail_byte b ≡ z → Known bytes (in_decimal a p) i → Follows (if t then in_decimal a p else if z then lost else begun i b) (i + 1) us
          → (if t then Some us else Some (record { kind = Number; from = a; to = i } ∷ us)) ≡ Some ts → Reads bytes a (Ok ts)
      unfolding is_in
      in_a_decimal a p true z h g (l, v, d, r) f e = same a us ts e (f.1 (l, v, d, one_more Digit (p + 1) i lt r (ap is_digit_byte is ∙ h)))
      in_a_decimal a p false true h g k f e = absurd (f.0 refl)
      in_a_decimal a p false false h g k f e = same a (record { kind = Number; from = a; to = i } ∷ us) ts e (token {r = Ok us} (decimal_token a p i k (ap is_tail_byte is ∙ g)) (fresh f))

      in_a_number : (a : ℕ) (t y z : Bool) → is_digit_byte b ≡ t → nat_eq b 46 ≡ y → is_tail_byte b ≡ z → Known bytes (in_number a) i
          → Follows (if t then in_number a else if y then in_decimal a i else if z then lost else begun i b) (i + 1) us
          → (if t then Some us else if y then Some us else Some (record { kind = Number; from = a; to = i } ∷ us)) ≡ Some ts → Reads bytes a (Ok ts)
      unfolding is_in
      in_a_number a true y z h q g (l, r) f e = same a us ts e (f.1 (omega arith, one_more Digit a i lt r (ap is_digit_byte is ∙ h)))
      in_a_number a false true z h q g (l, r) f e = same a us ts e (f.1 (l, record { run = r; ends = λ x. ap is_digit_byte is ∙ h }, is ∙ eqb-true b 46 q, none_yet Digit (i + 1) (omega arith)))
      in_a_number a false false true h q g k f e = absurd (f.0 refl)
      in_a_number a false false false h q g k f e = same a (record { kind = Number; from = a; to = i } ∷ us) ts e (token {r = Ok us} (number_token a i k (ap is_tail_byte is ∙ g)) (fresh f))

      at_a_sign : (a c : ℕ) (t : Bool) → joins c b ≡ t → Known bytes (on_sign a c) i → Follows (if t then lost else begun i b) (i + 1) us
          → Some (record { kind = Sign; from = a; to = i } ∷ us) ≡ Some ts → Reads bytes a (Ok ts)
      at_a_sign a c true h k f e = absurd (f.0 refl)
      at_a_sign a c false h k f e = same a (record { kind = Sign; from = a; to = i } ∷ us) ts e (token {r = Ok us} (sign_token a c i k (ap (joins c) is ∙ h)) (fresh f))

      one_byte : (m : Mode) → Known bytes m i → Follows (step m i b) (i + 1) us → closing m i b (Some us) ≡ Some ts → Reads bytes (start m i) (Ok ts)
      unfolding step closing
      one_byte between k f e = same i us ts e (fresh f)
      one_byte (in_word a) k f e = in_a_word a (is_word_byte b) refl k f e
      one_byte (in_number a) k f e = in_a_number a (is_digit_byte b) (nat_eq b 46) (is_tail_byte b) refl refl refl k f e
      one_byte (in_decimal a p) k f e = in_a_decimal a p (is_digit_byte b) (is_tail_byte b) refl refl k f e
      one_byte (on_sign a c) k f e = at_a_sign a c (joins c b) refl k f e
      one_byte lost k f e = absurd (cc)

  sign_ends : (c : ℕ) → joins c 0 ≡ false
  sign_ends c = grind (arith, nat_tests)

  the_end : (m : Mode) (i : ℕ) (ts : List Token) → i ≡ length bytes → Known bytes m i → closing m i 0 (Some []) ≡ Some ts → Reads bytes (start m i) (Ok ts)
  unfolding closing
  the_end m i ts e k d = by m k d where
    zero_there : byte bytes i ≡ 0
    zero_there = get_or_past bytes i 0 (omega arith)

    by : (m : Mode) → Known bytes m i → closing m i 0 (Some []) ≡ Some ts → Reads bytes (start m i) (Ok ts)
    by between k d = same i [] ts d (finished e)
    by (in_word a) k d = same a _ ts d (token {r = Ok []} (word_token a i k (ap is_word_byte zero_there)) (finished e))
    by (in_number a) k d = same a _ ts d (token {r = Ok []} (number_token a i k (ap is_tail_byte zero_there)) (finished e))
    by (in_decimal a p) k d = same a _ ts d (token {r = Ok []} (decimal_token a p i k (ap is_tail_byte zero_there)) (finished e))
    by (on_sign a c) k d = same a _ ts d (token {r = Ok []} (sign_token a c i k (ap (joins c) zero_there ∙ sign_ends c)) (finished e))
    by lost k d = absurd (cc)

  left : (m : Mode) (i b : ℕ) (ts : List Token) (o : Option (List Token)) (R : Type 0) → closing m i b o ≡ Some ts → ((us : List Token) → o ≡ Some us → closing m i b (Some us) ≡ Some ts → R) → R
  unfolding closing
  left m i b ts None R e f = absurd (cc)
  left m i b ts (Some us) R e f = f us refl e

  never_lost : (bs : List ℕ) (i : ℕ) (us : List Token) → cut bs lost i ≡ Some us → ⊥
  unfolding cut closing step
  never_lost [] i us e = cc
  never_lost (b ∷ bs) i us e = left lost i b us (cut bs lost (i + 1)) ⊥ e (λ vs d x. cc)

  cut_from : (bs : List ℕ) (m : Mode) (i : ℕ) (ts : List Token) → drop i bytes ≡ bs → i ≤ length bytes → Known bytes m i → cut bs m i ≡ Some ts → Reads bytes (start m i) (Ok ts)
  unfolding cut
  cut_from [] m i ts d le k e = the_end m i ts (let n : length bytes - i ≡ 0 = sym (length-drop i bytes) ∙ ap length d in omega (arith, n)) k e
  cut_from (b ∷ bs) m i ts d le k e =
      let h = here i b bs d in
      left m i b ts (cut bs (step m i b) (i + 1)) (Reads bytes (start m i) (Ok ts)) e
      (λ us x y. one_byte i b h.0 h.1 us ts m k ((λ z. never_lost bs (i + 1) us (ap (λ n. cut bs n (i + 1)) (sym z) ∙ x)), λ n. cut_from bs (step m i b) (i + 1) us h.2 (let lt = h.0 in omega arith) n x) y)

-- what is cut so are the tokens of the text
pub cut_reads : (bytes : List ℕ) (ts : List Token) → cut bytes between 0 ≡ Some ts → Reads bytes 0 (Ok ts)
cut_reads bytes ts e = cut_from bytes bytes between 0 ts refl (omega arith) tt e
