-- Tokens that a text is cut into are within it, and no more than its bytes.
use Rattle.std.proofs.Common.{◌≡◌, ℕ, ◌+◌, ◌<◌, ◌≤◌, List, length, arith, sym, ◌∙◌, ap, refl, Result, Ok, Err, inl, inr, true}
use Rattle.std.specs.Prelude.{All}
use Rattle.std.proofs.lemmas.List.{get_or_past, length-map}
use Rattle.std.proofs.lemmas.Bool.{cases_lt}
use Rattle.std.proofs.lemmas.List.Elements.{All-cons}
use Rattle.qasm_lex.specs.declared.types.Kind.{Kind}
use Rattle.qasm_lex.specs.declared.types.Token.{Token}
use Rattle.qasm_lex.specs.declared.types.LexFault.{LexFault}
use Rattle.qasm_lex.specs.Tokens.{byte, is_sign_byte, IsMantissa, whole, point, front, IsExponent, none, plain, signed, Spells, word, number, text, sign, arrow, equals, IsGap, before, Reads, finished, gap, token, bad}
use Rattle.qasm_parse.specs.declared.sort.Sort.{Sort}
use Rattle.qasm_parse.specs.Sorts.{IsWithin, sort_of, sorts_of}

-- a byte other than 0 stands in the text
some_byte : (bytes : List ℕ) (i n : ℕ) → byte bytes i ≡ n → (n ≡ 0 → ⊥) → i < length bytes
some_byte bytes i n e ne = elim (cases_lt i (length bytes)) [ inl lt ↦ lt | inr le ↦ absurd (ne (sym e ∙ get_or_past bytes i 0 le)) ]

sign_byte : (bytes : List ℕ) (a : ℕ) → is_sign_byte (byte bytes a) ≡ true → a < length bytes
sign_byte bytes a h = some_byte bytes a (byte bytes a) refl (λ e. let x : is_sign_byte 0 ≡ true = ap is_sign_byte (sym e) ∙ h in cc)

mantissa_in : (bytes : List ℕ) (a m : ℕ) → IsMantissa bytes a m → (a < m) × (m ≤ length bytes)
mantissa_in bytes a m (whole lt r) = (lt, r.within)
mantissa_in bytes a m (point b lt r e s) = let o = s.ordered in (omega arith, s.within)
mantissa_in bytes a m (front e lt r) = (omega arith, r.within)

exponent_in : (bytes : List ℕ) (m b : ℕ) → m ≤ length bytes → IsExponent bytes m b → (m ≤ b) × (b ≤ length bytes)
exponent_in bytes m b h (none e) = (omega arith, omega arith)
exponent_in bytes m b h (plain e lt r) = (omega arith, r.within)
exponent_in bytes m b h (signed e g lt r) = (omega arith, r.within)

spelled_in : (bytes : List ℕ) (k : Kind) (a b : ℕ) → Spells bytes k a b → (a < b) × (b ≤ length bytes)
spelled_in bytes k a b (word h r) = let o = r.ordered in (omega arith, r.within)
spelled_in bytes k a b (number m x y) =
    let p : (a < m) × (m ≤ length bytes) = mantissa_in bytes a m x in
    let q : (m ≤ b) × (b ≤ length bytes) = exponent_in bytes m b p.1 y in
    let u : a < m = p.0 in let v : m ≤ b = q.0 in
    (omega arith, q.1)
spelled_in bytes k a b (text q h r e f) =
    let o = r.ordered in
    let lt : q < length bytes = some_byte bytes q 34 e (λ x. cc) in
    (omega arith, omega arith)
spelled_in bytes k a b (sign h e) = let lt = sign_byte bytes a h in (omega arith, omega arith)
spelled_in bytes k a b (arrow h g e) = let lt : a + 1 < length bytes = some_byte bytes (a + 1) 62 g (λ x. cc) in (omega arith, omega arith)
spelled_in bytes k a b (equals h g e) = let lt : a + 1 < length bytes = some_byte bytes (a + 1) 61 g (λ x. cc) in (omega arith, omega arith)

gap_on : (bytes : List ℕ) (a b : ℕ) → IsGap bytes a b → a < b
gap_on bytes a b (inl (w, e)) = omega arith
gap_on bytes a b (inr m) = let o = m.run.run.ordered in omega arith

-- what is known of the tokens from a place on
abbrev Inside : List ℕ → ℕ → Result (List Token) LexFault → Type 0
Inside bytes a (Ok ts) = All (IsWithin bytes) ts × (length ts + a ≤ length bytes)
Inside bytes a (Err f) = Unit {0}

one_before : (bytes : List ℕ) (a b : ℕ) (kind : Kind) (r : Result (List Token) LexFault) → a < b → b ≤ length bytes → Inside bytes b r → Inside bytes a (before (record { kind = kind; from = a; to = b }) r)
one_before bytes a b kind (Err f) lt le h = tt
one_before bytes a b kind (Ok ts) lt le (all, few) = (All-cons (IsWithin bytes) (record { kind = kind; from = a; to = b }) ts (lt, le) all, omega arith)

further : (bytes : List ℕ) (a b : ℕ) (r : Result (List Token) LexFault) → a < b → Inside bytes b r → Inside bytes a r
further bytes a b (Ok ts) lt (all, few) = (all, omega arith)
further bytes a b (Err f) lt h = tt

inside : (bytes : List ℕ) (a : ℕ) (r : Result (List Token) LexFault) → Reads bytes a r → Inside bytes a r
inside bytes a r (finished e) = (λ k d lt. absurd (omega arith), omega arith)
inside bytes a r (gap {b = b} lt g h) = further bytes a b r (gap_on bytes a b g) (inside bytes b r h)
inside bytes a r (token {b = b} {kind = k} {r = s} t h) =
    let p : (a < b) × (b ≤ length bytes) = spelled_in bytes k a b t.1.spells in
    one_before bytes a b k s p.0 p.1 (inside bytes b s h)
inside bytes a r (bad h) = tt

pub all_within : (bytes : List ℕ) (ts : List Token) → Reads bytes 0 (Ok ts) → All (IsWithin bytes) ts
all_within bytes ts h = (inside bytes 0 (Ok ts) h).0

pub few_tokens : (bytes : List ℕ) (ts : List Token) → Reads bytes 0 (Ok ts) → length ts ≤ length bytes
few_tokens bytes ts h = let p : length ts + 0 ≤ length bytes = (inside bytes 0 (Ok ts) h).1 in omega arith

pub sorts_few : (bytes : List ℕ) (ts : List Token) (sorts : List Sort) → Reads bytes 0 (Ok ts) → length bytes ≤ 16777216 → sorts ≡ sorts_of bytes ts → length sorts ≤ 16777216
sorts_few bytes ts sorts h small e = omega (arith, few_tokens bytes ts h, ap length e, length-map ts (sort_of bytes))
