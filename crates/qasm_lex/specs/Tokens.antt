-- Tokens and gaps, on bytes.
use Rattle.std.specs.Prelude.{◌≡◌, ℕ, ◌+◌, ◌<◌, ◌≤◌, Bool, true, false, ◌&&◌, ◌||◌, not, nat_eq, nat_le, ◌⊎◌, List, [], ◌∷◌, length, get_or, Result, Ok, Err}
use Rattle.qasm_lex.specs.declared.types.Kind.{Kind}
use Rattle.qasm_lex.specs.declared.types.Kind.TheVariants.{Word as WordToken, Number, Text as TextToken, Sign}
use Rattle.qasm_lex.specs.declared.types.Token.{Token}
use Rattle.qasm_lex.specs.declared.types.LexFault.{LexFault}
use Rattle.qasm_lex.specs.declared.types.LexFault.TheVariants.{BadByte, BadNumber, OpenString, Memory}
use Rattle.qasm_lex.specs.declared.types.Class.{Class}
use Rattle.qasm_lex.specs.declared.types.Class.TheVariants.{Word, Digit, Text, Comment}

-- the byte at a place, and 0 past the end, which begins no token and no gap
abbrev pub byte : List ℕ → ℕ → ℕ
byte bytes i = get_or bytes i 0

abbrev pub is_digit_byte : ℕ → Bool
is_digit_byte b = nat_le 48 b && nat_le b 57

abbrev pub is_letter_byte : ℕ → Bool
is_letter_byte b = (nat_le 65 b && nat_le b 90) || (nat_le 97 b && nat_le b 122)

abbrev pub is_word_byte : ℕ → Bool
is_word_byte b = is_letter_byte b || is_digit_byte b || nat_eq b 95

-- space, tab, CR, LF
abbrev pub is_white_byte : ℕ → Bool
is_white_byte b = nat_eq b 32 || nat_eq b 9 || nat_eq b 13 || nat_eq b 10

-- the signs of one byte: ; , ( ) [ ] { } + - * / ^
abbrev pub is_sign_byte : ℕ → Bool
is_sign_byte b = nat_eq b 59 || nat_eq b 44 || nat_eq b 40 || nat_eq b 41 || nat_eq b 91 || nat_eq b 93 || nat_eq b 123 || nat_eq b 125 || nat_eq b 43 || nat_eq b 45 || nat_eq b 42 || nat_eq b 47 || nat_eq b 94

-- e or E, and + or -
abbrev pub is_exponent_byte : ℕ → Bool
is_exponent_byte b = nat_eq b 101 || nat_eq b 69

abbrev pub is_plus_minus_byte : ℕ → Bool
is_plus_minus_byte b = nat_eq b 43 || nat_eq b 45

-- what may not follow a number: a letter, a digit, _ or .
abbrev pub is_tail_byte : ℕ → Bool
is_tail_byte b = is_word_byte b || nat_eq b 46

-- whether a byte is in a class: in a text all but " and LF are, in a comment all but LF
unfoldable pub is_in : Class → ℕ → Bool
is_in Word b = is_word_byte b
is_in Digit b = is_digit_byte b
is_in Text b = not (nat_eq b 34 || nat_eq b 10)
is_in Comment b = not (nat_eq b 10)

-- the bytes from a to b are of the class
pub record Run (class : Class) (bytes : List ℕ) (a b : ℕ) : Type 0 where
  pub ordered : a ≤ b
  pub within : b ≤ length bytes
  pub each : (k : ℕ) → a ≤ k → k < b → is_in class (byte bytes k) ≡ true

-- and the run ends there: with the text, or at a byte that isn't of it
pub record WholeRun (class : Class) (bytes : List ℕ) (a b : ℕ) : Type 0 where
  pub run : Run class bytes a b
  pub ends : b < length bytes → is_in class (byte bytes b) ≡ false

-- a comment runs from // to the end of its line
pub record IsComment (bytes : List ℕ) (a b : ℕ) : Type 0 where
  pub first : byte bytes a ≡ 47
  pub second : byte bytes (a + 1) ≡ 47
  pub run : WholeRun Comment bytes (a + 2) b

-- digits; digits, a point, any digits; a point, digits
pub data IsMantissa (bytes : List ℕ) (a m : ℕ) : Type 0 where
  whole : a < m → Run Digit bytes a m → IsMantissa bytes a m
  point : (b : ℕ) → a < b → Run Digit bytes a b → byte bytes b ≡ 46 → Run Digit bytes (b + 1) m → IsMantissa bytes a m
  front : byte bytes a ≡ 46 → a + 1 < m → Run Digit bytes (a + 1) m → IsMantissa bytes a m

-- nothing, or e or E, an optional sign, digits
pub data IsExponent (bytes : List ℕ) (m b : ℕ) : Type 0 where
  none : m ≡ b → IsExponent bytes m b
  plain : is_exponent_byte (byte bytes m) ≡ true → m + 1 < b → Run Digit bytes (m + 1) b → IsExponent bytes m b
  signed : is_exponent_byte (byte bytes m) ≡ true → is_plus_minus_byte (byte bytes (m + 1)) ≡ true → m + 2 < b → Run Digit bytes (m + 2) b → IsExponent bytes m b

-- the bytes from a to b spell a token
pub data Spells (bytes : List ℕ) : Kind → ℕ → ℕ → Type 0 where
  word : {a b : ℕ} → is_letter_byte (byte bytes a) ≡ true → Run Word bytes (a + 1) b → Spells bytes WordToken a b
  number : {a b : ℕ} (m : ℕ) → IsMantissa bytes a m → IsExponent bytes m b → Spells bytes Number a b
  text : {a b : ℕ} (q : ℕ) → byte bytes a ≡ 34 → Run Text bytes (a + 1) q → byte bytes q ≡ 34 → b ≡ q + 1 → Spells bytes TextToken a b
  sign : {a b : ℕ} → is_sign_byte (byte bytes a) ≡ true → b ≡ a + 1 → Spells bytes Sign a b
  arrow : {a b : ℕ} → byte bytes a ≡ 45 → byte bytes (a + 1) ≡ 62 → b ≡ a + 2 → Spells bytes Sign a b
  equals : {a b : ℕ} → byte bytes a ≡ 61 → byte bytes (a + 1) ≡ 61 → b ≡ a + 2 → Spells bytes Sign a b

-- no longer one stands there
pub record IsLongest (bytes : List ℕ) (kind : Kind) (a b : ℕ) : Type 0 where
  pub spells : Spells bytes kind a b
  pub longest : (k : Kind) (c : ℕ) → Spells bytes k a c → c ≤ b

-- neither white space nor a comment begins there
pub record NoGap (bytes : List ℕ) (a : ℕ) : Type 0 where
  pub inside : a < length bytes
  pub white : is_white_byte (byte bytes a) ≡ false
  pub comment : byte bytes a ≡ 47 → byte bytes (a + 1) ≡ 47 → ⊥

-- a number has nothing at once after it that could go on
abbrev pub IsApart : List ℕ → Kind → ℕ → Type 0
IsApart bytes Number b = is_tail_byte (byte bytes b) ≡ false
IsApart bytes kind b = Unit {0}

-- white space of one byte, or a comment
abbrev pub IsGap : List ℕ → ℕ → ℕ → Type 0
IsGap bytes a b = ((is_white_byte (byte bytes a) ≡ true) × (b ≡ a + 1)) ⊎ IsComment bytes a b

-- the token of this kind from a to b
abbrev pub IsToken : List ℕ → Kind → ℕ → ℕ → Type 0
IsToken bytes kind a b = NoGap bytes a × IsLongest bytes kind a b × IsApart bytes kind b

-- no token stands at a place
abbrev pub NoToken : List ℕ → ℕ → Type 0
NoToken bytes a = (k : Kind) (b : ℕ) → Spells bytes k a b → ⊥

-- why neither a gap nor a token stands at a place
abbrev pub IsFaultOf : List ℕ → ℕ → LexFault → Type 0
IsFaultOf bytes a (BadByte f) = (f ≡ a) × (byte bytes a ≡ 34 → ⊥) × NoToken bytes a
IsFaultOf bytes a (BadNumber f) = (f ≡ a) × (b : ℕ) × IsLongest bytes Number a b × (is_tail_byte (byte bytes b) ≡ true)
IsFaultOf bytes a (OpenString f) = (f ≡ a) × (byte bytes a ≡ 34) × NoToken bytes a
IsFaultOf bytes a Memory = ⊥

abbrev pub IsFault : List ℕ → ℕ → LexFault → Type 0
IsFault bytes a f = NoGap bytes a × IsFaultOf bytes a f

-- a token before what is read from its end on
abbrev pub before : Token → Result (List Token) LexFault → Result (List Token) LexFault
before t (Ok ts) = Ok (t ∷ ts)
before t (Err f) = Err f

-- From a on the bytes are cut into these tokens and gaps, or have this first fault.
pub data Reads (bytes : List ℕ) : ℕ → Result (List Token) LexFault → Type 0 where
  finished : {a : ℕ} → a ≡ length bytes → Reads bytes a (Ok [])
  gap : {a b : ℕ} {r : Result (List Token) LexFault} → a < length bytes → IsGap bytes a b → Reads bytes b r → Reads bytes a r
  token : {a b : ℕ} {kind : Kind} {r : Result (List Token) LexFault} → IsToken bytes kind a b → Reads bytes b r → Reads bytes a (before (record { kind = kind; from = a; to = b }) r)
  bad : {a : ℕ} {f : LexFault} → IsFault bytes a f → Reads bytes a (Err f)

-- what was answered, want of memory aside
abbrev pub Told : LexFault → (LexFault → Type 0) → Type 0
Told Memory P = Unit {0}
Told f P = P f

-- no other reading of the bytes
abbrev pub IsOnly : List ℕ → Result (List Token) LexFault → Type 0
IsOnly bytes r = (s : Result (List Token) LexFault) → Reads bytes 0 s → s ≡ r
