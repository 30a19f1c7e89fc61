-- Where parts of a token end, and what stands at a place: words for the contracts inside the crate.
use Rattle.std.specs.Prelude.{◌≡◌, ℕ, ◌<◌, ◌≤◌, Bool, true, ◌||◌, nat_eq, ◌⊎◌, List, length, Option, Some, None}
use Rattle.qasm_lex.specs.declared.types.Kind.{Kind}
use Rattle.qasm_lex.specs.declared.types.Piece.{Piece}
use Rattle.qasm_lex.specs.declared.types.Piece.TheVariants.{Gap, Token as TokenPiece, Bad}
use Rattle.qasm_lex.specs.Tokens.{byte, is_digit_byte, IsMantissa, IsExponent, IsLongest, NoToken, IsGap, IsToken, IsFault}

abbrev pub is_inner_byte : ℕ → Bool
is_inner_byte b = is_digit_byte b || nat_eq b 46

-- the longest mantissa; after a shorter one stands a digit or a point
pub record MantissaEnd (bytes : List ℕ) (a m : ℕ) : Type 0 where
  pub is : IsMantissa bytes a m
  pub longest : (c : ℕ) → IsMantissa bytes a c → (c ≡ m) ⊎ ((c < m) × (is_inner_byte (byte bytes c) ≡ true))
  pub within : m ≤ length bytes

pub record ExponentEnd (bytes : List ℕ) (m b : ℕ) : Type 0 where
  pub is : IsExponent bytes m b
  pub longest : (c : ℕ) → IsExponent bytes m c → c ≤ b
  pub ordered : m ≤ b
  pub within : b ≤ length bytes

-- a token of this kind, or none
abbrev pub LongestOrNone : List ℕ → Kind → ℕ → Option ℕ → Type 0
LongestOrNone bytes kind a (Some b) = IsLongest bytes kind a b × (a < b) × (b ≤ length bytes)
LongestOrNone bytes kind a None = NoToken bytes a

-- what stands at a place
abbrev pub Stands : List ℕ → ℕ → Piece → Type 0
Stands bytes a (Gap b) = IsGap bytes a b
Stands bytes a (TokenPiece kind b) = IsToken bytes kind a b
Stands bytes a (Bad f) = IsFault bytes a f

-- a piece goes on, and not past the end
abbrev pub Advances : List ℕ → ℕ → Piece → Type 0
Advances bytes a (Gap b) = (a < b) × (b ≤ length bytes)
Advances bytes a (TokenPiece _ b) = (a < b) × (b ≤ length bytes)
Advances bytes a (Bad f) = Unit {0}
