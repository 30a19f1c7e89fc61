-- The number that a token spells.
use Rattle.std.specs.Prelude.{◌≡◌, ◌≢◌, ℕ, ◌+◌, ◌-◌, ◌*◌, ◌^◌, ◌%◌, Bool, true, false, nat_eq, ℤ, pos, neg_ℤ, ◌+ℤ◌, ◌-ℤ◌, List, length, filter, fold, min, get_or, ◌&&◌, nat_le}
use Rattle.std.specs.List.{before_first, after_first}
use Rattle.std.specs.Int.{int_min, int_max}
use Rattle.qasm_lex.specs.Tokens.{is_digit_byte, is_exponent_byte}

-- the number that digits spell
abbrev pub decimal : List ℕ → ℕ
decimal ds = fold (λ n d. n * 10 + (d - 48)) 0 (filter is_digit_byte ds)

-- the bytes before e or E, and those behind
abbrev pub mantissa : List ℕ → List ℕ
mantissa text = before_first is_exponent_byte text

abbrev pub is_point : ℕ → Bool
is_point b = nat_eq b 46

-- how many digits stand behind the point
abbrev pub places : List ℕ → ℕ
places text = length (after_first is_point (mantissa text))

-- -n, or n
abbrev pub with_sign : Bool → ℕ → ℤ
with_sign true n = neg_ℤ (pos n)
with_sign false n = pos n

-- the power of ten behind e or E
abbrev pub signed_by : List ℕ → ℤ
signed_by ds = with_sign (nat_eq (get_or ds 0 0) 45) (decimal ds)

abbrev pub exponent : List ℕ → ℤ
exponent text = signed_by (after_first is_exponent_byte text)

-- z, or the nearer of -10^9 and 10^9 where it is beyond them
abbrev pub held : ℤ → ℤ
held z = int_max (neg_ℤ (pos 1000000000)) (int_min (pos 1000000000) z)

-- The digits without the point, less trailing zeros, are d, and the value is d·10^g; where all digits are 0, both are 0.
-- Told are d, or 10^18 where it is larger, and g, held between -10^9 and 10^9.
pub data IsNumeral (text : List ℕ) (digits : ℕ) (ten : ℤ) : Type 0 where
  none : decimal (mantissa text) ≡ 0 → digits ≡ 0 → ten ≡ pos 0 → IsNumeral text digits ten
  some : (d zeros : ℕ) → decimal (mantissa text) ≡ d * 10 ^ zeros → d % 10 ≢ 0 → digits ≡ min d 1000000000000000000 → ten ≡ held (exponent text +ℤ pos zeros -ℤ pos (places text)) → IsNumeral text digits ten

-- whether a byte is a digit other than 0
abbrev pub is_significant : ℕ → Bool
is_significant b = nat_le 49 b && nat_le b 57
