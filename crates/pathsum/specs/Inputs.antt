-- The digits of basis inputs.
use Rattle.std.specs.Prelude.{ℕ, Bool, true, false}

-- the byte of a truth value
abbrev pub bit_code : Bool → ℕ
bit_code true = 49
bit_code false = 48
