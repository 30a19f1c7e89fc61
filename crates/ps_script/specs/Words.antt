-- Words with single spaces between them, and numbers.
use Rattle.std.specs.Prelude.{◌≡◌, ◌≢◌, ℕ, ◌+◌, ◌*◌, ◌%◌, ◌^◌, ◌<◌, ◌==◌, List, [], ◌∷◌, decimal}
use Rattle.std.specs.List.{slice_split}

-- The words of the bytes: each space ends one. Two spaces side by side have an empty word between them.
abbrev pub words : List ℕ → List (List ℕ)
words bytes = slice_split (λ b. b == 32) bytes

-- The bytes are the number v below 2^32, as it is written,
pub record SpellsNumber (bytes : List ℕ) (v : ℕ) : Type 0 where
  pub spelled : decimal v ≡ bytes
  pub below : v < 2 ^ 32

-- or no such number.
abbrev pub NoNumber : List ℕ → Type 0
NoNumber bytes = (v : ℕ) → v < 2 ^ 32 → decimal v ≢ bytes

-- What the bytes come to as digits, modulo 2^32, behind the digits of v.
unfoldable pub digits_value : ℕ → List ℕ → ℕ
digits_value v [] = v
digits_value v (b ∷ bs) = digits_value (((v * 10) % 2 ^ 32 + (b + 208) % 256) % 2 ^ 32) bs
