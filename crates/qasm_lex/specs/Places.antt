-- Lines and columns.
use Rattle.std.specs.Prelude.{◌≡◌, ◌≢◌, ℕ, ◌+◌, ◌-◌, ◌<◌, ◌≤◌, ◌⊎◌, ◌==◌, List, count_by, take}
use Rattle.qasm_lex.specs.Tokens.{byte}

-- the place is in the line that begins at a start
pub record IsLine (bytes : List ℕ) (offset start : ℕ) : Type 0 where
  pub ordered : start ≤ offset
  pub begins : (start ≡ 0) ⊎ (byte bytes (start - 1) ≡ 10)
  pub inner : (k : ℕ) → start ≤ k → k < offset → byte bytes k ≢ 10

-- the line is one more than the LFs before the place, the column one more than the bytes before it in its line
pub record IsPlace (bytes : List ℕ) (offset line column : ℕ) : Type 0 where
  pub row : line ≡ 1 + count_by (λ b. b == 10) (take offset bytes)
  pub cell : (start : ℕ) × IsLine bytes offset start × (start + column ≡ offset + 1)
