-- Where faults of texts and blocks are told.
use Rattle.std.specs.Prelude.{ℕ, min, List, length}
use Rattle.qasm_lex.specs.Places.{IsPlace}

-- the line and the column, from 1, of the place of a fault, which is the end of the bytes at most
abbrev pub IsToldAt : List ℕ → ℕ → ℕ → ℕ → Type 0
IsToldAt bytes at line column = IsPlace bytes (min at (length bytes)) line column
