-- The journals of an object that counts: each turn is told how many came before it.
use Rattle.std.specs.Prelude.{◌≡◌, ℕ, ◌+◌, ◌==◌, ◌&&◌, Bool, true, List, [], ◌∷◌}
use Rattle.ps_desk.specs.declared.entry.Entry.{Entry}

abbrev pub is_counted : ℕ → List (Entry ℕ ℕ) → Bool
is_counted n [] = true
is_counted n (e ∷ es) = (e.reply == n) && is_counted (n + 1) es

abbrev pub IsCounted : List (Entry ℕ ℕ) → Type 0
IsCounted es = is_counted 0 es ≡ true
