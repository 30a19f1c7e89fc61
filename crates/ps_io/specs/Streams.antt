-- What a source has left and what a sink holds, where they tell it.
use Rattle.std.specs.Prelude.{◌≡◌, ℕ, ◌≤◌, Option, List, length, take}
use Rattle.std.specs.Io.KnownBytes.{append_known, prepend_known}

-- What is held grew by some bytes from the front of these, perhaps by none. Where it isn't told, it still isn't.
abbrev pub AppendsPrefix : Option (List ℕ) → Option (List ℕ) → List ℕ → Type 0
AppendsPrefix old new bytes = (n : ℕ) × (n ≤ length bytes) × (new ≡ append_known old (take n bytes))

-- What is left is a rest of what was left: some bytes were given, perhaps none. Where it wasn't told, it still isn't.
abbrev pub IsRest : Option (List ℕ) → Option (List ℕ) → Type 0
IsRest old new = (given : List ℕ) × (old ≡ prepend_known given new)
