-- Lists of truth values.
use Rattle.std.specs.Prelude.{ℕ, Bool, true, false, List, [], ◌∷◌, get_or}

-- a truth value for each of some variables, variable 0 first
abbrev pub Truths : Type 0
Truths = List Bool

-- bit q of z, and false past its end
abbrev pub bit : Truths → ℕ → Bool
bit z q = get_or z q false

-- the two lists are one
unfoldable pub same_bits : Truths → Truths → Bool
same_bits [] [] = true
same_bits [] (y ∷ ys) = false
same_bits (x ∷ xs) [] = false
same_bits (true ∷ xs) (true ∷ ys) = same_bits xs ys
same_bits (true ∷ xs) (false ∷ ys) = false
same_bits (false ∷ xs) (true ∷ ys) = false
same_bits (false ∷ xs) (false ∷ ys) = same_bits xs ys
