-- Whether a polynomial has the monomial 1.
use Rattle.std.specs.Prelude.{ℕ, Bool, true, false, List, [], ◌∷◌}

-- the first monomial is the empty one, which comes before all others
unfoldable pub has_one : List (List ℕ) → Bool
has_one [] = false
has_one ([] ∷ f) = true
has_one ((v ∷ m) ∷ f) = false
