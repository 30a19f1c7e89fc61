-- The names of the second sum's variables in a join.
use Rattle.std.specs.Prelude.{ℕ, ◌≡◌, ◌+◌, ◌<◌, ◌||◌, Bool, false, nat_eq, List, [], ◌∷◌}
use Rattle.ps_ring.specs.Truths.{bit}
use Rattle.ps_ring.specs.Readings.{Assignment, second_name}
use Rattle.ps_sum.specs.Outs.{values}

-- w is the name of a variable of m
unfoldable pub stands_as : ℕ → ℕ → ℕ → ℕ → List ℕ → Bool
stands_as n m1 m2 w [] = false
stands_as n m1 m2 w (u ∷ m) = nat_eq w (second_name n m1 m2 u) || stands_as n m1 m2 w m

-- a gives the second's inputs, under their own names, the values of the first's outputs fs
abbrev pub Agrees : ℕ → ℕ → ℕ → List (List (List ℕ)) → Assignment → Type 0
Agrees n m1 m2 fs a = (u : ℕ) → u < n → a (n + (m1 + m2) + u) ≡ bit (values fs a) u
