-- Words in a table, one for each set of the variables of a list, and what they are worth.
use Rattle.std.specs.Prelude.{ℕ, zero, suc, ◌+◌, ◌*◌, ◌%◌, ◌^◌, Bool, true, false, cond, nat_eq, List, [], ◌∷◌, length, get_or}
use Rattle.ps_mono.specs.Sets.{holds, stands}
use Rattle.ps_mono.specs.Truth.{times}

-- the sum of the words, from place i on, of the sets whose variables are all true: first come the sets without the first variable, then those with it
unfoldable pub table_value : List ℕ → List ℕ → ℕ → (ℕ → Bool) → ℕ
table_value [] ts i a = get_or ts i 0
table_value (v ∷ vs) ts i a = table_value vs ts i a + times (a v) (table_value vs ts (i + 2 ^ length vs) a)

-- the place of the set of those variables that stand in m
unfoldable pub place_of : List ℕ → List ℕ → ℕ
place_of [] m = 0
place_of (v ∷ vs) m = cond (stands v m) (2 ^ length vs) 0 + place_of vs m

unfoldable pub is_odd : ℕ → Bool
is_odd n = nat_eq (n % 2) 1

-- how many of the monomials hold
unfoldable pub true_count : List (List ℕ) → (ℕ → Bool) → ℕ
true_count [] a = 0
true_count (m ∷ f) a = times (holds m a) 1 + true_count f a
