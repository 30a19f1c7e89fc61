-- How the names of circuits are spelled.
use Rattle.std.specs.Prelude.{ℕ, Bool, false, ◌&&◌, ◌||◌, nat_eq, nat_le, List, [], ◌∷◌, length}
use Rattle.std.specs.List.{list_all}

-- a to z
abbrev pub is_lower : ℕ → Bool
is_lower b = nat_le 97 b && nat_le b 122

-- a to z, 0 to 9 and `_`
abbrev pub is_rest : ℕ → Bool
is_rest b = is_lower b || (nat_le 48 b && nat_le b 57) || nat_eq b 95

abbrev pub is_word : List ℕ → Bool
is_word [] = false
is_word (b ∷ bs) = is_lower b && list_all is_rest bs

-- 1 to 32 bytes: a lower-case letter, and then lower-case letters, digits and `_`
unfoldable pub is_name : List ℕ → Bool
is_name bs = nat_le (length bs) 32 && is_word bs
