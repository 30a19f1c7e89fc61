-- Words on truth values that polynomials share.
use Rattle.std.specs.Prelude.{ℕ, Bool, true, false, cond, nat_eq}

-- the two differ: addition modulo 2
unfoldable pub differ : Bool → Bool → Bool
differ true true = false
differ true false = true
differ false true = true
differ false false = false

-- n where b is true, else 0
unfoldable pub times : Bool → ℕ → ℕ
times true n = n
times false n = 0

-- the assignment a with b as the value of v
abbrev pub with_value : (ℕ → Bool) → ℕ → Bool → ℕ → Bool
with_value a v b u = cond (nat_eq u v) b (a u)
