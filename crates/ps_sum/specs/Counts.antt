-- How many terms a substitution makes before any are added.
use Rattle.std.specs.Prelude.{ℕ, zero, suc, ◌+◌, ◌-◌, ◌%◌, ◌^◌, cond, nat_eq, min, List, [], ◌∷◌}
use Rattle.ps_phase.specs.declared.terms.Term.{Term}
use Rattle.ps_mono.specs.Sets.{stands}

-- how many of the subsets of t things have s members
unfoldable pub binomial : ℕ → ℕ → ℕ
binomial t zero = 1
binomial zero (suc s) = 0
binomial (suc t) (suc s) = binomial t s + binomial t (suc s)

-- how many of the subsets of t things have from 1 to n members
unfoldable pub subsets : ℕ → ℕ → ℕ
subsets t zero = 0
subsets t (suc n) = subsets t n + binomial t (suc n)

-- the greatest p, at most n, such that 2^p divides u
unfoldable pub twos : ℕ → ℕ → ℕ
twos u zero = 0
twos u (suc n) = cond (nat_eq (u % 2 ^ suc n) 0) (suc n) (twos u n)

-- so many terms come of a phase where a variable is replaced by t monomials: a product of s of them
-- has the phase 2^(s-1) times, up to the sign, and that is no whole number of turns
unfoldable pub raw_term : ℕ → ℕ → ℕ
raw_term phase t = subsets t (min (32 - twos phase 32) t)

-- the terms without v, and what comes of those with v
unfoldable pub raw_phase : ℕ → ℕ → List Term → ℕ
raw_phase v t [] = 0
raw_phase v t (x ∷ xs) = cond (stands v x.mono) (raw_term x.phase t) 1 + raw_phase v t xs

-- the monomials without v, and t for each with v
unfoldable pub raw_bool : ℕ → ℕ → List (List ℕ) → ℕ
raw_bool v t [] = 0
raw_bool v t (m ∷ f) = cond (stands v m) t 1 + raw_bool v t f
