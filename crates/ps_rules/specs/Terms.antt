-- The terms of a phase polynomial in which a variable stands.
use Rattle.std.specs.Prelude.{ℕ, ◌≡◌, true, not, ◌&&◌, cond, nat_eq, nat_lt, List, [], ◌∷◌}
use Rattle.std.specs.Cmp.Lexicographic.{pointwise}
use Rattle.ps_mono.specs.Sets.{stands}
use Rattle.ps_phase.specs.declared.terms.Term.{Term}

-- R holds of each term in which v stands
abbrev pub EachWith : ℕ → (Term → Type 0) → List Term → Type 0
EachWith v R [] = Unit {0}
EachWith v R (t ∷ ts) = (stands v t.mono ≡ true → R t) × EachWith v R ts

-- the term turns by half a turn
abbrev pub IsHalf : Term → Type 0
IsHalf t = t.phase ≡ 2147483648

-- the product of two different variables
unfoldable pub both : ℕ → ℕ → List ℕ
both u v = cond (nat_lt u v) (u ∷ v ∷ []) (v ∷ u ∷ [])

-- the monomials of the terms in which v stands, but for m
unfoldable pub others : ℕ → List ℕ → List Term → List (List ℕ)
others v m [] = []
others v m (t ∷ ts) = cond (stands v t.mono && not (pointwise nat_eq m t.mono)) (t.mono ∷ others v m ts) (others v m ts)
