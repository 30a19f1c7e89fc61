-- Pieces of bytes up to a mark.
use Rattle.std.specs.Prelude.{◌≡◌, ◌≢◌, ℕ, ◌+◌, ◌-◌, ◌*◌, ◌<◌, ◌≤◌, Bool, true, ◌&&◌, not, nat_eq, List, [], ◌∷◌, ◌++◌, decimal}
use Rattle.std.specs.List.{list_all}

-- the mark stands nowhere in the bytes
abbrev pub lacks : ℕ → List ℕ → Bool
lacks mark bs = list_all (λ b. not (nat_eq b mark)) bs

-- the piece before the first mark, and what stands behind it
pub record Splits (mark : ℕ) (bytes piece rest : List ℕ) : Type 0 where
  pub whole : lacks mark piece ≡ true
  pub parted : bytes ≡ piece ++ mark ∷ rest

-- the bytes are just the number, below the bound
pub record SpellsBelow (bound : ℕ) (bytes : List ℕ) (v : ℕ) : Type 0 where
  pub spelled : decimal v ≡ bytes
  pub below : v < bound

abbrev pub SpellsNone : ℕ → List ℕ → Type 0
SpellsNone bound bytes = (w : ℕ) → w < bound → decimal w ≢ bytes

-- one more digit behind a number: no zero leads, and the new number is v
pub record IsNext (seen place digit bound v : ℕ) : Type 0 where
  pub low : 48 ≤ digit
  pub high : digit ≤ 57
  pub led : seen ≡ 0 → place ≡ 0
  pub value : v ≡ 10 * seen + (digit - 48)
  pub below : v < bound

abbrev pub IsNoNext : ℕ → ℕ → ℕ → ℕ → Type 0
IsNoNext seen place digit bound = (v : ℕ) → IsNext seen place digit bound v → ⊥
