-- Fractions of natural numbers with a power of two below the stroke.
use Rattle.std.specs.Prelude.{◌≡◌, ℕ, ◌+◌, ◌*◌, ◌^◌, ◌%◌, ◌<◌}

-- m / 2^s is in lowest terms: m is odd, or nothing stands below the stroke
abbrev pub IsLowest : ℕ → ℕ → Type 0
IsLowest m s = 0 < s → m % 2 ≡ 1

-- n / 2^k is m / 2^s, in lowest terms
pub record IsReduced (n k m s : ℕ) : Type 0 where
  pub by : ℕ
  pub top : n ≡ m * 2 ^ by
  pub below : k ≡ s + by
  pub lowest : IsLowest m s
