-- Two lists of terms woven into one, from their ends on.
use Rattle.std.specs.Prelude.{ℕ, ◌≡◌, ◌+◌, ◌%◌, ◌<◌, ◌≤◌, Bool, List, length, take, drop, get_or}
use Rattle.ps_phase.specs.declared.terms.Term.{Term}
use Rattle.ps_phase.specs.Phases.{phase_value, TermBefore, IsPhasePoly}

-- of xs and ys, i and j terms are left, and the sum of the others stands in ts from place w on
pub record Weaving (xs ys : List Term) (i j w : ℕ) (ts : List Term) : Type 0 where
  pub inside_first : i ≤ length xs
  pub inside_second : j ≤ length ys
  pub room : i + j ≤ w
  pub within : w ≤ length ts
  pub front : take i ts ≡ take i xs
  pub form : IsPhasePoly (drop w ts)
  pub first_before : (d : Term) (k : ℕ) → k < i → TermBefore (get_or xs k d).mono (drop w ts)
  pub second_before : (d : Term) (k : ℕ) → k < j → TermBefore (get_or ys k d).mono (drop w ts)
  pub value : (a : ℕ → Bool) → (phase_value (take i xs) a + (phase_value (take j ys) a + phase_value (drop w ts) a)) % 4294967296 ≡ (phase_value xs a + phase_value ys a) % 4294967296
