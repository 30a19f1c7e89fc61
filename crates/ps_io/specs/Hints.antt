-- Hints to stop.
use Rattle.std.specs.Prelude.{ℕ, Bool, true, false}
use Rattle.ps_io.specs.Counts.{one_more}

-- Whose flag is asked, and how often the answer was yes.
pub record HintState : Type 0 where
  pub seat : ℕ
  pub yeses : ℕ

-- The count of yeses after one more answer.
abbrev pub counted : Bool → ℕ → ℕ
counted true yeses = one_more yeses
counted false yeses = yeses
