-- What was heard of a bell.
use Rattle.std.specs.Prelude.{ℕ}

-- How often it was waited for, and how often it was found closed. Both counts stand still at 2^64 - 1.
pub record Hearing : Type 0 where
  pub waits : ℕ
  pub closings : ℕ
