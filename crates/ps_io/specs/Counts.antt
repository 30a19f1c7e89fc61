-- Counts of events, kept in 64 bits.
use Rattle.std.specs.Prelude.{ℕ, ◌+◌, ◌-◌, ◌^◌, ◌≤◌, min}

-- The count after one more event. It stands still at the last value of its type.
abbrev pub one_more : ℕ → ℕ
one_more count = min (count + 1) (2 ^ 64 - 1)

-- The count rose: it is at least one higher, or stands at the last value of its type.
abbrev pub Rose : ℕ → ℕ → Type 0
Rose old new = one_more old ≤ new
