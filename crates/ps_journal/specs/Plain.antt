-- Which replies share nothing, and which are refusals.
use Rattle.std.specs.Prelude.{Bool, true, false}
use Rattle.ps_journal.specs.declared.replies.Reply.{Reply}
use Rattle.ps_journal.specs.declared.replies.Reply.TheVariants.{Opened, Committed, Retired, Pinned, Task, Settled, Idle, Published, Stands, Answered, Shown, SumIs}

abbrev pub is_plain : Reply → Bool
is_plain (Task task) = false
is_plain (Settled first second) = false
is_plain (Answered judged proof) = false
is_plain (Shown items) = false
is_plain (SumIs record_of) = false
is_plain _ = true

-- what was asked is not done
abbrev pub is_refusal : Reply → Bool
is_refusal (Opened missing) = false
is_refusal (Committed version missing) = false
is_refusal (Retired claims) = false
is_refusal Pinned = false
is_refusal (Task task) = false
is_refusal (Settled first second) = false
is_refusal Idle = false
is_refusal Published = false
is_refusal Stands = false
is_refusal (Answered judged proof) = false
is_refusal (Shown items) = false
is_refusal (SumIs record_of) = false
is_refusal _ = true
