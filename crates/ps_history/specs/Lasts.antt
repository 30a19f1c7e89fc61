-- The last entries of a kind among those of a seat.
use Rattle.std.specs.Prelude.{ℕ, ◌≡◌, Bool, true, false, List, [], ◌∷◌, ◌++◌, Option}
use Rattle.ps_script.specs.declared.name.Place.{Place}
use Rattle.ps_reach.specs.declared.record.Record.{Record}
use Rattle.ps_reach.specs.declared.task.Task.{Task as ATask}
use Rattle.ps_journal.specs.declared.commands.Cmd.{Cmd}
use Rattle.ps_journal.specs.declared.commands.Cmd.TheVariants as cmd
use Rattle.ps_journal.specs.declared.replies.Reply.{Reply}
use Rattle.ps_journal.specs.declared.replies.Reply.TheVariants.{Pinned, Task, Settled, NoRoom}
use Rattle.ps_journal.specs.History.{Entry}

-- ---- kinds of entries
abbrev pub is_pin : Cmd → Bool
is_pin (cmd.Pin first second) = true
is_pin c = false

abbrev pub is_next : Cmd → Bool
is_next (cmd.Next pinned) = true
is_next c = false

abbrev pub is_publish : Cmd → Bool
is_publish (cmd.Publish kept) = true
is_publish c = false

abbrev pub is_settled : Reply → Bool
is_settled (Settled first second) = true
is_settled r = false

-- e is the last of the entries of which the test is true
pub data LastOf (test : Entry → Bool) : List Entry → Entry → Type 0 where
  newest : (es : List Entry) {e : Entry} → test e ≡ true → LastOf test (es ++ e ∷ []) e
  earlier : {es : List Entry} {e : Entry} (x : Entry) → LastOf test es e → test x ≡ false → LastOf test (es ++ x ∷ []) e

-- ---- what a seat's last ones say
-- its last Pin is of these places, and was done
pub record HasPinned (own : List Entry) (first : Place) (second : Option Place) : Type 0 where
  pub entry : Entry
  pub last : LastOf (λ e. is_pin e.cmd) own entry
  pub cmd_is : entry.cmd ≡ cmd.Pin first second
  pub done : entry.reply ≡ Pinned

-- its last Next gave it this task
pub record WasGiven (own : List Entry) (task : ATask) : Type 0 where
  pub entry : Entry
  pub last : LastOf (λ e. is_next e.cmd) own entry
  pub told : entry.reply ≡ Task task

-- the last Settled that it was told has these records
pub record WasTold (own : List Entry) (first : Record) (second : Option Record) : Type 0 where
  pub entry : Entry
  pub last : LastOf (λ e. is_settled e.reply) own entry
  pub told : entry.reply ≡ Settled first second

-- its last Publish was refused for room, with this total
pub record WasRefused (own : List Entry) (total : ℕ) : Type 0 where
  pub entry : Entry
  pub last : LastOf (λ e. is_publish e.cmd) own entry
  pub told : entry.reply ≡ NoRoom total
