-- Entries of a seat that answer no command of a script.
use Rattle.std.specs.Prelude.{◌≡◌, false, List, [], ◌∷◌, ◌++◌, Some}
use Rattle.ps_reach.specs.declared.record.Record.{Record}
use Rattle.ps_reach.specs.declared.task.Task.{Task}
use Rattle.ps_normal.specs.Fillings.{IsRecordFor}
use Rattle.ps_journal.specs.declared.commands.Cmd.{Cmd}
use Rattle.ps_journal.specs.declared.commands.Cmd.TheVariants as cmd
use Rattle.ps_journal.specs.History.{Entry, ends_command}
use Rattle.ps_history.specs.Lasts.{WasGiven}

-- the record is what filling the task of the seat's last Next gives
pub record IsFilledFor (own : List Entry) (r : Record) : Type 0 where
  pub task : Task
  pub given : WasGiven own task
  pub filled : IsRecordFor task.n task.work r

-- a Publish with a record is of such a one
abbrev pub PublishesFilled : List Entry → Cmd → Type 0
PublishesFilled own (cmd.Publish (Some r)) = IsFilledFor own r.value
PublishesFilled own c = Unit {0}

-- the entry, behind those before it of the same seat, answers no command; a record in it is the one that was asked for, refused or not
pub record IsInner (own : List Entry) (e : Entry) : Type 0 where
  pub inner : ends_command e.cmd e.reply ≡ false
  pub filled : PublishesFilled own e.cmd

-- inner entries came in addition
pub data Idles (own : List Entry) : List Entry → Type 0 where
  none : Idles own own
  more : {es : List Entry} (e : Entry) → Idles own es → IsInner es e → Idles own (es ++ e ∷ [])
