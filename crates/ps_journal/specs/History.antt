-- Legal histories of the service, the entries of one seat, and session entries.
use Rattle.std.specs.Prelude.{ℕ, Bool, true, false, eqb, filter, List, [], ◌∷◌, ◌++◌, length, Option, Some, None}
use Rattle.ps_desk.specs.declared.entry.Entry.{Entry as EntryOf}
use Rattle.ps_journal.specs.declared.commands.Cmd.{Cmd}
use Rattle.ps_journal.specs.declared.commands.Cmd.TheVariants as cmd
use Rattle.ps_journal.specs.declared.replies.Reply.{Reply}
use Rattle.ps_journal.specs.declared.replies.Reply.TheVariants.{Pinned}
use Rattle.ps_journal.specs.State.{State, empty}
use Rattle.ps_journal.specs.Step.{Step}

abbrev pub Entry : Type 0
Entry = EntryOf Cmd Reply

-- the entries lead from the empty state to this one, each by a step from the state that those before it lead to
pub data LeadsTo : List Entry → State → Type 0 where
  start : LeadsTo [] empty
  next : {es : List Entry} {e : Entry} {t new : State} → LeadsTo es t → Step t (length es) e.seat e.cmd e.reply new → LeadsTo (es ++ e ∷ []) new

-- the entries are a history of the service
abbrev pub IsLegal : List Entry → Type 0
IsLegal es = ∥ ((t : State) × LeadsTo es t) ∥₁

pub nothing_is_legal : IsLegal []
nothing_is_legal = ∣ (empty, start) ∣₁

-- the entries of one seat, in order
abbrev pub own_entries : ℕ → List Entry → List Entry
own_entries seat es = filter (λ e. eqb e.seat seat) es

-- an entry that ends a command of a session: of a Pin, one that is refused
abbrev pub ends_command : Cmd → Reply → Bool
ends_command (cmd.Open name text) r = true
ends_command (cmd.Splice name base from to block) r = true
ends_command (cmd.Retire name version) r = true
ends_command (cmd.Pin first second) Pinned = false
ends_command (cmd.Pin first second) r = true
ends_command (cmd.Next pinned) r = false
ends_command (cmd.Publish kept) r = false
ends_command (cmd.Answer outcome) r = true
ends_command (cmd.Read place) r = true
ends_command (cmd.Sum outcome) r = true

abbrev pub session_entries : List Entry → List Entry
session_entries es = filter (λ e. ends_command e.cmd e.reply) es
