-- What the lines of a script have to do with the entries of a journal.
use Rattle.std.specs.Prelude.{ℕ, ◌+◌, ◌≡◌, ◌≤◌, List, [], ◌∷◌, ◌++◌, eqb, filter, map, length}
use Rattle.ps_script.specs.declared.command.Command.{Command}
use Rattle.ps_script.specs.declared.script.Line.{Line}
use Rattle.ps_journal.specs.declared.replies.Reply.{Reply}
use Rattle.ps_journal.specs.History.{Entry, own_entries}
use Rattle.ps_history.specs.Inner.{Idles}
use Rattle.ps_history.specs.Matching.{Answers}
use Rattle.ps_history.specs.Bounds.{IsBounded}
use Rattle.ps_calls.specs.Calls.{GrowsBy}

-- ---- whose the lines are
-- the seat of a line's session
abbrev pub seat_of : Line → ℕ
seat_of l = l.session + 1

-- the commands of a seat among these lines, in order
abbrev pub commands_of : ℕ → List Line → List Command
commands_of seat ls = map (λ l. l.command) (filter (λ l. eqb (seat_of l) seat) ls)

-- ---- what one line adds
-- entries of its seat alone, within the bound of its command, with so many to spare
pub record Adds (l : Line) (old new : List Entry) (spare : ℕ) : Type 0 where
  pub by : GrowsBy (seat_of l) old new
  pub bounded : IsBounded l.command (seat_of l) (own_entries (seat_of l) old) (own_entries (seat_of l) new) new spare

-- the line is answered: its seat has the one answer more, with this reply
pub record AnswersLine (l : Line) (reply : Reply) (old new : List Entry) : Type 0 where
  pub adds : Adds l old new 0
  pub answers : Answers l.command reply (own_entries (seat_of l) old) (own_entries (seat_of l) new)

-- the line is broken off by a refused ticket: its seat has inner entries alone, and the journal is full
pub record BreaksOff (l : Line) (ticket : ℕ) (old new : List Entry) : Type 0 where
  pub adds : Adds l old new 1
  pub idles : Idles (own_entries (seat_of l) old) (own_entries (seat_of l) new)
  pub late : ticket ≡ 262144
  pub full : 262144 ≤ length new

-- ---- what lines add one after another
pub data Serves : List Line → List Entry → Type 0 where
  start : Serves [] []
  next : {ls : List Line} {es new : List Entry} (l : Line) → Serves ls es → Adds l es new 0 → Serves (ls ++ l ∷ []) new
