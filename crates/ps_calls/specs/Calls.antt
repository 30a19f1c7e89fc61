-- What a call makes of what takes turns.
use Rattle.std.specs.Prelude.{ℕ, ◌≡◌, ◌≤◌, true, List, ◌++◌, Some, None}
use Rattle.ps_script.specs.declared.command.Command.{Command}
use Rattle.ps_desk.specs.Views.{IsBeginning}
use Rattle.ps_journal.specs.declared.replies.Reply.{Reply}
use Rattle.ps_journal.specs.History.{Entry, IsLegal, own_entries}
use Rattle.ps_history.specs.Inner.{Idles}
use Rattle.ps_history.specs.Matching.{Answers}
use Rattle.ps_history.specs.Bounds.{IsBounded}
use Rattle.ps_calls.specs.Turns.{TurnView, Stays}

abbrev pub own : TurnView → List Entry
own v = own_entries v.number v.seen

-- the command was done: the seat has its one answer, with this reply, within the bound of entries; no ticket is refused
pub record Done (c : Command) (reply : Reply) (old new : TurnView) : Type 0 where
  pub answers : Answers c reply (own old) (own new)
  pub bounded : IsBounded c old.number (own old) (own new) new.seen 0
  pub lawful : IsLegal new.seen
  pub unrefused : new.refused ≡ None

-- the command was cut short by a refused ticket: the seat has inner entries alone, fewer than the bound
pub record Cut (c : Command) (ticket : ℕ) (old new : TurnView) : Type 0 where
  pub idles : Idles (own old) (own new)
  pub bounded : IsBounded c old.number (own old) (own new) new.seen 1
  pub refused : new.refused ≡ Some ticket
  pub late : 262144 ≤ ticket

-- these entries are all of the seat
pub record GrowsBy (seat : ℕ) (old new : List Entry) : Type 0 where
  pub added : List Entry
  pub whole : new ≡ old ++ added
  pub own : own_entries seat added ≡ added

-- what was seen grows, by the seat's own entries where nobody else takes turns, and stays legal
pub record Grows (old new : TurnView) : Type 0 where
  pub stays : Stays old new
  pub seen : IsBeginning old.seen new.seen
  pub alone : old.alone ≡ true → GrowsBy old.number old.seen new.seen
  pub lawful : IsLegal old.seen → IsLegal new.seen
