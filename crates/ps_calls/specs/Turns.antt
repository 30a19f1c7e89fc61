-- What takes turns, and what a turn makes of it.
use Rattle.std.specs.Prelude.{ℕ, ◌≡◌, ◌<◌, ◌≤◌, Bool, true, List, [], ◌∷◌, ◌++◌, length, Option, Some, None}
use Rattle.atomic_table.specs.Seated.{TableId}
use Rattle.ps_desk.specs.Rule.{Core}
use Rattle.ps_desk.specs.Views.{entry, IsBeginning}
use Rattle.ps_journal.specs.declared.commands.Cmd.{Cmd}
use Rattle.ps_journal.specs.declared.replies.Reply.{Reply}
use Rattle.ps_journal.specs.History.{Entry, IsLegal, own_entries}

-- a desk, or a book that is lent, as this borrow of it
pub data Over : Type 0 where
  desk : TableId → Over
  lent : ℕ → Over

-- What is known of what takes turns: its number, what it stands over, whether nobody else takes turns there, what else of its seat no
-- turn changes, the journal that it has seen, and the ticket that it was refused.
pub record TurnView : Type 0 where
  pub number : ℕ
  pub over : Over
  pub alone : Bool
  pub rest : Option (Core Cmd Reply)
  pub seen : List Entry
  pub refused : Option ℕ

-- what no turn changes
pub record Stays (old new : TurnView) : Type 0 where
  pub number : new.number ≡ old.number
  pub over : new.over ≡ old.over
  pub alone : new.alone ≡ old.alone
  pub rest : new.rest ≡ old.rest

-- a turn was answered: the legal journal up to its one new entry is seen
pub record Turned (old new : TurnView) (c : Cmd) (reply : Reply) : Type 0 where
  pub before : List Entry
  pub seen : IsBeginning old.seen before
  pub whole : new.seen ≡ before ++ entry old.number c reply ∷ []
  pub lawful : IsLegal new.seen
  pub own : own_entries old.number new.seen ≡ own_entries old.number old.seen ++ entry old.number c reply ∷ []
  pub below : length before < 262144
  pub unrefused : new.refused ≡ None
  pub alone : old.alone ≡ true → before ≡ old.seen

-- a turn was refused, with this ticket
pub record Refused (old new : TurnView) (ticket : ℕ) : Type 0 where
  pub seen : new.seen ≡ old.seen
  pub refused : new.refused ≡ Some ticket
  pub late : 262144 ≤ ticket
