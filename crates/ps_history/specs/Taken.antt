-- A turn that a seat took, as it sees it.
use Rattle.std.specs.Prelude.{ℕ, ◌≡◌, ◌<◌, List, [], ◌∷◌, ◌++◌}
use Rattle.ps_desk.specs.Views.{entry, IsBeginning}
use Rattle.ps_journal.specs.declared.commands.Cmd.{Cmd}
use Rattle.ps_journal.specs.declared.replies.Reply.{Reply}
use Rattle.ps_journal.specs.History.{Entry, IsLegal, own_entries}

-- what the seat had seen is a beginning of the legal history up to its new entry, which alone is new among its own
pub record IsTurn (seat : ℕ) (old new : List Entry) (c : Cmd) (reply : Reply) : Type 0 where
  pub below : seat < 64
  pub before : List Entry
  pub seen : IsBeginning old before
  pub whole : new ≡ before ++ entry seat c reply ∷ []
  pub lawful : IsLegal new
  pub own : own_entries seat new ≡ own_entries seat old ++ entry seat c reply ∷ []
