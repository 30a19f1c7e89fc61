-- What the turns of a question lead to.
use Rattle.std.specs.Prelude.{ℕ, ◌+◌, ◌≡◌, false, List, Option, Some, None}
use Rattle.ps_script.specs.declared.name.Place.{Place}
use Rattle.ps_journal.specs.declared.replies.Reply.{Reply}
use Rattle.ps_journal.specs.declared.replies.Reply.TheVariants.{Task, Settled, Published, Already, NoRoom, Memory}
use Rattle.ps_journal.specs.History.{Entry, own_entries}
use Rattle.ps_history.specs.Matching.{is_misuse}
use Rattle.ps_history.specs.Bounds.{IsWithin}
use Rattle.ps_history.specs.Stages.{Asks, AsksWith, AsksNoMore, GaveUp}

-- ---- with the entries of the seat before the question, and the journal that it has seen behind the turn
module _ (seat : ℕ) (own seen : List Entry) (first : Place) (second : Option Place) where
  -- a Next behind so many rounds was answered
  abbrev pub AfterNext : ℕ → Reply → Type 0
  AfterNext rounds (Task task) = AsksWith seat own seen first second rounds task
  AfterNext rounds (Settled a b) = AsksNoMore seat own seen first second rounds a b
  AfterNext rounds Memory = GaveUp seat own seen first second None
  AfterNext rounds r = ⊥

  -- so was the Publish of what was filled
  abbrev pub AfterPublish : ℕ → Reply → Type 0
  AfterPublish rounds Published = Asks seat own seen first second (rounds + 1)
  AfterPublish rounds (Already entry) = Asks seat own seen first second (rounds + 1)
  AfterPublish rounds (NoRoom total) = GaveUp seat own seen first second (Some total)
  AfterPublish rounds Memory = GaveUp seat own seen first second None
  AfterPublish rounds r = ⊥

-- ---- the end of a question
-- the seat may end it so behind the entries before, and all its entries are within the bound
pub record EndsWith (seat : ℕ) (own seen new : List Entry) (first : Place) (second : Option Place) (Ends : List Entry → Type 0) (reply : Reply) : Type 0 where
  pub ends : ∥ Ends (own_entries seat seen) ∥₁
  pub proper : is_misuse reply ≡ false
  pub within : ∥ IsWithin seat own (own_entries seat new) new first second 0 ∥₁
