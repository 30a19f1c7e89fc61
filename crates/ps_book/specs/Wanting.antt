-- What a command does, or that it wants memory.
use Rattle.std.specs.Prelude.{ℕ, ◌≡◌, ◌⊎◌, Bool, List, Option}
use Rattle.std.specs.declared.sync.Arc.{Arc}
use Rattle.std.specs.declared.alloc.Global.{Global}
use Rattle.ps_script.specs.declared.name.Place.{Place}
use Rattle.ps_reach.specs.declared.record.Record.{Record}
use Rattle.ps_journal.specs.declared.commands.Outcome.{Outcome}
use Rattle.ps_journal.specs.declared.replies.Reply.{Reply}
use Rattle.ps_journal.specs.declared.replies.Reply.TheVariants.{Memory}
use Rattle.ps_journal.specs.State.{State, unclaimed}
use Rattle.ps_journal.specs.Keeping.{unpinned}
use Rattle.ps_journal.specs.Opening.{Opens}
use Rattle.ps_journal.specs.Splicing.{Splices}
use Rattle.ps_journal.specs.Claiming.{Nexts}
use Rattle.ps_journal.specs.Publishing.{Publishes}
use Rattle.ps_journal.specs.Judging.{Answers}
use Rattle.ps_journal.specs.Summing.{Sums}
use Rattle.ps_journal.specs.Showing.{Reads}

-- the reply is that memory was wanting, and this state is left
pub record Starves (left : State) (r : Reply) (new : State) : Type 0 where
  pub reply : r ≡ Memory
  pub state : new ≡ left

abbrev pub OpensOr : State → ℕ → List ℕ → List ℕ → Reply → State → Type 0
OpensOr t i name text r new = Opens t i name text r new ⊎ Starves t r new

abbrev pub SplicesOr : State → List ℕ → ℕ → ℕ → ℕ → List ℕ → Reply → State → Type 0
SplicesOr t name base from to block r new = Splices t name base from to block r new ⊎ Starves t r new

abbrev pub NextsOr : State → ℕ → ℕ → Bool → Reply → State → Type 0
NextsOr t i seat pinned r new = Nexts t i seat pinned r new ⊎ Starves (unclaimed seat t) r new

abbrev pub PublishesOr : State → ℕ → ℕ → Option (Arc Record Global) → Reply → State → Type 0
PublishesOr t i seat kept r new = Publishes t i seat kept r new ⊎ Starves (unclaimed seat t) r new

abbrev pub AnswersOr : State → ℕ → ℕ → Outcome → Reply → State → Type 0
AnswersOr t i seat outcome r new = Answers t i seat outcome r new ⊎ Starves (unpinned i seat t) r new

abbrev pub ReadsOr : State → Place → Reply → State → Type 0
ReadsOr t p r new = Reads t p r new ⊎ Starves t r new

abbrev pub SumsOr : State → ℕ → ℕ → Outcome → Reply → State → Type 0
SumsOr t i seat outcome r new = Sums t i seat outcome r new ⊎ Starves (unpinned i seat t) r new
