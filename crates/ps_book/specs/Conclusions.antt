-- How a question under a pin ends, before the pin is released.
use Rattle.std.specs.Prelude.{ℕ, ◌+◌, ◌≡◌, ◌≤◌, ◌↔◌, Bool, IsTrue, Some}
use Rattle.ps_script.specs.declared.name.Place.{Place}
use Rattle.ps_reach.specs.declared.record.Record.{Record}
use Rattle.ps_reach.specs.declared.judged.Judged.{Judged}
use Rattle.ps_versions.specs.Records.{record_at}
use Rattle.ps_journal.specs.declared.seats.Pin.{Pin}
use Rattle.ps_journal.specs.declared.commands.Outcome.{Outcome}
use Rattle.ps_journal.specs.declared.commands.Outcome.TheVariants.{Done}
use Rattle.ps_journal.specs.declared.replies.Reply.{Reply}
use Rattle.ps_journal.specs.declared.replies.Reply.TheVariants.{Answered, SumIs}
use Rattle.ps_journal.specs.State.{State, Version, Circuit, Finds, pin_of, with_terms, most_terms}
use Rattle.ps_journal.specs.Keeping.{unpinned}
use Rattle.ps_journal.specs.Judging.{Belongs, BelongBoth, size}
use Rattle.ps_journal.specs.Summing.{ComesToAt}
use Rattle.ps_views.specs.Fields.{Fields}
use Rattle.ps_views.specs.Stands.{Stands}
use Rattle.ps_views.specs.declared.filed.Filed.{Filed}
use Rattle.ps_book.specs.Wanting.{AnswersOr, SumsOr}

-- ---- about two versions
-- the terms of a verdict that was told are kept
abbrev pub counted : Reply → State → State
counted (Answered j proof) t = with_terms (size j) t
counted _ t = t

-- there is room for a verdict that is told
abbrev pub Fits : ℕ → Reply → Type 0
Fits terms (Answered j proof) = terms + size j ≤ most_terms
Fits terms _ = Unit {0}

-- what is answered under a pin, in each state that the fields stand for
pub record Concludes (f : Fields) (pin : Pin) (outcome : Outcome) (r : Reply) : Type 0 where
  pub fits : Fits f.terms r
  pub answers : (t : State) (i seat : ℕ) → Stands f t → pin_of t seat ≡ Some pin → AnswersOr t i seat outcome r (counted r (unpinned i seat t))

-- a test tells whether a record belongs to the version at a place, and whether two belong to the versions of a pin
abbrev pub TellsOne : Fields → Place → Record → Bool → Type 0
TellsOne f p r b = (t : State) (c : Circuit) (v : Version) → Stands f t → Finds t p c v → IsTrue b ↔ Belongs c v r

abbrev pub TellsPair : Fields → Pin → Judged → Bool → Type 0
TellsPair f pin j b =
    (t : State) (second : Place) (c d : Circuit) (v w : Version) → Stands f t → pin.second ≡ Some second → Finds t pin.first c v → Finds t second d w
    → IsTrue b ↔ BelongBoth c d v w j

-- ---- about one version
abbrev pub ConcludesSum : Fields → Pin → Outcome → Reply → Type 0
ConcludesSum f pin outcome r = (t : State) (i seat : ℕ) → Stands f t → pin_of t seat ≡ Some pin → SumsOr t i seat outcome r (unpinned i seat t)

-- the same, where nothing is missing of the version any more, which is the first of a pin
abbrev pub ConcludesDone : Fields → Place → Reply → Type 0
ConcludesDone f p r = (pin : Pin) → pin.first ≡ p → ConcludesSum f pin Done r

-- the reply tells what the version comes to
pub record TellsSum (f : Fields) (p : Place) (told : Reply) : Type 0 where
  pub sum : Record
  pub reply : told ≡ SumIs sum
  pub comes : (t : State) → Stands f t → ComesToAt t p sum

-- the node keeps the record that the version comes to
pub record IsDeciding (f : Fields) (p : Place) (k : ℕ) : Type 0 where
  pub entry : ℕ × Filed
  pub kept : record_at f.versions.kept k ≡ Some entry
  pub comes : (t : State) → Stands f t → ComesToAt t p entry.1.shared.value
