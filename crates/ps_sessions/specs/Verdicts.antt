-- Verdicts of a journal that are justified.
use Rattle.std.specs.Prelude.{ℕ, ◌≡◌, Bool, List, ◌∷◌, ◌++◌, Some}
use Rattle.ps_script.specs.declared.name.Place.{Place}
use Rattle.ps_reach.specs.declared.judged.Judged.{Judged as AJudged}
use Rattle.ps_journal.specs.declared.replies.Reply.TheVariants.{Answered}
use Rattle.ps_journal.specs.State.{Version, Circuit, State, Finds}
use Rattle.ps_journal.specs.Judging.{BelongBoth, IsJustifiedFor}
use Rattle.ps_journal.specs.History.{Entry, LeadsTo, own_entries}
use Rattle.ps_history.specs.Lasts.{HasPinned}

-- The verdict of a seat behind these entries is justified. The seat's last Pin named two places. The versions that are committed there are
-- those whose records were compared, and what the verdict claims is true of the prims of these two.
pub record IsJust (before : List Entry) (seat : ℕ) (j : AJudged) : Type 0 where
  pub first : Place
  pub second : Place
  pub pinned : HasPinned (own_entries seat before) first (Some second)
  pub state : State
  pub leads : LeadsTo before state
  pub circuit : Circuit
  pub other_circuit : Circuit
  pub version : Version
  pub other : Version
  pub first_found : Finds state first circuit version
  pub second_found : Finds state second other_circuit other
  pub belong : BelongBoth circuit other_circuit version other j
  pub justified : IsJustifiedFor circuit version other j

-- so is every verdict that an entry tells
abbrev pub AreJust : List Entry → Type 0
AreJust es =
    (before after : List Entry) (e : Entry) (j : AJudged) (proof : Bool) → es ≡ before ++ e ∷ after → e.reply ≡ Answered j proof
    → ∥ IsJust before e.seat j ∥₁
