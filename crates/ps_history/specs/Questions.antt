-- How a seat ends a question about versions that it has pinned.
use Rattle.std.specs.Prelude.{ℕ, ◌≡◌, Bool, true, List, Some, None}
use Rattle.std.specs.declared.sync.Arc.{Arc}
use Rattle.std.specs.declared.alloc.Global.{Global}
use Rattle.ps_script.specs.declared.name.Place.{Place}
use Rattle.ps_reach.specs.declared.mode.Mode.{Mode}
use Rattle.ps_reach.specs.declared.record.Record.{Record}
use Rattle.ps_reach.specs.declared.judged.Judged.{Judged as AJudged}
use Rattle.ps_reach.specs.Judging.{outcome_of, finding_of}
use Rattle.ps_reach.specs.Findings.{Compares}
use Rattle.ps_journal.specs.declared.commands.Cmd.TheVariants as cmd
use Rattle.ps_journal.specs.declared.commands.Outcome.{Outcome}
use Rattle.ps_journal.specs.declared.commands.Outcome.TheVariants.{Judged, Done, Starved, Crowded}
use Rattle.ps_journal.specs.declared.replies.Reply.{Reply}
use Rattle.ps_journal.specs.declared.replies.Reply.TheVariants.{Answered, SumIs, NoRoom, Memory}
use Rattle.ps_journal.specs.History.{Entry, ends_command}
use Rattle.ps_history.specs.Lasts.{HasPinned, WasTold, WasRefused}

-- it is what comparing the two records of the seat's last Settled in this mode comes to
pub record IsComparison (own : List Entry) (mode : Mode) (j : AJudged) : Type 0 where
  pub first : Record
  pub second : Record
  pub told : WasTold own first (Some second)
  pub first_is : j.first.value ≡ first
  pub second_is : j.second.value ≡ second
  pub mode_is : j.mode ≡ mode
  pub found : Compares mode (outcome_of first) (outcome_of second) j.steps (finding_of j.verdict)

-- what the seat may end a question about two versions with, and what it is told
pub data Judges (own : List Entry) (mode : Mode) (proof : Bool) : Outcome → Reply → Type 0 where
  answered : {j : Arc AJudged Global} → IsComparison own mode j.value → Judges own mode proof (Judged j proof) (Answered j.value proof)
  judged_no_room : {j : Arc AJudged Global} {total : ℕ} → IsComparison own mode j.value → Judges own mode proof (Judged j proof) (NoRoom total)
  judged_no_memory : {j : Arc AJudged Global} → IsComparison own mode j.value → Judges own mode proof (Judged j proof) Memory
  gave_up : Judges own mode proof Starved Memory
  crowded : {total : ℕ} → WasRefused own total → Judges own mode proof Crowded (NoRoom total)
  crowded_no_memory : {total : ℕ} → WasRefused own total → Judges own mode proof Crowded Memory

-- and a question about the sum of one
pub data Sums (own : List Entry) : Outcome → Reply → Type 0 where
  sum_is : {told r : Record} → WasTold own told None → Sums own Done (SumIs r)
  sum_no_memory : {told : Record} → WasTold own told None → Sums own Done Memory
  sum_gave_up : Sums own Starved Memory
  sum_crowded : {total : ℕ} → WasRefused own total → Sums own Crowded (NoRoom total)
  sum_crowded_no_memory : {total : ℕ} → WasRefused own total → Sums own Crowded Memory

-- the entry refuses to pin the places, or ends the question about them
pub data EndsJudging (own : List Entry) (mode : Mode) (proof : Bool) (first second : Place) (e : Entry) : Type 0 where
  refused : e.cmd ≡ cmd.Pin first (Some second) → ends_command e.cmd e.reply ≡ true → EndsJudging own mode proof first second e
  ended : {o : Outcome} → HasPinned own first (Some second) → e.cmd ≡ cmd.Answer o → ∥ Judges own mode proof o e.reply ∥₁
      → EndsJudging own mode proof first second e

pub data EndsSumming (own : List Entry) (place : Place) (e : Entry) : Type 0 where
  sum_refused : e.cmd ≡ cmd.Pin place None → ends_command e.cmd e.reply ≡ true → EndsSumming own place e
  sum_ended : {o : Outcome} → HasPinned own place None → e.cmd ≡ cmd.Sum o → ∥ Sums own o e.reply ∥₁ → EndsSumming own place e
