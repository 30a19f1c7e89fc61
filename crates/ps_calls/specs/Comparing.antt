-- What comparing two records comes to.
use Rattle.std.specs.Prelude.{◌≡◌, Bool, Some, None}
use Rattle.ps_reach.specs.declared.mode.Mode.{Mode}
use Rattle.ps_reach.specs.declared.record.Record.{Record}
use Rattle.ps_reach.specs.Judging.{outcome_of, finding_of}
use Rattle.ps_reach.specs.Findings.{Compares}
use Rattle.ps_reach.specs.declared.judged.Judged.{Judged as AJudged}
use Rattle.ps_journal.specs.declared.commands.Outcome.{Outcome}
use Rattle.ps_journal.specs.declared.commands.Outcome.TheVariants.{Judged, Done, Starved, Crowded}
use Rattle.ps_calls.specs.declared.settling.Settling.{Settling}
use Rattle.ps_calls.specs.declared.settling.Settling.TheVariants as settling

-- it is of these records and this mode, and comparing them takes its steps to its verdict
pub record IsOf (mode : Mode) (first second : Record) (j : AJudged) : Type 0 where
  pub first_is : j.first.value ≡ first
  pub second_is : j.second.value ≡ second
  pub mode_is : j.mode ≡ mode
  pub found : Compares mode (outcome_of first) (outcome_of second) j.steps (finding_of j.verdict)

abbrev pub Compared : Mode → Bool → Record → Record → Outcome → Type 0
Compared mode proof first second (Judged j p) = (p ≡ proof) × IsOf mode first second j.value
Compared mode proof first second Starved = Unit {0}
Compared mode proof first second o = ⊥

-- two records are on as many qubits
abbrev pub HaveOneWidth : Settling → Type 0
HaveOneWidth (settling.Settled first (Some second)) = first.n ≡ second.n
HaveOneWidth (settling.Settled first None) = Unit {0}
HaveOneWidth settling.Starved = Unit {0}
HaveOneWidth settling.Crowded = Unit {0}

-- how a question about two versions ends after that
abbrev pub Concludes : Mode → Bool → Settling → Outcome → Type 0
Concludes mode proof (settling.Settled first (Some second)) o = Compared mode proof first second o
Concludes mode proof (settling.Settled first None) o = o ≡ Starved
Concludes mode proof settling.Starved o = o ≡ Starved
Concludes mode proof settling.Crowded o = o ≡ Crowded

-- and one about a sum
abbrev pub Sums : Settling → Outcome → Type 0
Sums (settling.Settled first second) o = o ≡ Done
Sums settling.Starved o = o ≡ Starved
Sums settling.Crowded o = o ≡ Crowded
