-- What a comparison of two records says.
use Rattle.std.specs.Prelude.{List}
use Rattle.ps_rules.specs.declared.steps.Step.{Step}
use Rattle.ps_reach.specs.declared.mode.Mode.{Mode}
use Rattle.ps_reach.specs.declared.record.Record.{Record}
use Rattle.ps_reach.specs.declared.verdict.Verdict.{Verdict}
use Rattle.ps_reach.specs.declared.verdict.Verdict.TheVariants.{Yes, YesPhase, No, NoPair, Stuck, Passed}
use Rattle.ps_reach.specs.Runs.{run_of}
use Rattle.ps_reach.specs.Parts.{overrun_of, outcome_by}
use Rattle.ps_reach.specs.Fillings.{Outcome}
use Rattle.ps_reach.specs.Findings.{Finding, yes, yes_phase, no, no_pair, stuck, limit, Compares, IsJustified}

-- what the segment comes to, with its moves
abbrev pub outcome_of : Record → Outcome
outcome_of r = outcome_by r.moves r.body

abbrev pub finding_of : Verdict → Finding
finding_of Yes = yes
finding_of (YesPhase phase) = yes_phase phase
finding_of (No bits) = no bits
finding_of (NoPair first second) = no_pair first second
finding_of (Stuck S) = stuck S
finding_of (Passed e) = limit (overrun_of e)

-- the steps and the verdict are what comparing the two records in this mode comes to, and the verdict is justified for their runs
pub record IsJudged (first second : Record) (mode : Mode) (steps : List Step) (verdict : Verdict) : Type 0 where
  pub found : Compares mode (outcome_of first) (outcome_of second) steps (finding_of verdict)
  pub justified : IsJustified first.n (run_of first.items.value) (run_of second.items.value) mode (finding_of verdict)
