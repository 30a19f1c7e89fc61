-- The run of a generated script, before anything is written, and what is written of it.
use Rattle.std.specs.Prelude.{ℕ, ◌⊎◌, Option, List, ◌++◌, codes}
use Rattle.ps_script.specs.declared.script.Line.{Line}
use Rattle.ps_journal.specs.History.{Entry}
use Rattle.ps_reply.specs.Lines.{journal_text}
use Rattle.ps_sessions.specs.declared.runs.Ending.{Ending}
use Rattle.ps_sessions.specs.declared.runs.Ending.TheVariants.{Done, Full}
use Rattle.ps_sessions.specs.declared.runs.Run.{Run}
use Rattle.ps_sessions.specs.Runs.{IsRunOf}
use Rattle.pathsum.specs.Ended.{Writes}
use Rattle.pathsum.specs.Outcomes.{ending_status}
use Rattle.pathsum.specs.Generated.{IsGeneratedScript, heading, count_line}

-- its lines are the generated ones
pub record IsGeneratedRun (seed qubits items : ℕ) (run : Run) : Type 0 where
  pub lines : List Line
  pub script : IsGeneratedScript seed qubits items lines
  pub runs : IsRunOf lines run

abbrev pub closing_line : Ending → List Entry → List ℕ
closing_line Done journal = count_line journal
closing_line (Full ticket) journal = codes "full\n"

abbrev pub generated_text : ℕ → ℕ → ℕ → Run → List ℕ
generated_text seed qubits items run = heading seed qubits items ++ journal_text run.journal ++ closing_line run.ending run.journal

-- its text and status are written, or want of memory
abbrev pub PrintsGenerated : ℕ → ℕ → ℕ → Run → Option (List ℕ) → Option (List ℕ) → ℕ → ℕ → ℕ → Type 0
PrintsGenerated seed qubits items run old new faults faults' status =
    Writes old new faults faults' (generated_text seed qubits items run) (ending_status run.ending) status
    ⊎ Writes old new faults faults' (codes "memory\n") 70 status
