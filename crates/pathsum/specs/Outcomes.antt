-- What an input of `run W` comes to, before anything is written, and what is written of a run.
use Rattle.std.specs.Prelude.{ℕ, ◌≡◌, ◌⊎◌, Option, List, [], ◌++◌, codes}
use Rattle.ps_script.specs.declared.script.Line.{Line}
use Rattle.ps_script.specs.declared.fault.ScriptFault.{ScriptFault}
use Rattle.ps_reply.specs.Lines.{journal_text}
use Rattle.ps_sessions.specs.declared.runs.Ending.{Ending}
use Rattle.ps_sessions.specs.declared.runs.Ending.TheVariants.{Done, Full}
use Rattle.ps_threads.specs.declared.runs.Run.{Run}
use Rattle.ps_threads.specs.Runs.{IsRunOf}
use Rattle.pathsum.specs.declared.answer.Answer.TheVariants.{Memory}
use Rattle.pathsum.specs.declared.scripts.Outcome.{Outcome}
use Rattle.pathsum.specs.declared.scripts.Outcome.TheVariants.{Hindered, Served}
use Rattle.pathsum.specs.Ended.{Writes}
use Rattle.pathsum.specs.Scripts.{Gives, IsScript, IsFaulty, answer_to}
use Rattle.pathsum.specs.Runs.{Hinders}

-- bytes that were read come to this: want of memory, a fault, or the run of the commands that they are
abbrev pub YieldsOf : ℕ → List ℕ → Outcome → Type 0
YieldsOf workers bytes (Hindered answer) = (answer ≡ Memory) ⊎ ((e : ScriptFault) × IsFaulty bytes e × (answer ≡ answer_to e))
YieldsOf workers bytes (Served run) = (lines : List Line) × IsScript bytes lines × IsRunOf lines workers run

-- what a source gives is the script of this run
abbrev pub YieldsRun : ℕ → Option (List ℕ) → Run → Type 0
YieldsRun workers told run = (bytes : List ℕ) × Gives told bytes × YieldsOf workers bytes (Served run)

-- what a source gives comes to this
abbrev pub Yields : ℕ → Option (List ℕ) → ℕ → ℕ → Outcome → Type 0
Yields workers told reads reads' (Hindered answer) = Hinders told reads reads' answer
Yields workers told reads reads' (Served run) = YieldsRun workers told run

-- ---- what is written of a run
abbrev pub ending_status : Ending → ℕ
ending_status Done = 0
ending_status (Full ticket) = 69

abbrev pub last_line : Ending → List ℕ
last_line Done = []
last_line (Full ticket) = codes "full\n"

abbrev pub run_text : Run → List ℕ
run_text run = journal_text run.journal ++ last_line run.ending

-- its text and status, or want of memory
abbrev pub PrintsRun : Run → Option (List ℕ) → Option (List ℕ) → ℕ → ℕ → ℕ → Type 0
PrintsRun run old new faults faults' status =
    Writes old new faults faults' (run_text run) (ending_status run.ending) status ⊎ Writes old new faults faults' (codes "memory\n") 70 status
