-- What the run of a script is, whatever the order in which its sessions take their turns.
use Rattle.std.specs.Prelude.{ℕ, ◌≡◌, ◌≢◌, ◌+◌, ◌<◌, ◌≤◌, List, [], ◌++◌, length}
use Rattle.ps_script.specs.declared.command.Command.{Command}
use Rattle.ps_script.specs.declared.script.Line.{Line}
use Rattle.ps_journal.specs.History.{Entry, IsLegal, own_entries}
use Rattle.ps_history.specs.Matching.{Matched}
use Rattle.ps_sessions.specs.declared.runs.Ending.TheVariants.{Done, Full}
use Rattle.ps_sessions.specs.Lines.{commands_of}
use Rattle.ps_sessions.specs.Verdicts.{AreJust}
use Rattle.ps_threads.specs.declared.runs.Run.{Run}
use Rattle.ps_threads.specs.Worked.{IsWork}

-- the entries answer the first of these commands, each once, in order; the others are left
pub record AnswersFirst (commands : List Command) (own : List Entry) : Type 0 where
  pub served : List Command
  pub left : List Command
  pub split : commands ≡ served ++ left
  pub matched : Matched own served

-- a ticket of a session was refused although a command of it is left: the journal is full
pub record IsCutShort (lines : List Line) (ticket : ℕ) (journal : List Entry) : Type 0 where
  pub seat : ℕ
  pub part : AnswersFirst (commands_of seat lines) (own_entries seat journal)
  pub some_left : part.left ≢ []
  pub late : 262144 ≤ ticket
  pub full : 262144 ≤ length journal

-- the run of these commands, beside so many workers
pub record IsRunOf (lines : List Line) (workers : ℕ) (r : Run) : Type 0 where
  -- the journal is one legal history of the service
  pub legal : IsLegal r.journal
  -- the entries of each seat answer the first commands of its session, each once, in order
  pub parts : (seat : ℕ) → AnswersFirst (commands_of seat lines) (own_entries seat r.journal)
  -- a seat whose session has no line has no entry; no session has the number 0
  pub others : (seat : ℕ) → seat ≤ 16 → commands_of seat lines ≡ [] → own_entries seat r.journal ≡ []
  -- the numbers behind those of the sessions are the workers', one for each, and these do nothing but work
  pub work : (seat : ℕ) → 16 < seat → IsWork (own_entries seat r.journal)
  pub absent : (seat : ℕ) → 16 + workers < seat → own_entries seat r.journal ≡ []
  -- how it ends: where it is done all commands are answered, and else a ticket was refused late
  pub complete : r.ending ≡ Done → (seat : ℕ) → Matched (own_entries seat r.journal) (commands_of seat lines)
  pub cut : (ticket : ℕ) → r.ending ≡ Full ticket → IsCutShort lines ticket r.journal
  -- every yes, no and unknown is justified for the two committed versions that its seat had pinned
  pub just : AreJust r.journal
