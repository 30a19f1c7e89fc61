-- How `run W` ends: what its journal has to do with the script, and what is written.
use Rattle.std.specs.Prelude.{ℕ, ◌≡◌, ◌≢◌, ◌+◌, ◌≤◌, ◌<◌, Option, IfSome, List, [], ◌++◌, codes, length, Err}
use Rattle.std.specs.Io.KnownBytes.{append_known}
use Rattle.ps_io.specs.Counts.{Rose}
use Rattle.ps_script.specs.declared.script.Line.{Line}
use Rattle.ps_script.specs.declared.fault.ScriptFault.{ScriptFault}
use Rattle.ps_script.specs.Reading.{IsReading}
use Rattle.ps_journal.specs.History.{Entry, IsLegal, own_entries, session_entries}
use Rattle.ps_history.specs.Matching.{Matched}
use Rattle.ps_reply.specs.Lines.{journal_text}
use Rattle.ps_sessions.specs.Lines.{commands_of}
use Rattle.ps_sessions.specs.Verdicts.{AreJust}
use Rattle.ps_threads.specs.Worked.{IsWork}
use Rattle.ps_threads.specs.Runs.{AnswersFirst}
use Rattle.pathsum.specs.declared.answer.Answer.{Answer}
use Rattle.pathsum.specs.declared.answer.Answer.TheVariants.{Refused, Read, TooLong, Memory}
use Rattle.pathsum.specs.Answers.{status_of, text_of}
use Rattle.pathsum.specs.Ended.{Writes}
use Rattle.pathsum.specs.Scripts.{Gives, IsScript, IsFaulty, answer_to}

-- ---- a journal and the commands of a script
-- the entries are a legal history, in which the commands of each session stand once and in order, and no others
pub record Holds (lines : List Line) (journal : List Entry) : Type 0 where
  pub legal : IsLegal journal
  -- session s has seat s + 1; the entries of a seat are inner ones, and one for each of its commands
  pub each : (seat : ℕ) → Matched (own_entries seat journal) (commands_of seat lines)
  -- a seat without commands has no entry that ends one
  pub others : (seat : ℕ) → commands_of seat lines ≡ [] → session_entries (own_entries seat journal) ≡ []
  -- every yes, no and unknown is justified for the two committed versions that its seat had pinned
  pub just : AreJust journal

-- the entries are a legal history, in which the first commands of each session stand once and in order, and no others; one at least is left, and
-- the history is full
pub record HoldsFirst (lines : List Line) (journal : List Entry) : Type 0 where
  pub legal : IsLegal journal
  pub each : (seat : ℕ) → AnswersFirst (commands_of seat lines) (own_entries seat journal)
  pub others : (seat : ℕ) → commands_of seat lines ≡ [] → session_entries (own_entries seat journal) ≡ []
  pub just : AreJust journal
  pub seat : ℕ
  pub cut : AnswersFirst (commands_of seat lines) (own_entries seat journal)
  pub some_left : cut.left ≢ []
  pub full : 262144 ≤ length journal

-- the seats behind those of the sessions are the workers', one for each: at most 8,190 entries of each, and these do nothing but work
pub record HasWorkers (workers : ℕ) (journal : List Entry) : Type 0 where
  pub work : (seat : ℕ) → 16 < seat → IsWork (own_entries seat journal)
  pub absent : (seat : ℕ) → 16 + workers < seat → own_entries seat journal ≡ []

-- ---- status 0: the journal holds the commands of the script that was read, and their replies are written
pub record Headline (workers : ℕ) (told old new : Option (List ℕ)) (journal : List Entry) : Type 0 where
  pub bytes : List ℕ
  pub lines : List Line
  pub given : Gives told bytes
  pub script : IsScript bytes lines
  pub holds : Holds lines journal
  pub workers_are : HasWorkers workers journal
  pub written : new ≡ append_known old (journal_text journal)

-- ---- status 69: it holds the first ones of each session and is full, and behind their replies the line `full` is written
pub record CutShort (workers : ℕ) (told old new : Option (List ℕ)) (journal : List Entry) : Type 0 where
  pub bytes : List ℕ
  pub lines : List Line
  pub given : Gives told bytes
  pub script : IsScript bytes lines
  pub holds : HoldsFirst lines journal
  pub workers_are : HasWorkers workers journal
  pub written : new ≡ append_known old (journal_text journal ++ codes "full\n")

-- ---- however it ends
-- what an answer claims where no command was done
abbrev pub Hinders : Option (List ℕ) → ℕ → ℕ → Answer → Type 0
Hinders told reads reads' Read = Rose reads reads'
Hinders told reads reads' TooLong = IfSome told (λ bytes. 16777216 < length bytes)
Hinders told reads reads' Memory = Unit {0}
Hinders told reads reads' (Refused why line column) = (bytes : List ℕ) × (e : ScriptFault) × Gives told bytes × IsFaulty bytes e × (Refused why line column ≡ answer_to e)
Hinders told reads reads' answer = ⊥

-- what a status and a text that is to be written claim; want of memory claims nothing
pub data Comes (workers : ℕ) (told : Option (List ℕ)) (reads reads' : ℕ) (journal : List Entry) (wanted : ℕ) (text : List ℕ) : Type 0 where
  hindered : (answer : Answer) → Hinders told reads reads' answer → journal ≡ [] → wanted ≡ status_of answer → text ≡ text_of answer
      → Comes workers told reads reads' journal wanted text
  starved : wanted ≡ 70 → text ≡ codes "memory\n" → Comes workers told reads reads' journal wanted text
  done : (bytes : List ℕ) (lines : List Line) → Gives told bytes → IsScript bytes lines → Holds lines journal → HasWorkers workers journal → wanted ≡ 0 → text ≡ journal_text journal
      → Comes workers told reads reads' journal wanted text
  full : (bytes : List ℕ) (lines : List Line) → Gives told bytes → IsScript bytes lines → HoldsFirst lines journal → HasWorkers workers journal → wanted ≡ 69 → text ≡ journal_text journal ++ codes "full\n" → Comes workers told reads reads' journal wanted text

-- the input comes to a status and a text: that was written, or a prefix of it, and then the status is 67
pub record RunEnds (workers : ℕ) (told : Option (List ℕ)) (reads reads' : ℕ) (old new : Option (List ℕ)) (faults faults' : ℕ) (journal : List Entry) (status : ℕ) : Type 0 where
  pub wanted : ℕ
  pub text : List ℕ
  pub comes : Comes workers told reads reads' journal wanted text
  pub written : Writes old new faults faults' text wanted status

-- ---- a script with a fault: the line of that fault is all that is written, faults of the outside and want of memory aside
pub data IsRefusedAs (e : ScriptFault) (old new : Option (List ℕ)) (status : ℕ) : Type 0 where
  refused : status ≡ 65 → new ≡ append_known old (text_of (answer_to e)) → IsRefusedAs e old new status
  unread : status ≡ 66 → IsRefusedAs e old new status
  unwritten : status ≡ 67 → IsRefusedAs e old new status
  wanting : status ≡ 70 → IsRefusedAs e old new status

abbrev pub IsOneRefusal : Option (List ℕ) → Option (List ℕ) → Option (List ℕ) → ℕ → Type 0
IsOneRefusal told old new status = IfSome told (λ bytes. (e : ScriptFault) → length bytes ≤ 16777216 → IsReading 1 bytes (Err e) → IsRefusedAs e old new status)
