-- Scripts: the words that ask for one to be run, what bytes are read as, and how a fault is told.
use Rattle.std.specs.Prelude.{ℕ, ◌≡◌, ◌≤◌, Option, IfSome, List, [], ◌∷◌, codes, decimal, length, map, Ok, Err}
use Rattle.ps_script.specs.declared.script.Line.{Line}
use Rattle.ps_script.specs.declared.fault.ScriptFault.{ScriptFault}
use Rattle.ps_script.specs.declared.fault.ScriptFault.TheVariants as fault
use Rattle.ps_script.specs.Reading.{Read, IsReading, asked_of}
use Rattle.pathsum.specs.declared.answer.Answer.{Answer}
use Rattle.pathsum.specs.declared.answer.Answer.TheVariants.{Refused, Memory}
use Rattle.pathsum.specs.declared.refusals.Refusal.TheVariants.{Form, Session, Block}

-- the words that ask for a script to be run beside so many workers
pub record IsRun (words : List (List ℕ)) (workers : ℕ) : Type 0 where
  pub words_are : words ≡ codes "run" ∷ decimal workers ∷ []
  pub few : workers ≤ 16

-- the words ask for a script to be run
abbrev pub AskToRun : List (List ℕ) → Type 0
AskToRun words = (workers : ℕ) × IsRun words workers

-- the source gave these bytes, as many as are read at most; where it tells what it has left, they are all of that
pub record Gives (told : Option (List ℕ)) (bytes : List ℕ) : Type 0 where
  pub all : IfSome told (λ left. bytes ≡ left)
  pub short : length bytes ≤ 16777216

-- the bytes are read as this, and as nothing else
pub record IsReadOnlyAs (bytes : List ℕ) (read : Read) : Type 0 where
  pub reads : IsReading 1 bytes read
  pub only : (other : Read) → IsReading 1 bytes other → other ≡ read

-- the bytes are a script with these commands, and nothing else
abbrev pub IsScript : List ℕ → List Line → Type 0
IsScript bytes lines = IsReadOnlyAs bytes (Ok (map asked_of lines))

-- the bytes have this first fault, and are nothing else
abbrev pub IsFaulty : List ℕ → ScriptFault → Type 0
IsFaulty bytes e = IsReadOnlyAs bytes (Err e)

-- what is answered to a fault: its name, at column 1 of its line; want of memory is none of the bytes
abbrev pub answer_to : ScriptFault → Answer
answer_to (fault.Form line) = Refused Form line 1
answer_to (fault.Session line) = Refused Session line 1
answer_to (fault.Block line) = Refused Block line 1
answer_to fault.Memory = Memory
