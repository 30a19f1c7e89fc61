-- What a call of the program may answer and write.
use Rattle.std.specs.Prelude.{ℕ, ◌≡◌, ◌<◌, ◌≤◌, Option, List, length, IfSome, Some}
use Rattle.std.specs.Io.KnownBytes.{append_known}
use Rattle.ps_io.specs.Counts.{Rose}
use Rattle.ps_io.specs.Streams.{AppendsPrefix}
use Rattle.ps_prim.specs.declared.prims.Primitive.{Primitive as Prim}
use Rattle.qasm_lex.specs.Places.{IsPlace}
use Rattle.pathsum.specs.declared.answer.Answer.{Answer}
use Rattle.pathsum.specs.declared.answer.Answer.TheVariants.{Yes, Refused, Words, Read, TooLong, Memory}
use Rattle.pathsum.specs.declared.commands.Command.{Command}
use Rattle.pathsum.specs.declared.commands.Command.TheVariants.{SameLocal}
use Rattle.pathsum.specs.declared.refusals.Refusal.{Refusal}
use Rattle.pathsum.specs.declared.refusals.Refusal.TheVariants.{Separator}
use Rattle.pathsum.specs.Answers.{status_of, text_of}
use Rattle.pathsum.specs.Commands.{IsCommand}
use Rattle.pathsum.specs.Proofs.{Works}
use Rattle.pathsum.specs.Splits.{IsParted, Lacks}
use Rattle.pathsum.specs.Texts.{both, refuses, TextsAre}

-- what an answer claims of an input that was read to its end: a separator is missing, told at the end of the input; or the
-- texts are refused, told at the place of that; or the texts are read, and the answer is what the command does with them
pub data Judges (c : Command) (bytes : List ℕ) : Answer → Type 0 where
  lacking : {line column : ℕ} → Lacks c bytes → IsPlace bytes (length bytes) line column → Judges c bytes (Refused Separator line column)
  refused : (a b d : List ℕ) (start at : ℕ) {why : Refusal} {line column : ℕ} → IsParted c bytes a b start d → TextsAre a b start (refuses why at) → IsPlace bytes at line column
      → Judges c bytes (Refused why line column)
  judged : (a b d : List ℕ) (start n : ℕ) (I K : List (List Prim)) {answer : Answer} → IsParted c bytes a b start d → TextsAre a b start (both n I K) → Works c n I K d answer
      → Judges c bytes answer

-- what an answer of a command claims of the bytes that the source told, and of its counts of faults; want of memory claims nothing
abbrev pub Deserves : Command → Option (List ℕ) → ℕ → ℕ → Answer → Type 0
Deserves c told old new Words = ⊥
Deserves c told old new Read = Rose old new
Deserves c told old new TooLong = IfSome told (λ bytes. 16777216 < length bytes)
Deserves c told old new Memory = Unit {0}
Deserves c told old new answer = IfSome told (λ bytes. (length bytes ≤ 16777216) × Judges c bytes answer)

-- the words are one of the commands, of which the answer claims this
pub record Commands (words : List (List ℕ)) (told : Option (List ℕ)) (old new : ℕ) (answer : Answer) : Type 0 where
  pub command : Command
  pub is : IsCommand command words
  pub deserves : Deserves command told old new answer

-- what an answer of the program claims of its words and its input
abbrev pub Answers : List (List ℕ) → Option (List ℕ) → ℕ → ℕ → Answer → Type 0
Answers words told old new Words = (c : Command) → ¬ (IsCommand c words)
Answers words told old new Memory = Unit {0}
Answers words told old new answer = Commands words told old new answer

-- all was written and the status is the wanted one, or the sink failed, which makes every status 67
pub data Writes (old new : Option (List ℕ)) (faults faults' : ℕ) (text : List ℕ) (wanted status : ℕ) : Type 0 where
  whole : new ≡ append_known old text → status ≡ wanted → Writes old new faults faults' text wanted status
  failed : AppendsPrefix old new text → Rose faults faults' → status ≡ 67 → Writes old new faults faults' text wanted status

-- how a call ended, whose answer claims this: with the status of an answer, and its bytes written
pub record Ends (claims : Answer → Type 0) (old new : Option (List ℕ)) (faults faults' : ℕ) (status : ℕ) : Type 0 where
  pub answer : Answer
  pub claimed : claims answer
  pub written : Writes old new faults faults' (text_of answer) (status_of answer) status

-- not a fault of the outside, nor want of memory
abbrev pub IsOfInput : Answer → Type 0
IsOfInput Read = ⊥
IsOfInput Memory = ⊥
IsOfInput answer = Unit {0}

-- both have one status and the same bytes
pub record Agree (a b : Answer) : Type 0 where
  pub status : status_of a ≡ status_of b
  pub text : text_of a ≡ text_of b

-- one is yes, and the other unknown
pub record IsTurned (a b : Answer) : Type 0 where
  pub yes : a ≡ Yes
  pub unknown : status_of b ≡ 2

-- two answers to these words agree; or, to `same local`, windows turned what is unknown in the one into the other's yes
pub data AreAlike (words : List (List ℕ)) (a b : Answer) : Type 0 where
  agree : Agree a b → AreAlike words a b
  turned : IsCommand SameLocal words → IsTurned a b → AreAlike words a b
  turned_back : IsCommand SameLocal words → IsTurned b a → AreAlike words a b

-- faults of the outside and want of memory aside, status and bytes are a function of the words and the input, but for what
-- windows turn into yes
abbrev pub IsOneAnswer : List (List ℕ) → Option (List ℕ) → Type 0
IsOneAnswer words told = IfSome told (λ bytes. (r r' s s' : ℕ) (a b : Answer) → Answers words (Some bytes) r r' a → Answers words (Some bytes) s s' b → IsOfInput a → IsOfInput b → AreAlike words a b)
