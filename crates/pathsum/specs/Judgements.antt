-- What is answered of bytes that were read.
use Rattle.std.specs.Prelude.{ℕ, ◌≡◌, ◌⊎◌, List}
use Rattle.qasm_lex.specs.Places.{IsPlace}
use Rattle.pathsum.specs.declared.answer.Answer.{Answer}
use Rattle.pathsum.specs.declared.answer.Answer.TheVariants.{Refused, Memory}
use Rattle.pathsum.specs.declared.commands.Command.{Command}
use Rattle.pathsum.specs.declared.refusals.Refusal.{Refusal}
use Rattle.pathsum.specs.Ended.{Judges}

-- want of memory, or what is claimed of the bytes
abbrev pub Judged : Command → List ℕ → Answer → Type 0
Judged c bytes answer = (answer ≡ Memory) ⊎ Judges c bytes answer

-- the refusal, told at the byte
pub record IsRefusal (bytes : List ℕ) (why : Refusal) (at : ℕ) (answer : Answer) : Type 0 where
  pub line : ℕ
  pub column : ℕ
  pub place : IsPlace bytes at line column
  pub told : answer ≡ Refused why line column
