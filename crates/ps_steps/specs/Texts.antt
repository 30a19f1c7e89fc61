-- The text of a derivation, and what bytes are read as.
use Rattle.std.specs.Prelude.{◌≡◌, ◌≢◌, ℕ, ◌+◌, Bool, true, false, List, [], ◌∷◌, ◌++◌, length, codes, decimal, Result, Ok, Err}
use Rattle.ps_rules.specs.declared.steps.Step.{Step}
use Rattle.ps_rules.specs.declared.steps.Step.TheVariants.{Elim, Hh, Omega}
use Rattle.ps_steps.specs.declared.lines.Line.{Line}
use Rattle.ps_steps.specs.declared.lines.Line.TheVariants.{Head, Leaf, Id, Join, Rewrite, Overlap, End}
use Rattle.ps_steps.specs.declared.derivation.Derivation.{Derivation}
use Rattle.ps_steps.specs.declared.fault.StepFault.{StepFault}
use Rattle.ps_steps.specs.declared.fault.StepFault.TheVariants.{Form, Cut, Memory}
use Rattle.ps_steps.specs.Steps.{is_beginning, is_ended, is_derivation}
use Rattle.ps_steps.specs.Pieces.{lacks}

-- side b is true
unfoldable pub side_text : Bool → List ℕ
side_text false = codes "a"
side_text true = codes "b"

unfoldable pub step_text : Step → List ℕ
step_text (Elim y) = codes "elim " ++ decimal y
step_text (Hh y z) = codes "hh " ++ (decimal y ++ (codes " " ++ decimal z))
step_text (Omega y) = codes "omega " ++ decimal y

-- a line without its LF
unfoldable pub line_text : Line → List ℕ
line_text (Head n) = codes "pathsum " ++ decimal n
line_text (Leaf b i) = codes "leaf " ++ (side_text b ++ (codes " " ++ decimal i))
line_text (Id b) = codes "id " ++ side_text b
line_text Join = codes "join"
line_text (Rewrite s) = step_text s
line_text Overlap = codes "overlap"
line_text End = codes "end"

-- each line and its LF
unfoldable pub lines_text : List Line → List ℕ
lines_text [] = []
lines_text (l ∷ ls) = line_text l ++ 10 ∷ lines_text ls

abbrev pub derivation_text : Derivation → List ℕ
derivation_text d = lines_text d.lines

-- the bytes are the text of the derivation with these lines
pub record IsText (bytes : List ℕ) (ls : List Line) : Type 0 where
  pub form : is_derivation ls ≡ true
  pub spelled : bytes ≡ lines_text ls

-- the first line that is of no form or may not stand there: the lines before it begin a derivation, and with none that it spells they do so still
pub record IsWrongLine (bytes : List ℕ) (n : ℕ) : Type 0 where
  pub before : List Line
  pub piece : List ℕ
  pub rest : List ℕ
  pub begins : is_beginning before ≡ true
  pub open_still : is_ended before ≡ false
  pub whole : lacks 10 piece ≡ true
  pub spelled : bytes ≡ lines_text before ++ (piece ++ 10 ∷ rest)
  pub wrong : (l : Line) → is_beginning (before ++ l ∷ []) ≡ true → line_text l ≢ piece
  pub place : n ≡ length before + 1

-- something stands behind the end
pub record IsBehindEnd (bytes : List ℕ) (n : ℕ) : Type 0 where
  pub before : List Line
  pub rest : List ℕ
  pub form : is_derivation before ≡ true
  pub more : rest ≢ []
  pub spelled : bytes ≡ lines_text before ++ rest
  pub place : n ≡ length before + 1

pub data IsFormFault (bytes : List ℕ) (n : ℕ) : Type 0 where
  line : IsWrongLine bytes n → IsFormFault bytes n
  behind : IsBehindEnd bytes n → IsFormFault bytes n

-- all lines are right, and the text ends before the end, with or without a last piece that no LF ends
pub record IsCutFault (bytes : List ℕ) (n : ℕ) : Type 0 where
  pub before : List Line
  pub piece : List ℕ
  pub begins : is_beginning before ≡ true
  pub open_still : is_ended before ≡ false
  pub unended : lacks 10 piece ≡ true
  pub spelled : bytes ≡ lines_text before ++ piece
  pub place : n ≡ length before + 1

-- what bytes are read as: the lines of the derivation that they spell, or the first fault
abbrev pub IsReading : List ℕ → Result (List Line) StepFault → Type 0
IsReading bytes (Ok ls) = IsText bytes ls
IsReading bytes (Err (Form n)) = IsFormFault bytes n
IsReading bytes (Err (Cut n)) = IsCutFault bytes n
IsReading bytes (Err Memory) = ⊥

-- the lines of an answer
abbrev pub lines_of : Result Derivation StepFault → Result (List Line) StepFault
lines_of (Ok d) = Ok d.lines
lines_of (Err e) = Err e

-- P of the answer, want of memory aside
abbrev pub Known : Result (List Line) StepFault → (Result (List Line) StepFault → Type 0) → Type 0
Known (Ok ls) P = P (Ok ls)
Known (Err (Form n)) P = P (Err (Form n))
Known (Err (Cut n)) P = P (Err (Cut n))
Known (Err Memory) P = Unit {0}

-- and of no other answer
abbrev pub Only : Result (List Line) StepFault → (Result (List Line) StepFault → Type 0) → Type 0
Only r P = Known r (λ a. (b : Result (List Line) StepFault) → P b → b ≡ a)

-- what it is where these are all lines of a derivation, and this stands behind
abbrev pub IsEnding : List Line → List ℕ → Result (List Line) StepFault → Type 0
IsEnding ls rest (Ok ms) = (rest ≡ []) × (ms ≡ ls)
IsEnding ls rest (Err (Form n)) = (rest ≢ []) × (n ≡ length ls + 1)
IsEnding ls rest (Err (Cut n)) = ⊥
IsEnding ls rest (Err Memory) = ⊥
