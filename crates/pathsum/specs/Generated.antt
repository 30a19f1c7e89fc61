-- The words `gen S Q N`: the script that they stand for, and how a call with them ends.
use Rattle.std.specs.Prelude.{ℕ, ◌≡◌, ◌≢◌, ◌<◌, ◌≤◌, ◌^◌, Option, List, [], ◌∷◌, ◌++◌, codes, decimal, length, map}
use Rattle.std.specs.Io.KnownBytes.{append_known}
use Rattle.ps_gen.specs.Texts.{circuit_text, mirror_text}
use Rattle.ps_script.specs.declared.name.Place.{Place}
use Rattle.ps_script.specs.declared.order.Order.{Order}
use Rattle.ps_script.specs.declared.order.Order.TheVariants.{Open, Splice, Ask}
use Rattle.ps_script.specs.declared.script.Line.{Line}
use Rattle.ps_script.specs.Reading.{Asked, asked_of}
use Rattle.ps_journal.specs.History.{Entry}
use Rattle.ps_reply.specs.Lines.{journal_text}
use Rattle.pathsum.specs.Ended.{Writes}
use Rattle.pathsum.specs.Runs.{Holds}

-- ---- the words
-- a word is this number, written without a leading zero
pub record IsNumber (word : List ℕ) (n : ℕ) : Type 0 where
  pub spelled : word ≡ decimal n
  pub below : n < 2 ^ 32

pub record IsWithin (qubits items : ℕ) : Type 0 where
  pub least_qubits : 2 ≤ qubits
  pub most_qubits : qubits ≤ 16
  pub least_items : 1 ≤ items
  pub most_items : items ≤ 32768

pub record IsGeneration (words : List (List ℕ)) (seed qubits items : ℕ) : Type 0 where
  pub words_are : words ≡ codes "gen" ∷ decimal seed ∷ decimal qubits ∷ decimal items ∷ []
  pub seed_below : seed < 2 ^ 32
  pub within : IsWithin qubits items

-- the words ask for something to be generated
abbrev pub AskToGenerate : List (List ℕ) → Type 0
AskToGenerate words = (seed : ℕ) × (qubits : ℕ) × (items : ℕ) × IsGeneration words seed qubits items

-- ---- the script: an empty circuit is opened, the drawn items are put into it, and then those that undo them behind them; then the first
-- version is compared with the last
abbrev pub empty_circuit : ℕ → List ℕ
empty_circuit qubits = codes "OPENQASM 2.0;\ninclude \"qelib1.inc\";\nqreg q[" ++ decimal qubits ++ codes "];\n"

abbrev pub version : ℕ → Place
version n = record { name = codes "g"; version = n }

abbrev pub of_first_session : Order → List ℕ → Asked
of_first_session order block = record { session = 0; order = order; block = block }

abbrev pub generated : ℕ → ℕ → ℕ → List Asked
generated seed qubits items =
    of_first_session (Open (codes "g")) (empty_circuit qubits)
    ∷ of_first_session (Splice (version 1) 0 0) (circuit_text seed qubits items)
    ∷ of_first_session (Splice (version 2) items items) (mirror_text seed qubits items)
    ∷ of_first_session (Ask (version 1) (version 3)) []
    ∷ []

abbrev pub IsGeneratedScript : ℕ → ℕ → ℕ → List Line → Type 0
IsGeneratedScript seed qubits items lines = map asked_of lines ≡ generated seed qubits items

-- ---- what is written: the words, the replies, and how many entries the journal has, or that it is full
abbrev pub heading : ℕ → ℕ → ℕ → List ℕ
heading seed qubits items = codes "gen " ++ decimal seed ++ codes " " ++ decimal qubits ++ codes " " ++ decimal items ++ codes "\n"

abbrev pub count_line : List Entry → List ℕ
count_line journal = codes "entries " ++ decimal (length journal) ++ codes "\n"

-- ---- status 0: the journal holds the generated commands, and all of that is written
pub record Generates (seed qubits items : ℕ) (old new : Option (List ℕ)) (journal : List Entry) : Type 0 where
  pub lines : List Line
  pub script : IsGeneratedScript seed qubits items lines
  pub holds : Holds lines journal
  pub written : new ≡ append_known old (heading seed qubits items ++ journal_text journal ++ count_line journal)

-- ---- however it ends
-- what a status and a text that is to be written claim; want of memory claims nothing
pub data GenerationComes (seed qubits items : ℕ) (journal : List Entry) (wanted : ℕ) (text : List ℕ) : Type 0 where
  starved : wanted ≡ 70 → text ≡ codes "memory\n" → GenerationComes seed qubits items journal wanted text
  done : (lines : List Line) → IsGeneratedScript seed qubits items lines → Holds lines journal → wanted ≡ 0
      → text ≡ heading seed qubits items ++ journal_text journal ++ count_line journal → GenerationComes seed qubits items journal wanted text
  full : (served left : List Line) → IsGeneratedScript seed qubits items (served ++ left) → left ≢ [] → Holds served journal → 262144 ≤ length journal
      → wanted ≡ 69 → text ≡ heading seed qubits items ++ journal_text journal ++ codes "full\n" → GenerationComes seed qubits items journal wanted text

-- that was written, or a prefix of it, and then the status is 67
pub record GenerationEnds (seed qubits items : ℕ) (old new : Option (List ℕ)) (faults faults' : ℕ) (journal : List Entry) (status : ℕ) : Type 0 where
  pub wanted : ℕ
  pub text : List ℕ
  pub comes : GenerationComes seed qubits items journal wanted text
  pub written : Writes old new faults faults' text wanted status
