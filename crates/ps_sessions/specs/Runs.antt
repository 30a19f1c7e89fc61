-- What the run of a script is.
use Rattle.std.specs.Prelude.{ℕ, ◌≡◌, ◌≢◌, ◌≤◌, List, [], ◌∷◌, ◌++◌, map, length}
use Rattle.ps_script.specs.declared.script.Line.{Line}
use Rattle.ps_journal.specs.History.{Entry, IsLegal, own_entries, session_entries}
use Rattle.ps_history.specs.Matching.{Matched}
use Rattle.ps_sessions.specs.declared.runs.Ending.{Ending}
use Rattle.ps_sessions.specs.declared.runs.Ending.TheVariants.{Done, Full}
use Rattle.ps_sessions.specs.declared.runs.Run.{Run}
use Rattle.ps_sessions.specs.Lines.{seat_of, commands_of, Adds, Serves}
use Rattle.ps_sessions.specs.Verdicts.{AreJust}

-- a ticket was refused although a line is left: the journal is full
pub record IsCutShort (left : List Line) (ticket : ℕ) (journal : List Entry) : Type 0 where
  pub some_left : left ≢ []
  pub late : ticket ≡ 262144
  pub full : 262144 ≤ length journal

-- What stands behind the entries of the lines that were answered: nothing, or fewer entries of the next line than its command may take.
abbrev pub EndsBy : Ending → List Line → List Entry → List Entry → Type 0
EndsBy Done [] es journal = journal ≡ es
EndsBy Done (l ∷ ls) es journal = ⊥
EndsBy (Full ticket) [] es journal = ⊥
EndsBy (Full ticket) (l ∷ ls) es journal = Adds l es journal 1

pub record IsRunOf (lines : List Line) (r : Run) : Type 0 where
  -- the first lines were answered, and the others are left
  pub served : List Line
  pub left : List Line
  pub split : lines ≡ served ++ left
  -- the journal is one legal history of the service
  pub legal : IsLegal r.journal
  -- how it ends: where it is done no line is left, and else the ticket was refused late
  pub complete : r.ending ≡ Done → left ≡ []
  pub cut : (ticket : ℕ) → r.ending ≡ Full ticket → IsCutShort left ticket r.journal
  -- the entries of each seat answer the commands of its session that were answered, each once, in order
  pub matched : (seat : ℕ) → Matched (own_entries seat r.journal) (commands_of seat served)
  -- a seat whose session has no line has no entry
  pub others : (seat : ℕ) → commands_of seat lines ≡ [] → own_entries seat r.journal ≡ []
  -- the answers are those of the entries that end commands, which come in the order of the lines
  pub replies : map (λ a. a.reply) r.responses ≡ map (λ e. e.reply) (session_entries r.journal)
  pub sessions : map (λ a. a.session) r.responses ≡ map (λ l. l.session) served
  pub seats : map (λ e. e.seat) (session_entries r.journal) ≡ map seat_of served
  -- no command took more entries than it may take
  pub steady : List Entry
  pub serves : Serves served steady
  pub last : EndsBy r.ending left steady r.journal
  -- every yes, no and unknown is justified for the two committed versions that its seat had pinned
  pub just : AreJust r.journal
