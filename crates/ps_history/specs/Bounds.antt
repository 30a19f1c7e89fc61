-- How many entries a command may take.
use Rattle.std.specs.Prelude.{ℕ, ◌+◌, ◌*◌, ◌≡◌, ◌≤◌, Bool, true, false, cond, count_by, List, [], ◌∷◌, ◌++◌, length, Option, Some, None}
use Rattle.ps_script.specs.declared.name.Place.{Place}
use Rattle.ps_script.specs.declared.command.Command.{Command}
use Rattle.ps_script.specs.declared.command.Command.TheVariants as command
use Rattle.ps_desk.specs.Views.{IsBeginning}
use Rattle.ps_journal.specs.declared.commands.Cmd.TheVariants as cmd
use Rattle.ps_journal.specs.declared.replies.Reply.{Reply}
use Rattle.ps_journal.specs.declared.replies.Reply.TheVariants.{Pinned, Published}
use Rattle.ps_journal.specs.State.{Version, Circuit, State, circuit_at, version_at}
use Rattle.ps_journal.specs.Segments.{missing}
use Rattle.ps_journal.specs.Keeping.{same_place}
use Rattle.ps_journal.specs.History.{Entry, LeadsTo, own_entries}

-- ---- how many segments of pinned versions have no record
abbrev pub missing_in : State → Option Version → ℕ
missing_in t None = 0
missing_in t (Some v) = missing t.published v.tree

abbrev pub version_of : Option Circuit → ℕ → Option Version
version_of None k = None
version_of (Some c) k = version_at c k

abbrev pub missing_at : State → Place → ℕ
missing_at t p = missing_in t (version_of (circuit_at t.circuits p.name) p.version)

-- of one version or two; where the two places are one, it counts once
abbrev pub missing_under : State → Place → Option Place → ℕ
missing_under t first None = missing_at t first
missing_under t first (Some second) = cond (same_place first second) (missing_at t first) (missing_at t first + missing_at t second)

-- ---- what a call adds
abbrev pub is_published : Reply → Bool
is_published Published = true
is_published r = false

abbrev pub published_count : List Entry → ℕ
published_count es = count_by (λ e. is_published e.reply) es

-- Behind its own entries the seat pinned these places as the last entry of a beginning of the journal; that leads to a state in
-- which so many segments of these versions are missing.
pub record PinsMissing (seat : ℕ) (own journal : List Entry) (first : Place) (second : Option Place) (m : ℕ) : Type 0 where
  pub before : List Entry
  pub state : State
  pub within : IsBeginning (before ++ (record { seat = seat; cmd = cmd.Pin first second; reply = Pinned }) ∷ []) journal
  pub entries : own_entries seat before ≡ own
  pub leads : LeadsTo (before ++ (record { seat = seat; cmd = cmd.Pin first second; reply = Pinned }) ∷ []) state
  pub count : missing_under state first second ≡ m

-- the call takes one entry, and so many are left of that
pub record IsSingle (own after : List Entry) (spare : ℕ) : Type 0 where
  pub few : length after + spare ≤ length own + 1
  pub none_published : published_count after ≡ published_count own

-- it takes at most 3 + 2 * m entries, where m segments of the versions were missing at its Pin, m of them Published; so many are left
pub record IsWithin (seat : ℕ) (own after journal : List Entry) (first : Place) (second : Option Place) (spare : ℕ) : Type 0 where
  pub m : ℕ
  pub pins : PinsMissing seat own journal first second m
  pub few : length after + spare ≤ length own + (3 + 2 * m)
  pub few_published : published_count after ≤ published_count own + m

-- a question takes one entry, or pins the places and takes more
pub data IsQuestioned (seat : ℕ) (own after journal : List Entry) (first : Place) (second : Option Place) (spare : ℕ) : Type 0 where
  single : IsSingle own after spare → IsQuestioned seat own after journal first second spare
  pinned : ∥ IsWithin seat own after journal first second spare ∥₁ → IsQuestioned seat own after journal first second spare

-- the entries that the seat has added to its own ones are within the bound of the command, with so many to spare
abbrev pub IsBounded : Command → ℕ → List Entry → List Entry → List Entry → ℕ → Type 0
IsBounded (command.Open name text) seat own after journal spare = IsSingle own after spare
IsBounded (command.Splice place from to block) seat own after journal spare = IsSingle own after spare
IsBounded (command.Retire place) seat own after journal spare = IsSingle own after spare
IsBounded (command.Ask first second) seat own after journal spare = IsQuestioned seat own after journal first (Some second) spare
IsBounded (command.AskPhase first second) seat own after journal spare = IsQuestioned seat own after journal first (Some second) spare
IsBounded (command.Prove first second) seat own after journal spare = IsQuestioned seat own after journal first (Some second) spare
IsBounded (command.Sum place) seat own after journal spare = IsQuestioned seat own after journal place None spare
IsBounded (command.Show place) seat own after journal spare = IsSingle own after spare
