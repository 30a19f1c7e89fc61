-- What threads are given and give back.
use Rattle.std.specs.Prelude.{◌≡◌, ◌≢◌, ℕ, ◌+◌, ◌≤◌, List, [], ◌++◌, Option, Some}
use Rattle.std.specs.declared.vec.Vec.{Vec}
use Rattle.std.specs.declared.alloc.Global.{Global}
use mathlib.Core.Option.{some}
use lib.ListN.{get_elem?}
use Rattle.atomic_table.specs.Seated.{TableId}
use Rattle.ps_desk.specs.declared.object.Object.{Ghosts}
use Rattle.ps_desk.specs.declared.seat.Seat.{Seat}
use Rattle.ps_desk.specs.declared.seat.Desk.{Desk}
use Rattle.ps_desk.specs.Rule.{core}
use Rattle.ps_desk.specs.Seats.{view_of, desk_of, IsSeatOf}
use Rattle.ps_script.specs.declared.command.Command.{Command}
use Rattle.ps_script.specs.declared.script.Line.{Line}
use Rattle.ps_journal.specs.declared.commands.Cmd.{Cmd}
use Rattle.ps_journal.specs.declared.replies.Reply.{Reply}
use Rattle.ps_journal.specs.History.{Entry}
use Rattle.ps_history.specs.Matching.{Matched}
use Rattle.ps_threads.specs.declared.held.Held.{Held}
use Rattle.ps_sessions.specs.declared.runs.Ending.{Ending}
use Rattle.ps_sessions.specs.declared.runs.Ending.TheVariants.{Done, Full}
use Rattle.ps_sessions.specs.Lines.{commands_of}
use Rattle.ps_threads.specs.declared.parts.Job.{Job}
use Rattle.ps_threads.specs.declared.parts.Finished.{Finished}
use Rattle.ps_threads.specs.Seated.{IsFresh}

-- ---- the commands of one session
-- where it is done no command is left, and else its ticket was refused, late
abbrev pub Leaves : Ending → List Command → Option ℕ → Type 0
Leaves Done left refused = left ≡ []
Leaves (Full ticket) left refused = (left ≢ []) × (refused ≡ Some ticket) × (262144 ≤ ticket)

-- the entries of a seat answer the first of these commands, each once, in order; the others are left
pub record Serves (commands : List Command) (own : List Entry) (refused : Option ℕ) (ending : Ending) : Type 0 where
  pub served : List Command
  pub left : List Command
  pub split : commands ≡ served ++ left
  pub matched : Matched own served
  pub leaves : Leaves ending left refused
  -- without commands it takes no turn
  pub still : commands ≡ [] → own ≡ []

module _ {O P : Type 0} {o : Ghosts O Cmd Reply} {p : Ghosts P Cmd Reply} where
  -- the seat took turns for these commands, and nothing else of it is changed
  pub record IsServedBy (commands : List Command) (old : Seat O Cmd Reply o) (new : Seat P Cmd Reply p) (ending : Ending) : Type 0 where
    pub desk : desk_of new ≡ desk_of old
    pub core_is : core (view_of new) ≡ core (view_of old)
    pub serves : Serves commands (view_of new).own (view_of new).refused ending

-- ---- all sessions
abbrev pub JobsAt : Desk Held Cmd Reply → List Job → Type 0
JobsAt desk jobs = (k : ℕ) (j : Job) → get_elem? jobs k ≡ some j → IsSeatOf desk j.seat × IsFresh j.seat

-- what the jobs became
abbrev pub AreServed : List Job → List Finished → Type 0
AreServed jobs fs = (k : ℕ) (j : Job) (f : Finished) → get_elem? jobs k ≡ some j → get_elem? fs k ≡ some f → IsServedBy j.commands.items j.seat f.seat f.ending

-- the commands of session k stand at place k
abbrev pub AreDealt : List Line → List (Vec Command Global) → Type 0
AreDealt lines dealt = (k : ℕ) (v : Vec Command Global) → get_elem? dealt k ≡ some v → v.items ≡ commands_of (k + 1) lines

-- the job of session k, at place k: its commands, and a fresh seat with the number k + 1
pub record IsJob (lines : List Line) (desk : TableId) (k : ℕ) (j : Job) : Type 0 where
  pub desk_is : desk_of j.seat ≡ desk
  pub number : (view_of j.seat).number ≡ k + 1
  pub fresh : IsFresh j.seat
  pub commands : j.commands.items ≡ commands_of (k + 1) lines

abbrev pub AreJobs : List Line → TableId → List Job → Type 0
AreJobs lines desk jobs = (k : ℕ) (j : Job) → get_elem? jobs k ≡ some j → IsJob lines desk k j

-- a seat that was split off, after its last turn
pub record IsBack (desk : TableId) (k : ℕ) (f : Finished) : Type 0 where
  pub desk_is : desk_of f.seat ≡ desk
  pub number : (view_of f.seat).number ≡ k + 1
  pub ended : (view_of f.seat).ended ≡ []

abbrev pub AreBack : TableId → List Finished → Type 0
AreBack desk fs = (k : ℕ) (f : Finished) → get_elem? fs k ≡ some f → IsBack desk k f

-- the first of two endings that is not Done
abbrev pub first_full : Ending → Ending → Ending
first_full Done other = other
first_full (Full ticket) other = Full ticket
