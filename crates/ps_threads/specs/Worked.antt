-- What the seats of workers are given and give back.
use Rattle.std.specs.Prelude.{◌≡◌, ℕ, ◌+◌, List, []}
use mathlib.Core.Option.{some}
use lib.ListN.{get_elem?}
use Rattle.atomic_table.specs.Seated.{TableId}
use Rattle.ps_desk.specs.declared.object.Object.{Ghosts}
use Rattle.ps_desk.specs.declared.seat.Seat.{Seat}
use Rattle.ps_desk.specs.declared.seat.Desk.{Desk}
use Rattle.ps_desk.specs.Rule.{core}
use Rattle.ps_desk.specs.Seats.{view_of, desk_of, IsSeatOf}
use Rattle.ps_journal.specs.declared.commands.Cmd.{Cmd}
use Rattle.ps_journal.specs.declared.replies.Reply.{Reply}
use Rattle.ps_journal.specs.History.{Entry}
use Rattle.ps_sessions.specs.declared.runs.Ending.TheVariants.{Done}
use Rattle.ps_worker.specs.Shifts.{Adds}
use Rattle.ps_threads.specs.declared.held.Held.{Held}
use Rattle.ps_threads.specs.declared.parts.Finished.{Finished}
use Rattle.ps_threads.specs.Seated.{IsFresh}

-- ---- one worker
-- all entries of its seat: at most 8,190, each a Next for any version or a Publish; a record in one is the filled one of the task that the
-- seat was given last
abbrev pub IsWork : List Entry → Type 0
IsWork own = Adds 8190 [] own

module _ {O P : Type 0} {o : Ghosts O Cmd Reply} {p : Ghosts P Cmd Reply} where
  -- the seat took turns for work, and nothing else of it is changed
  pub record IsWorkedBy (old : Seat O Cmd Reply o) (new : Seat P Cmd Reply p) : Type 0 where
    pub desk : desk_of new ≡ desk_of old
    pub core_is : core (view_of new) ≡ core (view_of old)
    pub work : IsWork (view_of new).own

-- ---- all workers
module _ {O : Type 0} {o : Ghosts O Cmd Reply} where
  abbrev pub SeatsAt : Desk O Cmd Reply → List (Seat O Cmd Reply o) → Type 0
  SeatsAt desk seats = (k : ℕ) (s : Seat O Cmd Reply o) → get_elem? seats k ≡ some s → IsSeatOf desk s × IsFresh s

  -- a fresh seat with this number
  pub record IsIdle (table : TableId) (number : ℕ) (s : Seat O Cmd Reply o) : Type 0 where
    pub desk_is : desk_of s ≡ table
    pub number_is : (view_of s).number ≡ number
    pub fresh : IsFresh s

  -- fresh seats with the numbers from n on
  abbrev pub AreIdle : TableId → ℕ → List (Seat O Cmd Reply o) → Type 0
  AreIdle table n seats = (k : ℕ) (s : Seat O Cmd Reply o) → get_elem? seats k ≡ some s → IsIdle table (n + k) s

  -- what the seats became, at the places from n on
  abbrev pub AreWorked : ℕ → List (Seat O Cmd Reply o) → List Finished → Type 0
  AreWorked n seats fs = (k : ℕ) (s : Seat O Cmd Reply o) (f : Finished) → get_elem? seats k ≡ some s → get_elem? fs (n + k) ≡ some f
      → IsWorkedBy s f.seat × (f.ending ≡ Done)
