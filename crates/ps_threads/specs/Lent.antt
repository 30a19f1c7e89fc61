-- Seat 0, while the others are out, and as they come back.
use Rattle.std.specs.Prelude.{◌≡◌, ℕ, ◌+◌, ◌<◌, ◌≤◌, List, [], length, Option}
use mathlib.Core.Option.{some}
use lib.ListN.{get_elem?}
use Rattle.ps_desk.specs.declared.view.View.{View}
use Rattle.ps_desk.specs.declared.view.Ended.{Ended}
use Rattle.ps_desk.specs.Views.{Has}
use Rattle.ps_desk.specs.Seats.{view_of}
use Rattle.ps_script.specs.declared.script.Line.{Line}
use Rattle.ps_journal.specs.declared.commands.Cmd.{Cmd}
use Rattle.ps_journal.specs.declared.replies.Reply.{Reply}
use Rattle.ps_journal.specs.History.{Entry}
use Rattle.ps_sessions.specs.declared.runs.Ending.{Ending}
use Rattle.ps_sessions.specs.declared.runs.Ending.TheVariants.{Done, Full}
use Rattle.ps_sessions.specs.Lines.{commands_of}
use Rattle.ps_threads.specs.declared.parts.Finished.{Finished}
use Rattle.ps_threads.specs.Served.{Serves}
use Rattle.ps_threads.specs.Worked.{IsWork}

-- seat 0, which took no turn: all numbers below n, but its own, are out
pub record Lends (v : View Cmd Reply) (n : ℕ) : Type 0 where
  pub number : v.number ≡ 0
  pub own : v.own ≡ []
  pub count : length v.out + 1 ≡ n
  pub out : (k : ℕ) → 0 < k → k < n → Has v.out k

-- what the seat with this number has done: those up to 16 are of sessions, and the others of workers
pub record HasServed (lines : List Line) (number : ℕ) (own : List Entry) (refused : Option ℕ) (ending : Ending) : Type 0 where
  pub session : number ≤ 16 → Serves (commands_of number lines) own refused ending
  pub worker : 16 < number → IsWork own × (ending ≡ Done)

abbrev pub AllServe : List Line → List Finished → Type 0
AllServe lines fs = (k : ℕ) (f : Finished) → get_elem? fs k ≡ some f → HasServed lines (k + 1) (view_of f.seat).own (view_of f.seat).refused f.ending

abbrev pub ServesAs : List Line → Ended Cmd Reply → Ending → Type 0
ServesAs lines e ending = HasServed lines e.number e.own e.refused ending

-- an ended seat whose session was cut short by this ticket
pub record CutAt (lines : List Line) (ended : List (Ended Cmd Reply)) (ticket : ℕ) : Type 0 where
  pub place : ℕ
  pub seat : Ended Cmd Reply
  pub at : get_elem? ended place ≡ some seat
  pub serves : ServesAs lines seat (Full ticket)

-- the seats that came back, in the order of their numbers from n down
pub record Came (lines : List Line) (n : ℕ) (ending : Ending) (ended : List (Ended Cmd Reply)) : Type 0 where
  pub numbers : (k : ℕ) (e : Ended Cmd Reply) → get_elem? ended k ≡ some e → e.number + k ≡ n
  pub each : (k : ℕ) (e : Ended Cmd Reply) → get_elem? ended k ≡ some e → (b : Ending) × ServesAs lines e b
  pub whole : ending ≡ Done → (k : ℕ) (e : Ended Cmd Reply) → get_elem? ended k ≡ some e → ServesAs lines e Done
  pub cut : (ticket : ℕ) → ending ≡ Full ticket → CutAt lines ended ticket
