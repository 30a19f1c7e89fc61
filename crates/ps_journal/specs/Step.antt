-- One command of the service: what it answers, and the state that it leaves.
use Rattle.std.specs.Prelude.{ℕ, ◌≡◌, Bool, Option, Some, None}
use Rattle.ps_journal.specs.declared.commands.Cmd.{Cmd}
use Rattle.ps_journal.specs.declared.commands.Cmd.TheVariants as cmd
use Rattle.ps_journal.specs.declared.replies.Reply.{Reply}
use Rattle.ps_journal.specs.declared.replies.Reply.TheVariants.{Memory}
use Rattle.ps_journal.specs.State.{State, unclaimed}
use Rattle.ps_journal.specs.Keeping.{unpinned}
use Rattle.ps_journal.specs.Opening.{Opens}
use Rattle.ps_journal.specs.Splicing.{Splices}
use Rattle.ps_journal.specs.Retiring.{Retires}
use Rattle.ps_journal.specs.Pinning.{Pins}
use Rattle.ps_journal.specs.Claiming.{Nexts}
use Rattle.ps_journal.specs.Publishing.{Publishes}
use Rattle.ps_journal.specs.Judging.{Answers}
use Rattle.ps_journal.specs.Summing.{Sums}
use Rattle.ps_journal.specs.Showing.{Reads}

-- the state that want of memory leaves; Retire and Pin never want it
abbrev pub starved : ℕ → ℕ → Cmd → State → Option State
starved i seat (cmd.Open name text) t = Some t
starved i seat (cmd.Splice name base from to block) t = Some t
starved i seat (cmd.Retire name version) t = None
starved i seat (cmd.Pin first second) t = None
starved i seat (cmd.Next pinned) t = Some (unclaimed seat t)
starved i seat (cmd.Publish kept) t = Some (unclaimed seat t)
starved i seat (cmd.Answer outcome) t = Some (unpinned i seat t)
starved i seat (cmd.Read place) t = Some t
starved i seat (cmd.Sum outcome) t = Some (unpinned i seat t)

-- what the command does where memory is there
abbrev pub Serves : State → ℕ → ℕ → Cmd → Reply → State → Type 0
Serves t i seat (cmd.Open name text) r new = Opens t i name text.value r new
Serves t i seat (cmd.Splice name base from to block) r new = Splices t name base from to block.value r new
Serves t i seat (cmd.Retire name version) r new = Retires t i (record { name = name; version = version }) r new
Serves t i seat (cmd.Pin first second) r new = Pins t i seat first second r new
Serves t i seat (cmd.Next pinned) r new = Nexts t i seat pinned r new
Serves t i seat (cmd.Publish kept) r new = Publishes t i seat kept r new
Serves t i seat (cmd.Answer outcome) r new = Answers t i seat outcome r new
Serves t i seat (cmd.Read place) r new = Reads t place r new
Serves t i seat (cmd.Sum outcome) r new = Sums t i seat outcome r new

-- entry i of the seat, from the one state to the other
pub data Step (t : State) (i seat : ℕ) (c : Cmd) : Reply → State → Type 0 where
  serves : {r : Reply} {new : State} → Serves t i seat c r new → Step t i seat c r new
  wants : {new : State} → starved i seat c t ≡ Some new → Step t i seat c Memory new
