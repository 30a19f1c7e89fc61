-- What a step of a worker adds to its entries, and what it answers.
use Rattle.std.specs.Prelude.{ℕ, suc, ◌≡◌, ◌<◌, ◌≤◌, false, List, [], ◌∷◌, ◌++◌, Option, Some, None}
use Rattle.std.specs.declared.sync.Arc.{Arc}
use Rattle.std.specs.declared.alloc.Global.{Global}
use Rattle.ps_reach.specs.declared.record.Record.{Record}
use Rattle.ps_reach.specs.declared.task.Task.{Task as ATask}
use Rattle.ps_reach.specs.declared.task.Work.{Work as AWork}
use Rattle.ps_normal.specs.Fillings.{CanFill, IsRecordFor}
use Rattle.ps_journal.specs.declared.commands.Cmd.{Cmd}
use Rattle.ps_journal.specs.declared.commands.Cmd.TheVariants as cmd
use Rattle.ps_journal.specs.declared.replies.Reply.{Reply}
use Rattle.ps_journal.specs.declared.replies.Reply.TheVariants as reply
use Rattle.ps_journal.specs.History.{Entry}
use Rattle.ps_history.specs.Lasts.{WasGiven}
use Rattle.ps_history.specs.Inner.{IsInner}
use Rattle.ps_calls.specs.Turns.{TurnView}
use Rattle.ps_calls.specs.Calls.{own}
use Rattle.ps_worker.specs.declared.answers.Work1.{Work1}
use Rattle.ps_worker.specs.declared.answers.Work1.TheVariants.{Worked, Already, Dropped, Idle, NoRoom, Full, Memory}

-- ---- entries
-- a Next for any version that is kept, or a Publish
abbrev pub IsOfWork : Cmd → Type 0
IsOfWork (cmd.Next false) = Unit {0}
IsOfWork (cmd.Publish kept) = Unit {0}
IsOfWork c = ⊥

-- so many entries came in addition, each of work; a record in one is the filled one of the task that the seat was given last
pub data Steps (before : List Entry) : ℕ → List Entry → Type 0 where
  none : Steps before 0 before
  more : {n : ℕ} {es : List Entry} (e : Entry) → Steps before n es → IsOfWork e.cmd → IsInner es e → Steps before (suc n) (es ++ e ∷ [])

-- ---- answers
-- the answer is that of this reply; Memory may be the answer where the reply is none of those that are told
abbrev pub Tells : Work1 → Reply → Type 0
Tells Worked r = r ≡ reply.Published
Tells (Already entry) r = r ≡ reply.Already entry
Tells (Dropped entry) r = r ≡ reply.Dropped entry
Tells Idle r = r ≡ reply.Idle
Tells (NoRoom total) r = r ≡ reply.NoRoom total
Tells Full r = ⊥
Tells Memory reply.Published = ⊥
Tells Memory (reply.Already entry) = ⊥
Tells Memory (reply.Dropped entry) = ⊥
Tells Memory reply.Idle = ⊥
Tells Memory (reply.NoRoom total) = ⊥
Tells Memory r = Unit {0}

-- of the last of the entries
pub record EndsWith (answer : Work1) (es : List Entry) : Type 0 where
  pub before : List Entry
  pub last : Entry
  pub whole : es ≡ before ++ last ∷ []
  pub tells : Tells answer last.reply

-- a ticket is refused
pub record IsRefused (v : TurnView) : Type 0 where
  pub ticket : ℕ
  pub refused : v.refused ≡ Some ticket
  pub late : 262144 ≤ ticket

-- a ticket is refused, or none is, and the answer is that of the seat's last entry
abbrev pub Ends : Work1 → TurnView → Type 0
Ends Full v = IsRefused v
Ends answer v = EndsWith answer (own v) × (v.refused ≡ None)

-- ---- a step, and its parts
-- at most so many entries are new, and it ends so
pub record Does (most : ℕ) (answer : Work1) (old new : TurnView) : Type 0 where
  pub count : ℕ
  pub few : count ≤ most
  pub steps : Steps (own old) count (own new)
  pub ends : Ends answer new

-- it added an entry, unless a ticket was refused at once
abbrev pub Begins : Work1 → TurnView → TurnView → Type 0
Begins Full old new = Unit {0}
Begins answer old new = (n : ℕ) × Steps (own old) (suc n) (own new)

-- the seat was given the task, which it can fill, and has not answered it yet
pub record IsGiven (task : ATask) (v : TurnView) : Type 0 where
  pub below : v.number < 64
  pub wide : (1 ≤ task.n) × (task.n ≤ 64)
  pub can_fill : CanFill task.n task.work
  pub given : WasGiven (own v) task
  pub open_yet : EndsWith Memory (own v)
  pub unrefused : v.refused ≡ None

-- the record of the task, or none
abbrev pub IsRecordOrNone : ℕ → AWork → Option (Arc Record Global) → Type 0
IsRecordOrNone n work None = Unit {0}
IsRecordOrNone n work (Some r) = IsRecordFor n work r.value
