-- How the filling of pinned versions goes on and ends.
use Rattle.std.specs.Prelude.{ℕ, ◌+◌, ◌≡◌, ◌≢◌, ◌≤◌, true, false, List, Option, Some, None}
use Rattle.ps_script.specs.declared.name.Place.{Place}
use Rattle.ps_script.specs.declared.command.Command.{Command}
use Rattle.ps_script.specs.declared.command.Command.TheVariants as command
use Rattle.ps_reach.specs.declared.record.Record.{Record}
use Rattle.ps_reach.specs.declared.task.Task.{Task}
use Rattle.ps_reach.specs.declared.mode.Mode.TheVariants.{Exact, Phase}
use Rattle.ps_journal.specs.declared.replies.Reply.{Reply}
use Rattle.ps_journal.specs.declared.replies.Reply.TheVariants.{Published, Already, NoRoom}
use Rattle.ps_journal.specs.History.{Entry, own_entries}
use Rattle.ps_history.specs.Inner.{Idles}
use Rattle.ps_history.specs.Bounds.{IsWithin}
use Rattle.ps_history.specs.Stages.{Asks, AsksWith, AsksNoMore, GaveUp}
use Rattle.ps_calls.specs.declared.settling.Settling.{Settling}
use Rattle.ps_calls.specs.declared.settling.Settling.TheVariants as settling
use Rattle.ps_calls.specs.declared.questions.Question.{Question}
use Rattle.ps_calls.specs.Turns.{TurnView}
use Rattle.ps_calls.specs.Calls.{Done, Cut}

-- who asks, with which entries of its own so far, about which versions
pub record Asking : Type 0 where
  pub seat : ℕ
  pub own : List Entry
  pub first : Place
  pub second : Option Place

-- so many rounds are done
pub record IsAsking (at : Asking) (rounds : ℕ) (v : TurnView) : Type 0 where
  pub number : v.number ≡ at.seat
  pub asks : Asks at.seat at.own v.seen at.first at.second rounds

-- a task was given in the next one
pub record IsFilling (at : Asking) (rounds : ℕ) (task : Task) (v : TurnView) : Type 0 where
  pub number : v.number ≡ at.seat
  pub asks : AsksWith at.seat at.own v.seen at.first at.second rounds task

pub record IsGivingUp (at : Asking) (crowded : Option ℕ) (v : TurnView) : Type 0 where
  pub number : v.number ≡ at.seat
  pub gave_up : GaveUp at.seat at.own v.seen at.first at.second crowded

pub record IsSettled (at : Asking) (first : Record) (second : Option Record) (v : TurnView) : Type 0 where
  pub number : v.number ≡ at.seat
  pub rounds : ℕ
  pub settled : AsksNoMore at.seat at.own v.seen at.first at.second rounds first second

-- a Publish was answered: the record is there, or was there, or memory or room was wanting
pub data RoundOf : Reply → Option Settling → Type 0 where
  filled : RoundOf Published None
  found : {entry : ℕ} → RoundOf (Already entry) None
  crowded : {total : ℕ} → RoundOf (NoRoom total) (Some settling.Crowded)
  starved : {r : Reply} → r ≢ Published → ((entry : ℕ) → r ≢ Already entry) → ((total : ℕ) → r ≢ NoRoom total) → RoundOf r (Some settling.Starved)

-- how all of them end
abbrev pub SettlingEnds : Asking → TurnView → Settling → Type 0
SettlingEnds at v (settling.Settled first second) = IsSettled at first second v
SettlingEnds at v settling.Starved = IsGivingUp at None v
SettlingEnds at v settling.Crowded = (total : ℕ) × IsGivingUp at (Some total) v

-- how a round ends, behind which there may be more
abbrev pub TakingEnds : Asking → ℕ → TurnView → Option Settling → Type 0
TakingEnds at rounds v None = IsAsking at (rounds + 1) v
TakingEnds at rounds v (Some end) = SettlingEnds at v end

-- a ticket was refused
pub record IsCutShort (at : Asking) (v : TurnView) (ticket : ℕ) : Type 0 where
  pub idles : Idles at.own (own_entries at.seat v.seen)
  pub within : ∥ IsWithin at.seat at.own (own_entries at.seat v.seen) v.seen at.first at.second 1 ∥₁
  pub refused : v.refused ≡ Some ticket
  pub late : 262144 ≤ ticket

-- ---- from one view to another, whoever asks
-- a task was given, and its round ended so, or a ticket was refused in it
abbrev pub FillingEnds : Task → TurnView → TurnView → Option Settling → Type 0
FillingEnds task old new end = (at : Asking) (rounds : ℕ) → IsFilling at rounds task old → TakingEnds at rounds new end

abbrev pub FillingCut : Task → TurnView → TurnView → ℕ → Type 0
FillingCut task old new ticket = (at : Asking) (rounds : ℕ) → IsFilling at rounds task old → IsCutShort at new ticket

-- so did a whole round
abbrev pub AskingEnds : TurnView → TurnView → Option Settling → Type 0
AskingEnds old new end = (at : Asking) (rounds : ℕ) → IsAsking at rounds old → TakingEnds at rounds new end

abbrev pub AskingCut : TurnView → TurnView → ℕ → Type 0
AskingCut old new ticket = (at : Asking) (rounds : ℕ) → IsAsking at rounds old → IsCutShort at new ticket

-- and all rounds
abbrev pub AllEnd : TurnView → TurnView → Settling → Type 0
AllEnd old new end = (at : Asking) → IsAsking at 0 old → SettlingEnds at new end

abbrev pub AllCut : TurnView → TurnView → ℕ → Type 0
AllCut old new ticket = (at : Asking) → IsAsking at 0 old → IsCutShort at new ticket

-- the question that a command asks
abbrev pub IsAsked : Question → Command → Type 0
IsAsked q (command.Ask first second) = (q.first ≡ first) × (q.second ≡ second) × (q.mode ≡ Exact) × (q.proof ≡ false)
IsAsked q (command.AskPhase first second) = (q.first ≡ first) × (q.second ≡ second) × (q.mode ≡ Phase) × (q.proof ≡ false)
IsAsked q (command.Prove first second) = (q.first ≡ first) × (q.second ≡ second) × (q.mode ≡ Exact) × (q.proof ≡ true)
IsAsked q c = ⊥

-- each command that asks it was done, or cut short by a refused ticket
abbrev pub AskedDone : Question → Reply → TurnView → TurnView → Type 0
AskedDone q reply old new = (c : Command) → IsAsked q c → Done c reply old new

abbrev pub AskedCut : Question → ℕ → TurnView → TurnView → Type 0
AskedCut q ticket old new = (c : Command) → IsAsked q c → Cut c ticket old new
