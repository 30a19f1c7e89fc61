-- The rule of a desk: what holds between any two steps, whatever the order in which threads take them.
-- The ticket word counts the tickets drawn, and the serving word the turns ended. The history is the journal of the object, wherever it is.
use Rattle.std.specs.Prelude.{◌≡◌, ℕ, ◌+◌, ◌-◌, ◌<◌, ◌≤◌, ◌≢◌, Bool, true, cond, List, [], ◌∷◌, ◌⊎◌, map, length, Option, Some, None}
use mathlib.Core.Option.{some, none}
use mathlib.Core.Option as maybe
use lib.ListN.{get_elem?}
use Rattle.atomic_table.specs.Table.{State}
use Rattle.ps_desk.specs.declared.entry.Entry.{Entry}
use Rattle.ps_desk.specs.declared.view.View.{View}
use Rattle.ps_desk.specs.declared.view.Ended.{Ended}
use Rattle.ps_desk.specs.Views.{Has, own_of, IsBeginning}

-- Turns, lists and refused tickets of one view. What it has seen and was told of begins the history, its own entries are those of
-- its number. A ticket that it holds is to be served still, and only with the served one it is at its turn, which names the history.
pub record Fits {C R : Type 0} (history : List (Entry C R)) (tickets : ℕ) (v : View C R) : Type 0 where
  pub seen : IsBeginning v.seen history
  pub told : IsBeginning v.told history
  pub own : v.live ≡ true → v.own ≡ own_of v.number history
  pub own_seen : v.live ≡ true → v.own ≡ own_of v.number v.seen
  pub ticket : (t : ℕ) → v.ticket ≡ Some t → (length history ≤ t) × (t < tickets) × (t < 262144) × (v.live ≡ true)
  pub found : (h : List (Entry C R)) → v.found ≡ Some h → (h ≡ history) × (v.ticket ≡ Some (length history))
  pub refused : (t : ℕ) → v.refused ≡ Some t → (262144 ≤ t) × (t < tickets)

module _ {C R : Type 0} (views : List (View C R)) where
  -- No seat is at its turn.
  abbrev pub NoneAtTurn : Type 0
  NoneAtTurn = (i : ℕ) (v : View C R) → get_elem? views i ≡ some v → v.found ≡ None

  -- No two seats hold one ticket.
  abbrev pub Apart : Type 0
  Apart =
      (i j t : ℕ) (v w : View C R) → get_elem? views i ≡ some v → get_elem? views j ≡ some w → v.ticket ≡ Some t → w.ticket ≡ Some t → i ≡ j

  -- Some seat holds the ticket.
  abbrev pub Waits : ℕ → Type 0
  Waits t = (i : ℕ) × (v : View C R) × (get_elem? views i ≡ some v) × (v.ticket ≡ Some t)

module _ {O C R : Type 0} (journal : O → List (Entry C R)) (spare : O → ℕ) where
  -- The object is in the slot, with this journal, and there is room for what is still to come.
  abbrev pub IsHome : List (Entry C R) → List (maybe.Option (Option O)) → Type 0
  IsHome history homes = (o : O) × (get_elem? homes 0 ≡ some (some (Some o))) × (journal o ≡ history) × (262144 ≤ spare o + length history)

-- What a seat's own turns leave as it is.
pub record Core (C R : Type 0) : Type 0 where
  pub live : Bool
  pub number : ℕ
  pub next : ℕ
  pub end : ℕ
  pub out : List ℕ
  pub ended : List (Ended C R)

abbrev pub core : {C R : Type 0} → View C R → Core C R
core v = record { live = v.live; number = v.number; next = v.next; end = v.end; out = v.out; ended = v.ended }

-- Numbers and other seats. Seat 0 stands first. Each number below its next one is given away: it is 0, out or ended; these are as
-- many as there are numbers, so they are all different. A live seat other than 0 is out, and has nothing of the kind itself.
pub record Roster {C R : Type 0} (history : List (Entry C R)) (tickets : ℕ) (cores : List (Core C R)) : Type 0 where
  pub first : Core C R
  pub at_first : get_elem? cores 0 ≡ some first
  pub first_is : (first.live ≡ true) × (first.number ≡ 0) × (first.next ≤ first.end) × (length first.out + length first.ended + 1 ≡ first.next)
  pub covers : (n : ℕ) → n < first.next
      → (n ≡ 0) ⊎ (Has first.out n ⊎ ((k : ℕ) × (e : Ended C R) × (get_elem? first.ended k ≡ some e) × (e.number ≡ n)))
  pub numbers : (i j : ℕ) (a b : Core C R) → get_elem? cores i ≡ some a → get_elem? cores j ≡ some b
      → a.live ≡ true → b.live ≡ true → a.number ≡ b.number → i ≡ j
  pub below : (i : ℕ) (a : Core C R) → get_elem? cores i ≡ some a → a.live ≡ true → a.number < first.next
  pub others : (i : ℕ) (a : Core C R) → get_elem? cores i ≡ some a → a.live ≡ true → i ≢ 0
      → Has first.out a.number × (a.next ≡ a.end) × (a.out ≡ []) × (a.ended ≡ [])
  -- an ended seat has the entries of its number, and its refused ticket was drawn
  pub ended : (k : ℕ) (e : Ended C R) → get_elem? first.ended k ≡ some e
      → (e.own ≡ own_of e.number history) × ((t : ℕ) → e.refused ≡ Some t → (262144 ≤ t) × (t < tickets)) × (e.number < first.next)
  pub over : (k i : ℕ) (e : Ended C R) (a : Core C R) → get_elem? first.ended k ≡ some e → get_elem? cores i ≡ some a → a.live ≡ true → e.number ≢ a.number
  -- a number that was not given away has no entry
  pub unused : (n : ℕ) → first.next ≤ n → own_of n history ≡ []

-- The sum of f over the list.
abbrev pub total : {V : Type 0} → (V → ℕ) → List V → ℕ
total f [] = 0
total f (v ∷ vs) = f v + total f vs

-- One where a ticket was refused.
abbrev pub refusal : Option ℕ → ℕ
refusal None = 0
refusal (Some t) = 1

-- The refused tickets that a view names, its own and those of ended seats.
abbrev pub refusals : {C R : Type 0} → View C R → ℕ
refusals v = cond v.live (refusal v.refused + total (λ e. refusal e.refused) v.ended) 0

-- The numbers that a view stands for: its own, the spare and the ended ones.
abbrev pub parts : {C R : Type 0} → View C R → ℕ
parts v = cond v.live (1 + (v.end - v.next) + length v.ended) 0

pub record Rule {O C R : Type 0} (journal : O → List (Entry C R)) (spare : O → ℕ) (legal : List (Entry C R) → Type 0) (seats : ℕ)
    (s : State (Option O) (View C R)) : Type 0 where
  -- the history is legal, and as long as turns have ended
  pub history : List (Entry C R)
  pub tickets : ℕ
  pub words : s.words ≡ tickets ∷ length history ∷ []
  pub lawful : legal history
  pub behind : length history ≤ tickets
  -- the object is in the slot exactly while no seat is at its turn
  pub home : NoneAtTurn s.views → IsHome journal spare history s.homes
  pub away : (i : ℕ) (v : View C R) (h : List (Entry C R)) → get_elem? s.views i ≡ some v → v.found ≡ Some h → get_elem? s.homes 0 ≡ some none
  -- each ticket that is to be served still, below 262,144, is in just one view
  pub each : (i : ℕ) (v : View C R) → get_elem? s.views i ≡ some v → Fits history tickets v
  pub apart : Apart s.views
  pub waited : (t : ℕ) → length history ≤ t → t < tickets → t < 262144 → Waits s.views t
  -- numbers, and who has them
  pub roster : Roster history tickets (map core s.views)
  -- no more tickets are drawn than 262,144 and those refused, which are at most one for each number
  pub few : tickets ≤ 262144 + total refusals s.views
  pub shared : (total parts s.views ≡ seats) × (seats ≤ 64)
