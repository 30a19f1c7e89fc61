-- How far a question has come, after each of its turns: what the entries of its seat are, and what holds of each state that the history leads to.
use Rattle.std.specs.Prelude.{ℕ, ◌+◌, ◌*◌, ◌≡◌, ◌≤◌, ◌++◌, List, length, Contains, Option, Some, None, true}
use Rattle.seg_tree.specs.Trees.{Tree, name_of, run}
use Rattle.ps_prim.specs.declared.prims.Primitive.{Primitive as Prim}
use Rattle.ps_script.specs.declared.name.Place.{Place}
use Rattle.ps_reach.specs.declared.record.Record.{Record}
use Rattle.ps_reach.specs.declared.task.Task.{Task}
use Rattle.ps_reach.specs.declared.task.Work.{Work}
use Rattle.ps_reach.specs.declared.task.Work.TheVariants.{Items, Children}
use Rattle.ps_normal.specs.Fillings.{CanFill}
use Rattle.ps_journal.specs.declared.seats.Pin.{Pin}
use Rattle.ps_journal.specs.declared.seats.Claim.{Claim}
use Rattle.ps_journal.specs.State.{Item, Version, Circuit, Published, State, Finds, pin_of, claim_of}
use Rattle.ps_journal.specs.Segments.{segments_of, published_at, is_settled}
use Rattle.ps_journal.specs.Keeping.{pins_place}
use Rattle.ps_journal.specs.Judging.{Belongs}
use Rattle.ps_journal.specs.History.{Entry, LeadsTo, IsLegal, own_entries}
use Rattle.ps_history.specs.Lasts.{HasPinned, WasGiven, WasTold, WasRefused}
use Rattle.ps_history.specs.Inner.{Idles}
use Rattle.ps_history.specs.Bounds.{missing_under, published_count, PinsMissing, IsWithin}

-- ---- what later states keep
-- the version with its items and its tree is still there, on as many qubits
pub record StillFinds (t : State) (p : Place) (c : Circuit) (v : Version) : Type 0 where
  pub circuit : Circuit
  pub version : Version
  pub found : Finds t p circuit version
  pub qubits : circuit.qubits ≡ c.qubits
  pub items : version.items ≡ v.items
  pub tree : version.tree ≡ v.tree

-- every version is still there, and what was published for a segment still stands
pub record Later (t new : State) : Type 0 where
  pub finds : (p : Place) (c : Circuit) (v : Version) → Finds t p c v → StillFinds new p c v
  pub stands : (k : ℕ) (p : Published) → published_at t.published k ≡ Some p → published_at new.published k ≡ Some p

-- ---- pinned versions
-- a version is at the place, and it is kept
pub record KeepsAt (t : State) (p : Place) : Type 0 where
  pub circuit : Circuit
  pub version : Version
  pub found : Finds t p circuit version
  pub kept : version.ended ≡ None

-- the circuits at the two places have as many qubits
abbrev pub AreAsWide : State → Place → Place → Type 0
AreAsWide t p q = (c d : Circuit) (v w : Version) → Finds t p c v → Finds t q d w → c.qubits ≡ d.qubits

abbrev pub KeepsPlaces : State → Place → Option Place → Type 0
KeepsPlaces t first None = KeepsAt t first
KeepsPlaces t first (Some second) = KeepsAt t first × KeepsAt t second × AreAsWide t first second

-- the seat has pinned the places, and their versions are kept
pub record HoldsPin (t : State) (seat : ℕ) (pin : Pin) (first : Place) (second : Option Place) : Type 0 where
  pub pin_is : pin_of t seat ≡ Some pin
  pub first_is : pin.first ≡ first
  pub second_is : pin.second ≡ second
  pub keeps : KeepsPlaces t first second

-- so many segments were missing when they were pinned, and with so many more published that many are
pub record HasRoom (t : State) (seat : ℕ) (own seen : List Entry) (first : Place) (second : Option Place) (rounds : ℕ) : Type 0 where
  pub m : ℕ
  pub pins : PinsMissing seat own seen first second m
  pub room : missing_under t first second + rounds ≤ m

-- ---- a claimed segment
-- the items of what is to be computed
abbrev pub items_of : Work → List Item
items_of (Items a) = a.value
items_of (Children a b) = a.value.items.value ++ b.value.items.value

-- The seat's claim is on this segment of a pinned version, for which the task was given out: it had no record then, and the task is
-- of its items. Nothing else of the version has its name with other items.
pub record HoldsClaim (t : State) (seat : ℕ) (pin : Pin) (task : Task) (given : State) : Type 0 where
  pub claim : Claim
  pub claim_is : claim_of t seat ≡ Some claim
  pub pinned : pins_place claim.place pin ≡ true
  pub later : Later given t
  pub free : published_at given.published claim.node ≡ None
  pub circuit : Circuit
  pub version : Version
  pub segment : Tree Item
  pub found : Finds given claim.place circuit version
  pub within : Contains (segments_of version.tree) segment
  pub named : name_of segment ≡ Some claim.node
  pub alike : (s : Tree Item) → Contains (segments_of version.tree) s → name_of s ≡ Some claim.node → run s ≡ run segment
  pub qubits : task.n ≡ circuit.qubits
  pub items : items_of task.work ≡ run segment

-- ---- the records that pinned versions come to
-- the version at the place is settled, and the record belongs to it
pub record ComesWith (t : State) (p : Place) (r : Record) : Type 0 where
  pub circuit : Circuit
  pub version : Version
  pub found : Finds t p circuit version
  pub settled : is_settled t.published version.tree ≡ true
  pub belongs : Belongs circuit version r

abbrev pub ComeWith : State → Place → Option Place → Record → Option Record → Type 0
ComeWith t first None a None = ComesWith t first a
ComeWith t first (Some second) a (Some b) = ComesWith t first a × ComesWith t second b × (a.n ≡ b.n)
ComeWith t first second a b = ⊥

-- ---- the stages
module _ (seat : ℕ) (own seen : List Entry) (first : Place) (second : Option Place) where
  -- the seat pinned the places and then took so many rounds of a Next and a Publish
  pub record Asks (rounds : ℕ) : Type 0 where
    pub legal : IsLegal seen
    pub idles : Idles own (own_entries seat seen)
    pub pin : HasPinned (own_entries seat seen) first second
    pub count : length (own_entries seat seen) ≡ length own + (1 + 2 * rounds)
    pub published : published_count (own_entries seat seen) ≤ published_count own + rounds
    pub states : (t : State) → LeadsTo seen t → (pin : Pin) × HoldsPin t seat pin first second × HasRoom t seat own seen first second rounds

  -- in the next round it was given a task
  pub record AsksWith (rounds : ℕ) (task : Task) : Type 0 where
    pub legal : IsLegal seen
    pub idles : Idles own (own_entries seat seen)
    pub pin : HasPinned (own_entries seat seen) first second
    pub given : WasGiven (own_entries seat seen) task
    pub count : length (own_entries seat seen) ≡ length own + (2 + 2 * rounds)
    pub published : published_count (own_entries seat seen) ≤ published_count own + rounds
    pub wide : (1 ≤ task.n) × (task.n ≤ 64)
    pub can_fill : CanFill task.n task.work
    pub states : (t : State) → LeadsTo seen t
        → (pin : Pin) × HoldsPin t seat pin first second
        × ((given : State) × HoldsClaim t seat pin task given × KeepsPlaces given first second × HasRoom given seat own seen first second rounds)

  -- all is settled, and these are the records
  pub record AsksNoMore (rounds : ℕ) (a : Record) (b : Option Record) : Type 0 where
    pub legal : IsLegal seen
    pub idles : Idles own (own_entries seat seen)
    pub pin : HasPinned (own_entries seat seen) first second
    pub told : WasTold (own_entries seat seen) a b
    pub count : length (own_entries seat seen) ≡ length own + (2 + 2 * rounds)
    pub published : published_count (own_entries seat seen) ≤ published_count own + rounds
    pub states : (t : State) → LeadsTo seen t
        → (pin : Pin) × HoldsPin t seat pin first second × HasRoom t seat own seen first second rounds × ComeWith t first second a b

  -- memory was wanting, in a Next or a Publish or between turns, or room was at a Publish, with this total
  pub record GaveUp (crowded : Option ℕ) : Type 0 where
    pub legal : IsLegal seen
    pub idles : Idles own (own_entries seat seen)
    pub pin : HasPinned (own_entries seat seen) first second
    pub refused : (total : ℕ) → crowded ≡ Some total → WasRefused (own_entries seat seen) total
    pub states : (t : State) → LeadsTo seen t
        → (pin : Pin) × HoldsPin t seat pin first second × IsWithin seat own (own_entries seat seen) seen first second 1
        × ((total : ℕ) → crowded ≡ Some total → pin.refused ≡ Some total)
