-- Asking for a segment to compute.
use Rattle.std.specs.Prelude.{ℕ, suc, ◌≡◌, ◌<◌, ◌≤◌, Bool, true, false, cond, eqb, filter, map, count_by, List, [], ◌∷◌, ◌++◌, slice_set, Option, Some, None}
use Rattle.std.specs.List.{flat_map, AllByRecursion}
use Rattle.seg_tree.specs.Trees.{Tree, leaf, branch, name_of}
use Rattle.ps_script.specs.declared.name.Place.{Place}
use Rattle.ps_reach.specs.declared.record.Record.{Record}
use Rattle.ps_reach.specs.declared.task.Task.{Task as ATask}
use Rattle.ps_reach.specs.declared.task.Work.{Work}
use Rattle.ps_reach.specs.declared.task.Work.TheVariants.{Items, Children}
use Rattle.ps_journal.specs.declared.seats.Pin.{Pin}
use Rattle.ps_journal.specs.declared.seats.Claim.{Claim}
use Rattle.ps_journal.specs.declared.replies.Reply.{Reply}
use Rattle.ps_journal.specs.declared.replies.Reply.TheVariants.{Task, Settled, Idle, NoPin}
use Rattle.ps_journal.specs.State.{Item, Version, Circuit, Published, State, pin_of, unclaimed}
use Rattle.ps_journal.specs.Segments.{segments_of, published_for, is_settled, is_ready}
use Rattle.ps_journal.specs.Keeping.{pins_place, is_kept}
use Rattle.ps_journal.specs.Summing.{ComesToAt}

-- ---- all versions, by circuit and number
pub record Standing : Type 0 where
  pub place : Place
  pub qubits : ℕ
  pub version : Version

-- the versions of a circuit from a number on
abbrev pub standing_from : Circuit → ℕ → List Version → List Standing
standing_from c k [] = []
standing_from c k (v ∷ vs) = record { place = record { name = c.name; version = k }; qubits = c.qubits; version = v } ∷ standing_from c (suc k) vs

abbrev pub all_versions : List Circuit → List Standing
all_versions cs = flat_map (λ c. standing_from c 1 c.versions) cs

-- those that are kept, and those that a pin names
abbrev pub kept_versions : State → List Standing
kept_versions t = filter (λ s. is_kept t.pins s.place s.version) (all_versions t.circuits)

abbrev pub pinned_versions : State → Pin → List Standing
pinned_versions t pin = filter (λ s. pins_place s.place pin) (all_versions t.circuits)

-- ---- what can be computed
-- a ready segment of a version
pub record Candidate : Type 0 where
  pub of : Standing
  pub segment : Tree Item

module _ (published : List Published) where
  abbrev pub candidates_of : Standing → List Candidate
  candidates_of s = cond (is_settled published s.version.tree) [] (map (λ x. record { of = s; segment = x }) (filter (is_ready published) (segments_of s.version.tree)))

  -- the ready segments of the versions that are not settled, the two sides of a segment before it
  abbrev pub candidates : List Standing → List Candidate
  candidates ss = flat_map candidates_of ss

  abbrev pub AreSettled : List Standing → Type 0
  AreSettled ss = AllByRecursion (λ s. is_settled published s.version.tree ≡ true) ss

-- ---- the first one with the fewest claims
abbrev pub claims_node : Option ℕ → Option Claim → Bool
claims_node None c = false
claims_node (Some k) None = false
claims_node (Some k) (Some c) = eqb c.node k

-- how many claims name the segment, whatever their places
abbrev pub claim_count : List (Option Claim) → Tree Item → ℕ
claim_count claims s = count_by (claims_node (name_of s)) claims

pub record IsFirstOfFewest (claims : List (Option Claim)) (all : List Candidate) (x : Candidate) : Type 0 where
  pub before : List Candidate
  pub behind : List Candidate
  pub whole : all ≡ before ++ x ∷ behind
  pub fewer : AllByRecursion (λ y. claim_count claims x.segment < claim_count claims y.segment) before
  pub fewest : AllByRecursion (λ y. claim_count claims x.segment ≤ claim_count claims y.segment) behind

-- ---- the task
-- this record was published for the segment
abbrev pub IsPublishedFor : List Published → Tree Item → Record → Type 0
IsPublishedFor published s r = (p : Published) × (published_for published s ≡ Some p) × (p.kept ≡ r)

-- a leaf's items, or the records of the two sides
abbrev pub IsWorkOf : List Published → Tree Item → Work → Type 0
IsWorkOf published (leaf name items) (Items a) = a.value ≡ items
IsWorkOf published (branch name left right) (Children a b) = IsPublishedFor published left a.value × IsPublishedFor published right b.value
IsWorkOf published s w = ⊥

pub record IsTaskOf (t : State) (i seat : ℕ) (x : Candidate) (task : ATask) : Type 0 where
  pub seat_is : task.seat ≡ seat
  pub claim_is : task.claim ≡ i
  pub qubits : task.n ≡ x.of.qubits
  pub work : IsWorkOf t.published x.segment task.work

-- the seat has a claim on the segment of this name, by entry i
abbrev pub claimed : ℕ → ℕ → Place → ℕ → State → State
claimed i seat place node t = record t { claims = slice_set t.claims seat (Some (record { place = place; node = node; entry = i })) }

-- what is looked at: the kept versions, or those that the seat has pinned
pub data LooksAt (t : State) (seat : ℕ) : Bool → List Standing → Type 0 where
  all : LooksAt t seat false (kept_versions t)
  own : {pin : Pin} → pin_of t seat ≡ Some pin → LooksAt t seat true (pinned_versions t pin)

abbrev pub SecondComesTo : State → Option Place → Option Record → Type 0
SecondComesTo t None None = Unit {0}
SecondComesTo t (Some p) (Some b) = ComesToAt t p b
SecondComesTo t p b = ⊥

-- what entry i of the seat answers, and the state that it leaves; the old claim ends before anything is counted
pub data Nexts (t : State) (i seat : ℕ) : Bool → Reply → State → Type 0 where
  no_pin : pin_of t seat ≡ None → Nexts t i seat true NoPin (unclaimed seat t)
  idle : AreSettled t.published (kept_versions t) → Nexts t i seat false Idle (unclaimed seat t)
  settled : {pin : Pin} {a : Record} {b : Option Record} → pin_of t seat ≡ Some pin → AreSettled t.published (pinned_versions t pin)
      → ComesToAt t pin.first a → SecondComesTo t pin.second b → Nexts t i seat true (Settled a b) (unclaimed seat t)
  gives : {pinned : Bool} {ss : List Standing} {x : Candidate} {node : ℕ} {task : ATask} → LooksAt t seat pinned ss
      → IsFirstOfFewest (unclaimed seat t).claims (candidates t.published ss) x → name_of x.segment ≡ Some node → IsTaskOf t i seat x task
      → Nexts t i seat pinned (Task task) (claimed i seat x.of.place node t)
