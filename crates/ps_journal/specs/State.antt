-- The state of the service: circuits and their versions, what was published, pins, claims, kept terms, and names of segments.
use Rattle.std.specs.Prelude.{ℕ, zero, suc, ◌+◌, ◌≡◌, cond, bytes_eq, List, [], ◌∷◌, ◌++◌, length, replicate, slice_get, slice_index_or, slice_set, Option, Some, None}
use Rattle.seg_tree.specs.Trees.{Tree}
use Rattle.ps_prim.specs.declared.prims.Primitive.{Primitive as Prim}
use Rattle.qasm_expand.specs.Circuits.{TableOf}
use Rattle.ps_script.specs.declared.name.Place.{Place}
use Rattle.ps_reach.specs.declared.record.Record.{Record}
use Rattle.ps_journal.specs.declared.seats.Pin.{Pin}
use Rattle.ps_journal.specs.declared.seats.Claim.{Claim}

-- an item of a circuit is its gates, in order
abbrev pub Item : Type 0
Item = List Prim

-- A version of a circuit. Its items carry the meaning; its tree, of the same items, only says which segments there are.
-- It is live or retired by an entry, and `ended` is the entry by which it stopped being kept.
pub record Version : Type 0 where
  pub items : List Item
  pub tree : Option (Tree Item)
  pub retired : Option ℕ
  pub ended : Option ℕ

-- A circuit, the entry that opened it, its gate table, and its versions, which are numbered from 1.
pub record Circuit : Type 0 where
  pub name : List ℕ
  pub opened : ℕ
  pub qubits : ℕ
  pub table : TableOf
  pub versions : List Version

-- what an entry published for the segment of a name
pub record Published : Type 0 where
  pub segment : ℕ
  pub entry : ℕ
  pub kept : Record

-- Circuits stand in order of opening, what was published with the newest first, pins and claims by seat.
-- `terms` is the number of kept terms, and `names` that of the names that were given to segments.
pub record State : Type 0 where
  pub circuits : List Circuit
  pub published : List Published
  pub pins : List (Option Pin)
  pub claims : List (Option Claim)
  pub terms : ℕ
  pub names : ℕ

abbrev pub empty : State
empty = record { circuits = []; published = []; pins = replicate 64 None; claims = replicate 64 None; terms = 0; names = 0 }

-- ---- what is looked up
-- the circuit of a name
abbrev pub circuit_at : List Circuit → List ℕ → Option Circuit
circuit_at [] name = None
circuit_at (c ∷ cs) name = cond (bytes_eq name c.name) (Some c) (circuit_at cs name)

-- the number of the latest version
abbrev pub latest_of : Circuit → ℕ
latest_of c = length c.versions

abbrev pub version_at : Circuit → ℕ → Option Version
version_at c zero = None
version_at c (suc k) = slice_get c.versions k

-- the version at a place, with its circuit
pub record Finds (t : State) (p : Place) (c : Circuit) (v : Version) : Type 0 where
  pub circuit : circuit_at t.circuits p.name ≡ Some c
  pub version : version_at c p.version ≡ Some v

-- it is there and live
pub record FindsLive (t : State) (p : Place) (c : Circuit) (v : Version) : Type 0 where
  pub found : Finds t p c v
  pub live : v.retired ≡ None

abbrev pub pin_of : State → ℕ → Option Pin
pin_of t seat = slice_index_or t.pins seat None

abbrev pub claim_of : State → ℕ → Option Claim
claim_of t seat = slice_index_or t.claims seat None

-- ---- what is changed
-- the circuit of a name changed
abbrev pub with_circuit : (Circuit → Circuit) → List ℕ → List Circuit → List Circuit
with_circuit f name [] = []
with_circuit f name (c ∷ cs) = cond (bytes_eq name c.name) (f c ∷ cs) (c ∷ with_circuit f name cs)

-- the version of a number changed
abbrev pub with_version : (Version → Version) → ℕ → List Version → List Version
with_version f zero vs = vs
with_version f (suc k) [] = []
with_version f (suc zero) (v ∷ vs) = f v ∷ vs
with_version f (suc (suc k)) (v ∷ vs) = v ∷ with_version f (suc k) vs

-- one version more
abbrev pub with_next : Version → Circuit → Circuit
with_next v c = record c { versions = c.versions ++ v ∷ [] }

-- the seat has pinned nothing, and has no claim
abbrev pub released : ℕ → State → State
released seat t = record t { pins = slice_set t.pins seat None }

abbrev pub unclaimed : ℕ → State → State
unclaimed seat t = record t { claims = slice_set t.claims seat None }

-- so many terms more are kept
abbrev pub with_terms : ℕ → State → State
with_terms n t = record t { terms = t.terms + n }

-- the most terms that are kept
abbrev pub most_terms : ℕ
most_terms = 8388608
