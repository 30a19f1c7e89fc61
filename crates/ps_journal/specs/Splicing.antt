-- Making the next version of a circuit.
use Rattle.std.specs.Prelude.{ℕ, ◌+◌, ◌-◌, ◌≡◌, ◌≢◌, ◌<◌, ◌≤◌, ◌⊎◌, List, [], ◌∷◌, ◌++◌, length, take, drop, Ok, Err, Some, None}
use Rattle.seg_tree.specs.Trees.{splice}
use Rattle.qasm_expand.specs.declared.fault.FaultName.{FaultName}
use Rattle.qasm_expand.specs.declared.fault.ReadFault.TheVariants.{Fault}
use Rattle.qasm_expand.specs.Circuits.{ReadsBlock}
use Rattle.ps_journal.specs.declared.replies.Reply.{Reply}
use Rattle.ps_journal.specs.declared.replies.Reply.TheVariants.{Committed, NoCircuit, Stale, Span, Bad, TooLong, Nothing}
use Rattle.ps_journal.specs.Faults.{IsToldAt}
use Rattle.ps_journal.specs.State.{Item, Version, Circuit, State, circuit_at, latest_of, version_at, with_circuit, with_next}
use Rattle.ps_journal.specs.Segments.{with_names, new_names, missing}

-- the items from one place up to another replaced
abbrev pub replaced : List Item → ℕ → ℕ → List Item → List Item
replaced old from to items = take from old ++ items ++ drop to old

-- the version behind v
abbrev pub next_version : ℕ → Version → ℕ → ℕ → List Item → Version
next_version names v from to items = record { items = replaced v.items from to items; tree = with_names names (splice v.tree from to items); retired = None; ended = None }

-- the circuit has one version more
abbrev pub committed : List ℕ → Version → ℕ → ℕ → List Item → State → State
committed name v from to items t = record t {
  circuits = with_circuit (with_next (next_version t.names v from to items)) name t.circuits;
  names = t.names + new_names (splice v.tree from to items);
}

-- the circuit, and its latest version, which is the base; the range is in it
pub record Replaces (t : State) (name : List ℕ) (base from to : ℕ) (c : Circuit) (v : Version) : Type 0 where
  pub circuit : circuit_at t.circuits name ≡ Some c
  pub latest : version_at c (latest_of c) ≡ Some v
  pub current : base ≡ latest_of c
  pub ordered : from ≤ to
  pub inside : to ≤ length v.items

-- what is answered, and the state that is left
pub data Splices (t : State) (name : List ℕ) (base from to : ℕ) (block : List ℕ) : Reply → State → Type 0 where
  no_circuit : circuit_at t.circuits name ≡ None → Splices t name base from to block NoCircuit t
  stale : {c : Circuit} → circuit_at t.circuits name ≡ Some c → base ≢ latest_of c → Splices t name base from to block (Stale (latest_of c)) t
  span : {c : Circuit} {v : Version} → circuit_at t.circuits name ≡ Some c → base ≡ latest_of c → version_at c (latest_of c) ≡ Some v
      → (to < from) ⊎ (length v.items < to) → Splices t name base from to block (Span (length v.items)) t
  bad : {c : Circuit} {v : Version} {fault : FaultName} {at line column : ℕ} → Replaces t name base from to c v
      → ReadsBlock c.table block (Err (Fault fault at)) → IsToldAt block at line column → Splices t name base from to block (Bad fault line column) t
  too_long : {c : Circuit} {v : Version} {items : List Item} → Replaces t name base from to c v → ReadsBlock c.table block (Ok items)
      → 65536 < length (replaced v.items from to items) → Splices t name base from to block (TooLong (length (replaced v.items from to items))) t
  nothing : {c : Circuit} {v : Version} {items : List Item} → Replaces t name base from to c v → ReadsBlock c.table block (Ok items)
      → length (replaced v.items from to items) ≤ 65536 → (from ≡ to) × (items ≡ []) → Splices t name base from to block Nothing t
  commits : {c : Circuit} {v : Version} {items : List Item} → Replaces t name base from to c v → ReadsBlock c.table block (Ok items)
      → length (replaced v.items from to items) ≤ 65536 → (from < to) ⊎ (0 < length items)
      → Splices t name base from to block (Committed (latest_of c + 1) (missing t.published (next_version t.names v from to items).tree)) (committed name v from to items t)
