-- Opening a circuit.
use Rattle.std.specs.Prelude.{ℕ, ◌+◌, ◌≡◌, ◌<◌, ◌≤◌, List, [], ◌∷◌, ◌++◌, length, Ok, Err, Some, None}
use Rattle.seg_tree.specs.Trees.{build}
use Rattle.qasm_expand.specs.declared.fault.FaultName.{FaultName}
use Rattle.qasm_expand.specs.declared.fault.ReadFault.TheVariants.{Fault}
use Rattle.qasm_expand.specs.Circuits.{CircuitOf, ReadsText}
use Rattle.ps_journal.specs.declared.replies.Reply.{Reply}
use Rattle.ps_journal.specs.declared.replies.Reply.TheVariants.{Opened, NameTaken, CircuitsFull, Bad}
use Rattle.ps_journal.specs.Faults.{IsToldAt}
use Rattle.ps_journal.specs.State.{Version, Circuit, State, circuit_at}
use Rattle.ps_journal.specs.Segments.{with_names, new_names, missing}

-- the first version of what was read
abbrev pub first_version : ℕ → CircuitOf → Version
first_version names c = record { items = c.items; tree = with_names names (build c.items); retired = None; ended = None }

abbrev pub new_circuit : ℕ → ℕ → List ℕ → CircuitOf → Circuit
new_circuit names i name c = record { name = name; opened = i; qubits = c.qubits; table = c.table; versions = first_version names c ∷ [] }

-- one circuit more, opened by entry i
abbrev pub opened : ℕ → List ℕ → CircuitOf → State → State
opened i name c t = record t { circuits = t.circuits ++ new_circuit t.names i name c ∷ []; names = t.names + new_names (build c.items) }

-- what entry i answers, and the state that it leaves
pub data Opens (t : State) (i : ℕ) (name text : List ℕ) : Reply → State → Type 0 where
  name_taken : {c : Circuit} → circuit_at t.circuits name ≡ Some c → Opens t i name text (NameTaken c.opened) t
  circuits_full : circuit_at t.circuits name ≡ None → 256 ≤ length t.circuits → Opens t i name text CircuitsFull t
  bad : {fault : FaultName} {at line column : ℕ} → circuit_at t.circuits name ≡ None → length t.circuits < 256
      → ReadsText text (Err (Fault fault at)) → IsToldAt text at line column → Opens t i name text (Bad fault line column) t
  opens : {c : CircuitOf} → circuit_at t.circuits name ≡ None → length t.circuits < 256
      → ReadsText text (Ok c) → Opens t i name text (Opened (missing t.published (first_version t.names c).tree)) (opened i name c t)
