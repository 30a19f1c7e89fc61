-- What a whole text is, and what a block is behind a text.
use Rattle.std.specs.Prelude.{ℕ, nat_eq, None, List, [], length, Result, Ok, Err, if◌then◌else◌}
use Rattle.ps_prim.specs.declared.prims.Primitive.{Primitive as Prim}
use Rattle.qasm_parse.specs.declared.program.Statement.{Statement}
use Rattle.qasm_expand.specs.declared.defs.Def.{Def}
use Rattle.qasm_expand.specs.declared.state.State.{State}
use Rattle.qasm_expand.specs.declared.fault.FaultName.TheVariants.{NoQubits}
use Rattle.qasm_expand.specs.declared.fault.ReadFault.{ReadFault}
use Rattle.qasm_expand.specs.declared.fault.ReadFault.TheVariants.{Fault}
use Rattle.qasm_expand.specs.Tables.{Register, Bound, qubit_count}
use Rattle.qasm_expand.specs.Library.{TextIs, BlockIs}
use Rattle.qasm_expand.specs.States.{in_block}
use Rattle.qasm_expand.specs.Statements.{Expands}

-- the registers, gates and bound names at the end of a text
pub record TableOf : Type 0 where
  pub registers : List Register
  pub defs : List Def
  pub bound : List Bound

-- a circuit: its number of qubits, its table and its items, each a list of prims
pub record CircuitOf : Type 0 where
  pub qubits : ℕ
  pub table : TableOf
  pub items : List (List Prim)

-- nothing is declared, and no gate is known
abbrev pub nothing_yet : State
nothing_yet = record { registers = []; defs = []; bound = []; library = None; items = [] }

abbrev pub table_of : State → TableOf
table_of st = record { registers = st.registers; defs = st.defs; bound = st.bound }

abbrev pub circuit_of : State → CircuitOf
circuit_of st = record { qubits = qubit_count st.registers; table = table_of st; items = st.items }

-- at the end of a text there has to be a qubit
abbrev pub closed : List ℕ → Result State ReadFault → Result CircuitOf ReadFault
closed text (Ok st) = if nat_eq (qubit_count st.registers) 0 then Err (Fault NoQubits (length text)) else Ok (circuit_of st)
closed text (Err f) = Err f

-- what a text is: a circuit, or its first fault; all faults of tokens and of the grammar come before those of expansion
pub data ReadsText (text : List ℕ) : Result CircuitOf ReadFault → Type 0 where
  misread : {f : ReadFault} → TextIs text (Err f) → ReadsText text (Err f)
  expanded : {ss : List Statement} {r : Result State ReadFault} → TextIs text (Ok ss) → Expands text nothing_yet ss r → ReadsText text (closed text r)

-- what is known of a table at the beginning of a block
abbrev pub behind_text : TableOf → State
behind_text t = in_block t.registers t.defs t.bound []

abbrev pub items_of : Result State ReadFault → Result (List (List Prim)) ReadFault
items_of (Ok st) = Ok st.items
items_of (Err f) = Err f

-- what a block is: its items, or its first fault
pub data ReadsBlock (table : TableOf) (block : List ℕ) : Result (List (List Prim)) ReadFault → Type 0 where
  misread_block : {f : ReadFault} → BlockIs block (Err f) → ReadsBlock table block (Err f)
  expanded_block : {ss : List Statement} {r : Result State ReadFault} → BlockIs block (Ok ss) → Expands block (behind_text table) ss r → ReadsBlock table block (items_of r)
