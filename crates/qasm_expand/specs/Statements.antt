-- Statements, one after the other.
use Rattle.std.specs.Prelude.{ℕ, ◌+◌, Bool, true, false, ◌||◌, ◌&&◌, nat_eq, nat_lt, is_some, List, [], ◌∷◌, ◌++◌, length, Result, Ok, Err, if◌then◌else◌}
use Rattle.ps_prim.specs.declared.prims.Primitive.{Primitive as Prim}
use Rattle.qasm_parse.specs.declared.program.Span.{Span}
use Rattle.qasm_parse.specs.declared.program.Arg.{Arg}
use Rattle.qasm_parse.specs.declared.program.Call.{Call}
use Rattle.qasm_parse.specs.declared.program.Inner.{Inner as Stated}
use Rattle.qasm_parse.specs.declared.program.Statement.{Statement}
use Rattle.qasm_parse.specs.declared.program.Statement.TheVariants.{Include, Qreg, Creg, Gate, Apply, Barrier}
use Rattle.qasm_expand.specs.declared.state.State.{State}
use Rattle.qasm_expand.specs.declared.fault.FaultName.TheVariants.{Redeclared, Range, TooMany}
use Rattle.qasm_expand.specs.declared.fault.ReadFault.{ReadFault}
use Rattle.qasm_expand.specs.Tables.{Register, register_of, qubit_count}
use Rattle.qasm_expand.specs.Checks.{spelled, number_at, refuse}
use Rattle.qasm_expand.specs.Library.{Includes, defining}
use Rattle.qasm_expand.specs.declared.target.Target.{Target}
use Rattle.qasm_expand.specs.Targets.{targets_of, Applies}

-- ---- declarations
abbrev pub with_register : State → Register → State
with_register st r = record { registers = st.registers ++ r ∷ []; defs = st.defs; bound = st.bound; library = st.library; items = st.items }

-- a size is from 1 to 4,294,967,295
abbrev pub bad_size : ℕ → Bool
bad_size n = nat_eq n 0 || nat_lt 4294967295 n

-- in order: the name is new, the size is one, and the qubits are at most 64 in all
abbrev pub declared_as : Bool → List ℕ → State → Span → Span → Result State ReadFault
declared_as quantum bytes st name size =
    refuse (is_some (register_of st.registers (spelled bytes name))) Redeclared name (
    refuse (bad_size (number_at bytes size)) Range size (
    refuse (quantum && nat_lt 64 (qubit_count st.registers + number_at bytes size)) TooMany size (
    Ok (with_register st (record { name = spelled bytes name; quantum = quantum; first = if quantum then qubit_count st.registers else 0; size = number_at bytes size })))))

-- ---- statements
abbrev pub with_items : State → List (List Prim) → State
with_items st is = record { registers = st.registers; defs = st.defs; bound = st.bound; library = st.library; items = st.items ++ is }

abbrev pub behind : State → Result (List (List Prim)) ReadFault → Result State ReadFault
behind st (Ok is) = Ok (with_items st is)
behind st (Err f) = Err f

-- a barrier does nothing, but its arguments have to be there
abbrev pub past : State → Result (List Target) ReadFault → Result State ReadFault
past st (Ok ts) = Ok st
past st (Err f) = Err f

-- what a statement makes of what is known before it, or its first fault
pub data Takes (bytes : List ℕ) (st : State) : Statement → Result State ReadFault → Type 0 where
  include : {p : Span} {st' : State} → Includes st st' → Takes bytes st (Include p) (Ok st')
  quantum : {name size : Span} → Takes bytes st (Qreg name size) (declared_as true bytes st name size)
  classical : {name size : Span} → Takes bytes st (Creg name size) (declared_as false bytes st name size)
  gate : {name : Span} {params args : List Span} {body : List Stated} → Takes bytes st (Gate name params args body) (defining bytes st name params args body)
  apply : {c : Call} {r : Result (List (List Prim)) ReadFault} → Applies bytes st.registers st.defs st.bound (length st.items) c r → Takes bytes st (Apply c) (behind st r)
  barrier : {args : List Arg} → Takes bytes st (Barrier args) (past st (targets_of bytes st.registers args))

-- statements in order, up to the first fault
pub data Expands (bytes : List ℕ) : State → List Statement → Result State ReadFault → Type 0 where
  ended : {st : State} → Expands bytes st [] (Ok st)
  taken : {st st' : State} {s : Statement} {ss : List Statement} {r : Result State ReadFault} → Takes bytes st s (Ok st') → Expands bytes st' ss r → Expands bytes st (s ∷ ss) r
  faulty : {st : State} {s : Statement} {ss : List Statement} {f : ReadFault} → Takes bytes st s (Err f) → Expands bytes st (s ∷ ss) (Err f)
