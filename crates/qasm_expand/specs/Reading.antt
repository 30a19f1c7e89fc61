-- What was answered of a text and of a block, want of memory aside.
use Rattle.std.specs.Prelude.{List, Result, Ok, Err}
use Rattle.ps_prim.specs.declared.prims.Primitive.{Primitive as Prim}
use Rattle.qasm_expand.specs.declared.fault.ReadFault.{ReadFault}
use Rattle.qasm_expand.specs.declared.fault.ReadFault.TheVariants.{Fault, Memory}
use Rattle.qasm_expand.specs.declared.tables.Table.{Table}
use Rattle.qasm_expand.specs.declared.tables.Circuit.{Circuit}
use Rattle.qasm_expand.specs.Circuits.{TableOf, CircuitOf}

-- a table, and a circuit, as plain lists
abbrev pub table_in : Table → TableOf
table_in t = record { registers = t.registers; defs = t.defs; bound = t.bound }

abbrev pub circuit_in : Circuit → CircuitOf
circuit_in c = record { qubits = c.qubits; table = table_in c.table.value; items = c.items }

abbrev pub CircuitTold : Result Circuit ReadFault → (Result CircuitOf ReadFault → Type 0) → Type 0
CircuitTold (Ok c) P = P (Ok (circuit_in c))
CircuitTold (Err (Fault name at)) P = P (Err (Fault name at))
CircuitTold (Err Memory) P = Unit {0}

abbrev pub ItemsTold : Result (List (List Prim)) ReadFault → (Result (List (List Prim)) ReadFault → Type 0) → Type 0
ItemsTold (Ok is) P = P (Ok is)
ItemsTold (Err (Fault name at)) P = P (Err (Fault name at))
ItemsTold (Err Memory) P = Unit {0}
