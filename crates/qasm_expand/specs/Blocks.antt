-- Blocks: words for the contracts inside the crate.
use Rattle.std.specs.Prelude.{List}
use Rattle.ps_prim.specs.declared.prims.Primitive.{Primitive as Prim}
use Rattle.qasm_parse.specs.declared.program.Statement.{Statement}
use Rattle.qasm_parse.specs.declared.program.Statement.TheVariants.{Apply, Barrier}
use Rattle.qasm_expand.specs.declared.state.State.{State}
use Rattle.qasm_expand.specs.declared.tables.Table.{Table}
use Rattle.qasm_expand.specs.States.{in_block}

-- an application or a barrier
abbrev pub IsPlain : Statement → Type 0
IsPlain (Apply c) = Unit {0}
IsPlain (Barrier args) = Unit {0}
IsPlain s = ⊥

-- what is known behind the text of a table, with the items so far
abbrev pub known_with : Table → List (List Prim) → State
known_with t items = in_block t.registers t.defs t.bound items
