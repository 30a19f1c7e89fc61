-- Prims of gates that were applied already.
use Rattle.std.specs.Prelude.{◌≤◌, Option, Some, None, List, [], Ok, All, length}
use Rattle.ps_prim.specs.declared.prims.Primitive.{Primitive as Prim}
use Rattle.ps_prim.specs.Maps.{AllWithin}
use Rattle.qasm_angle.specs.declared.types.Op.{Op}
use Rattle.qasm_expand.specs.declared.defs.Called.{Called}
use Rattle.qasm_expand.specs.declared.defs.Def.{Def}
use Rattle.qasm_expand.specs.declared.ready.Expansion.{Expansion}
use Rattle.qasm_expand.specs.Tables.{args_of}
use Rattle.qasm_expand.specs.Bodies.{Comes, call}

-- with these gates, the gate with these expressions comes to these prims
pub record IsExpansion (defs : List Def) (gate : Called) (es : List (List Op)) (gs : List Prim) : Type 0 where
  pub comes : Comes defs [] (call gate es) (Ok gs)
  pub few : length gs ≤ 4096
  pub within : AllWithin (args_of defs gate) gs

-- a slot that is not empty has the prims of its gate, without expressions
abbrev pub IsSlot : List Def → Option Expansion → Type 0
IsSlot defs None = Unit {0}
IsSlot defs (Some e) = IsExpansion defs e.gate [] e.prims.items

abbrev pub AreExpansions : List Def → List (Option Expansion) → Type 0
AreExpansions defs slots = All (IsSlot defs) slots
