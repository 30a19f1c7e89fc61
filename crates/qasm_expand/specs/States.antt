-- What holds of all that is known while the statements of a text are taken, and what a step makes of it.
use Rattle.std.specs.Prelude.{ℕ, ◌≡◌, ◌≤◌, true, None, List, [], ◌∷◌, length, Result, Ok, Err}
use Rattle.ps_prim.specs.declared.prims.Primitive.{Primitive as Prim}
use Rattle.std.specs.Coded.{×_prop, Unit-prop}
use Rattle.ps_prim.specs.Maps.{AllWithin}
use Rattle.ps_prim.specs.Items.{AllWithin-prop}
use Rattle.qasm_expand.specs.declared.defs.Def.{Def}
use Rattle.qasm_expand.specs.declared.state.State.{State}
use Rattle.qasm_expand.specs.declared.fault.ReadFault.{ReadFault}
use Rattle.qasm_expand.specs.declared.fault.ReadFault.TheVariants.{Fault, Memory}
use Rattle.qasm_expand.specs.Tables.{Register, Bound, qubit_count, defs_sound, bound_sound, registers_sound}

-- each item is on qubits below n
abbrev pub ItemsWithin : ℕ → List (List Prim) → Type 0
ItemsWithin n [] = Unit {0}
ItemsWithin n (i ∷ is) = AllWithin n i × ItemsWithin n is

pub record IsSound (st : State) : Type 0 where
  pub gates : defs_sound st.defs ≡ true
  pub names : bound_sound (length st.defs) st.bound ≡ true
  pub qubits : registers_sound st.registers ≡ true
  pub within : ItemsWithin (qubit_count st.registers) st.items
  pub few : length st.items ≤ 65536

-- what is known in a block: the registers, gates and bound names of a table, and the items so far
abbrev pub in_block : List Register → List Def → List Bound → List (List Prim) → State
in_block registers defs bound items = record { registers = registers; defs = defs; bound = bound; library = None; items = items }

-- what is known has become this, or the step had this fault; want of memory aside
abbrev pub Became : {A B : Type 0} → Result A ReadFault → B → (Result B ReadFault → Type 0) → Type 0
Became (Ok u) new P = P (Ok new)
Became (Err (Fault name at)) new P = P (Err (Fault name at))
Became (Err Memory) new P = Unit {0}

-- a value of which this holds, and no fault
abbrev pub Succeeds : {B : Type 0} → (B → Type 0) → Result B ReadFault → Type 0
Succeeds P (Ok b) = P b
Succeeds P (Err f) = ⊥

pub ItemsWithin-prop : (n : ℕ) (is : List (List Prim)) → IsProp (ItemsWithin n is)
ItemsWithin-prop n [] = Unit-prop
ItemsWithin-prop n (i ∷ is) = ×_prop (AllWithin-prop n i) (ItemsWithin-prop n is)
