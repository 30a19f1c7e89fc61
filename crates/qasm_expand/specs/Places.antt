-- Where the faults of a text and of a block are.
use Rattle.std.specs.Prelude.{◌≡◌, ℕ, ◌≤◌, List, length}
use Rattle.qasm_expand.specs.declared.fault.FaultName.TheVariants.{NoQubits}
use Rattle.qasm_expand.specs.declared.fault.ReadFault.{ReadFault}
use Rattle.qasm_expand.specs.declared.fault.ReadFault.TheVariants.{Fault, Memory}

-- the fault is at a byte of the text or at its end, and it is not NoQubits
abbrev pub IsInside : List ℕ → ReadFault → Type 0
IsInside text (Fault NoQubits at) = ⊥
IsInside text (Fault name at) = at ≤ length text
IsInside text Memory = Unit {0}

-- the same of a whole text, where NoQubits is told at the end
abbrev pub IsPlaced : List ℕ → ReadFault → Type 0
IsPlaced text (Fault NoQubits at) = at ≡ length text
IsPlaced text (Fault name at) = at ≤ length text
IsPlaced text Memory = Unit {0}
