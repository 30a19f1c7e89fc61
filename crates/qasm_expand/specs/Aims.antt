-- Words for the steps of aiming at targets.
use Rattle.std.specs.Prelude.{ℕ, ◌+◌, ◌<◌, ◌≤◌, Bool, true, not, nat_eq, Option, Some, None, List, [], Result}
use Rattle.qasm_expand.specs.declared.target.Target.{Target}
use Rattle.qasm_expand.specs.declared.target.Target.TheVariants.{Single, Whole}
use Rattle.qasm_parse.specs.declared.program.Arg.{Arg}
use Rattle.qasm_expand.specs.declared.registers.Extent.{Extent}
use Rattle.qasm_expand.specs.declared.fault.FaultName.TheVariants.{Unknown}
use Rattle.qasm_expand.specs.declared.fault.ReadFault.{ReadFault}
use Rattle.qasm_expand.specs.Tables.{Register}
use Rattle.qasm_expand.specs.Checks.{refuse}
use Rattle.qasm_expand.specs.Targets.{indexed}

-- the argument of a register with these places
abbrev pub nameless : Extent → Register
nameless e = record { name = []; quantum = e.quantum; first = e.first; size = e.size }

abbrev pub of_extent : Extent → List ℕ → Arg → Result Target ReadFault
of_extent e bytes a = refuse (not e.quantum) Unknown a.name (indexed (nameless e) bytes a.name a.index)

-- the target has the size of the registers before it, if it has one
abbrev pub agrees : Option ℕ → Target → Bool
agrees size (Single q) = true
agrees None (Whole q n) = true
agrees (Some m) (Whole q n) = nat_eq m n

-- the size of the registers up to the target
abbrev pub size_after : Option ℕ → Target → Option ℕ
size_after size (Single q) = size
size_after None (Whole q n) = Some n
size_after (Some m) (Whole q n) = Some m

-- the qubit, or all qubits of the register, are below n
abbrev pub Fits : ℕ → Target → Type 0
Fits n (Single q) = q < n
Fits n (Whole q size) = q + size ≤ n

-- so is the qubit at this index, and the register has a place of this number
abbrev pub Within : ℕ → ℕ → Target → Type 0
Within n i (Single q) = q < n
Within n i (Whole q size) = (i < size) × (q + size ≤ n)
