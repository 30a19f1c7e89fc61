use Rattle.std.proofs.Common.{◌-◌, ◌≤◌, length}
use Rattle.ps_local.specs.Wires.{IsClear}
use Rattle.ps_local.proofs.wires.Wires.next_on.Given as goal

abbrev pub invariant-loop-place : goal.invariant-loop-place
invariant-loop-place l = (l.place ≤ length l.self.qubits.items) × IsClear l.self.qubits.items l.self.out.items l.qubit l.place

abbrev pub decreases-loop-place : goal.decreases-loop-place
decreases-loop-place l = length l.self.qubits.items - l.place
