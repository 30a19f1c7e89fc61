use Rattle.std.proofs.Common.{◌≡◌}
use Rattle.ps_local.proofs.Looking.{FirstSoFar}
use Rattle.ps_local.proofs.wires.Wires.first_of.Given as goal

abbrev pub invariant-loop-qubit : goal.invariant-loop-qubit
invariant-loop-qubit l = (l.self.qubits.items ≡ l.fn.self.qubits.items) × (l.self.out.items ≡ l.fn.self.out.items) × FirstSoFar l.fn.self.qubits.items l.fn.self.out.items l.mask l.first l.qubit
