use Rattle.std.proofs.Common.{◌≡◌, take}
use Rattle.qasm_expand.specs.Bodies.{all_on}
use Rattle.qasm_expand.specs.Targets.{qubits_at}
use Rattle.qasm_expand.proofs.shared.is_placed.Given as goal

abbrev pub invariant-loop-place : goal.invariant-loop-place
invariant-loop-place l = take l.place l.made ≡ all_on (qubits_at l.targets l.index) (take l.place l.prims)
