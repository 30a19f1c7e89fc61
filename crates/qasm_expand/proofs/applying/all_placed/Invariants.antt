use Rattle.std.proofs.Common.{◌≡◌, take}
use Rattle.qasm_expand.specs.Bodies.{all_on}
use Rattle.qasm_expand.specs.Targets.{qubits_at}
use Rattle.qasm_expand.proofs.applying.all_placed.Given as goal

abbrev pub invariant-loop-prim : goal.invariant-loop-prim
invariant-loop-prim l = l.out.items ≡ all_on (qubits_at l.targets l.index) (take l.prim-index l.prims)
