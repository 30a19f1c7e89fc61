use Rattle.std.proofs.Common.{take}
use Rattle.ps_local.specs.Qubits.{IsMask}
use Rattle.ps_local.proofs.qubits.qubits_of.Given as goal

abbrev pub invariant-loop-prim : goal.invariant-loop-prim
invariant-loop-prim l = IsMask l.mask (take l.prim-index l.prim-items)
