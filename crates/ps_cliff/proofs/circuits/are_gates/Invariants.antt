use Rattle.std.proofs.Common.{◌↔◌, drop}
use Rattle.ps_cliff.specs.Circuits.{AreClifford}
use Rattle.ps_cliff.proofs.circuits.are_gates.Given as goal

abbrev pub invariant-loop-gate : goal.invariant-loop-gate
invariant-loop-gate l = AreClifford l.fn.gates ↔ AreClifford (drop l.gate-index l.fn.gates)
