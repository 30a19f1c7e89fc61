use Rattle.std.proofs.Common.{◌↔◌, drop}
use Rattle.ps_cliff.specs.Circuits.{IsClifford}
use Rattle.ps_cliff.proofs.circuits.clifford.Given as goal

abbrev pub invariant-loop-item : goal.invariant-loop-item
invariant-loop-item l = IsClifford l.fn.items ↔ IsClifford (drop l.item-index l.fn.items)
