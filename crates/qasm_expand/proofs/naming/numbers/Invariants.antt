use Rattle.std.proofs.Common.{◌≡◌, drop}
use Rattle.qasm_expand.specs.declared.fault.FaultName.TheVariants.{NoParameter}
use Rattle.qasm_expand.specs.Gates.{numbers}
use Rattle.qasm_expand.specs.Names.{put_before}
use Rattle.qasm_expand.proofs.Stepping.{each, place_at}
use Rattle.qasm_expand.proofs.naming.numbers.Given as goal

abbrev pub invariant-loop-i : goal.invariant-loop-i
invariant-loop-i l = numbers l.bytes l.formals l.ids ≡ put_before l.list.items (each (place_at l.bytes l.formals NoParameter) (drop l.i l.ids))
