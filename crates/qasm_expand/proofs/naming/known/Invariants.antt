use Rattle.std.proofs.Common.{◌≡◌, drop}
use Rattle.qasm_expand.specs.declared.fault.FaultName.TheVariants.{Unknown}
use Rattle.qasm_expand.specs.Gates.{places}
use Rattle.qasm_expand.specs.Names.{checked}
use Rattle.qasm_expand.proofs.Stepping.{each, place_at}
use Rattle.qasm_expand.proofs.naming.known.Given as goal

abbrev pub invariant-loop-i : goal.invariant-loop-i
invariant-loop-i l = checked (places l.bytes l.formals l.spans) ≡ checked (each (place_at l.bytes l.formals Unknown) (drop l.i l.spans))
