use Rattle.std.proofs.Common.{◌≡◌, drop}
use Rattle.qasm_expand.specs.Gates.{places, arg_names}
use Rattle.qasm_expand.specs.Names.{put_before}
use Rattle.qasm_expand.proofs.Stepping.{each, arg_at}
use Rattle.qasm_expand.proofs.naming.places.Given as goal

abbrev pub invariant-loop-i : goal.invariant-loop-i
invariant-loop-i l = places l.bytes l.formals (arg_names l.args) ≡ put_before l.list.items (each (arg_at l.bytes l.formals) (drop l.i l.args))
