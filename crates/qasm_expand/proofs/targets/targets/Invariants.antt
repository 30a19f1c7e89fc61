use Rattle.std.proofs.Common.{◌≡◌, drop}
use Rattle.qasm_expand.specs.Targets.{targets_of}
use Rattle.qasm_expand.proofs.Aiming.{ahead}
use Rattle.qasm_expand.proofs.targets.targets.Given as goal

abbrev pub invariant-loop-arg : goal.invariant-loop-arg
invariant-loop-arg l = targets_of l.bytes l.registers l.args ≡ ahead l.out.items (targets_of l.bytes l.registers (drop l.arg-index l.args))
