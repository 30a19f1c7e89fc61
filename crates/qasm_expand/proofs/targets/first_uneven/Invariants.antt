use Rattle.std.proofs.Common.{◌≡◌, drop, None}
use Rattle.qasm_expand.specs.Gates.{arg_names}
use Rattle.qasm_expand.specs.Targets.{first_uneven}
use Rattle.qasm_expand.proofs.targets.first_uneven.Given as goal

abbrev pub invariant-loop-k : goal.invariant-loop-k
invariant-loop-k l = first_uneven None l.targets (arg_names l.args) ≡ first_uneven l.size (drop l.k l.targets) (arg_names (drop l.k l.args))
