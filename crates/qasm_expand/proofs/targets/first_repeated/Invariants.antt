use Rattle.std.proofs.Common.{◌≡◌, ◌-◌}
use Rattle.qasm_expand.specs.Gates.{arg_names}
use Rattle.qasm_expand.specs.Targets.{repeat_from}
use Rattle.qasm_expand.proofs.targets.first_repeated.Given as goal

abbrev pub invariant-loop-index : goal.invariant-loop-index
invariant-loop-index l = repeat_from l.targets (arg_names l.args) 0 l.count ≡ repeat_from l.targets (arg_names l.args) l.index (l.count - l.index)
