use Rattle.std.proofs.Common.{◌≡◌, ◌++◌}
use Rattle.qasm_expand.specs.Targets.{items_from}
use Rattle.qasm_expand.proofs.applying.add.Given as goal

abbrev pub invariant-loop-index : goal.invariant-loop-index
invariant-loop-index l = l.items ≡ l.initial.items ++ items_from l.prims l.targets 0 l.index
