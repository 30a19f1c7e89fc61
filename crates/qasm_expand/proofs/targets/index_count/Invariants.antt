use Rattle.std.proofs.Common.{◌≡◌, drop}
use Rattle.qasm_expand.specs.Targets.{index_count}
use Rattle.qasm_expand.proofs.targets.index_count.Given as goal

abbrev pub invariant-loop-target : goal.invariant-loop-target
invariant-loop-target l = index_count l.targets ≡ index_count (drop l.target-index l.targets)
