use Rattle.qasm_expand.proofs.Aiming.{Passed}
use Rattle.qasm_expand.proofs.targets.repeated.Given as goal

abbrev pub invariant-loop-k : goal.invariant-loop-k
invariant-loop-k l = Passed l.seen l.targets l.args l.index l.k
