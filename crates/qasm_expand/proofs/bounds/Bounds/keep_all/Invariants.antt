use Rattle.std.proofs.Common.{◌≡◌, drop}
use Rattle.qasm_expand.specs.Library.{with_all}
use Rattle.qasm_expand.proofs.bounds.Bounds.keep_all.Given as goal

abbrev pub invariant-loop-at : goal.invariant-loop-at
invariant-loop-at l = with_all l.initial.self l.others ≡ with_all l.self (drop l.at l.others)
