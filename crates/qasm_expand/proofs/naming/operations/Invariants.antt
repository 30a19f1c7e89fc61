use Rattle.std.proofs.Common.{◌≡◌, ◌++◌, map, drop}
use Rattle.qasm_expand.specs.Gates.{renumbered}
use Rattle.qasm_expand.proofs.naming.operations.Given as goal

abbrev pub invariant-loop-i : goal.invariant-loop-i
invariant-loop-i l = map (renumbered l.numbers) l.ops ≡ l.out.items ++ map (renumbered l.numbers) (drop l.i l.ops)
