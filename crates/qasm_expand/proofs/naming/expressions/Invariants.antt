use Rattle.std.proofs.Common.{◌≡◌, drop}
use Rattle.qasm_expand.specs.Gates.{expressions, expression}
use Rattle.qasm_expand.specs.Names.{put_before}
use Rattle.qasm_expand.proofs.Stepping.{each}
use Rattle.qasm_expand.proofs.naming.expressions.Given as goal

abbrev pub invariant-loop-formula : goal.invariant-loop-formula
invariant-loop-formula l = expressions l.bytes l.formals l.formulas ≡ put_before l.list.items (each (expression l.bytes l.formals) (drop l.formula-index l.formulas))
