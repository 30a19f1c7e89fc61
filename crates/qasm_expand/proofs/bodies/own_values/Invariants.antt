use Rattle.std.proofs.Common.{[]}
use Rattle.qasm_expand.specs.Bodies.{IsValue}
use Rattle.qasm_expand.specs.Targets.{exprs_of}
use Rattle.qasm_expand.proofs.Expressions.{Onward}
use Rattle.qasm_expand.proofs.bodies.own_values.Given as goal

abbrev pub invariant-loop-formula : goal.invariant-loop-formula
invariant-loop-formula l = Onward (IsValue []) (exprs_of l.formulas) l.formula-index l.done.items
