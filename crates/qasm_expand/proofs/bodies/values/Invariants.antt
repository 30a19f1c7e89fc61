use Rattle.qasm_expand.specs.Bodies.{IsValue}
use Rattle.qasm_expand.proofs.Expressions.{Onward}
use Rattle.qasm_expand.proofs.bodies.values.Given as goal

abbrev pub invariant-loop-expr : goal.invariant-loop-expr
invariant-loop-expr l = Onward (IsValue l.params) l.exprs l.expr-index l.done.items
