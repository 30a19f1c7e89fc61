use Rattle.std.proofs.Common.{subst}
use Rattle.qasm_angle.specs.Trees.{IsExpression}
use Rattle.qasm_angle.proofs.expr.Expr.ops.Goals as goal

pub returns-clause-whole : goal.returns-clause-whole
returns-clause-whole c = subst (λ ops. ∥ IsExpression ops ∥₁) c.self.view_is c.self.invariant
