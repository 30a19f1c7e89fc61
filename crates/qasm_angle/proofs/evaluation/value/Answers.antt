use Rattle.std.proofs.Common.{◌≡◌, ◌∙◌, true, sym, subst, List}
use Rattle.std.proofs.Props.{props}
use Rattle.std.proofs.Math.Logic.{∥∥₁_elim}
use Rattle.qasm_angle.specs.declared.types.Op.{Op}
use Rattle.qasm_angle.specs.Trees.{IsExpression}
use Rattle.qasm_angle.specs.Machine.{leaves_one}
use Rattle.qasm_angle.proofs.Postfix.{whole_leaves}
use Rattle.qasm_angle.proofs.Single.{only_value}
use Rattle.qasm_angle.proofs.evaluation.value.Goals as goal

leaves : (ops : List Op) → ∥ IsExpression ops ∥₁ → leaves_one ops 0 ≡ true
leaves ops w = ∥∥₁_elim w (Prim.hlevel props) (λ e. whole_leaves ops e)

pub run-requires : goal.run-requires
run-requires c = subst (λ ops. leaves_one ops 0 ≡ true) (sym c.ops.ensures.same) (leaves c.args.expr.now c.ops.ensures.whole)

pub returns-clause-only : goal.returns-clause-only
returns-clause-only c = λ t e. only_value c.args.params.now t c.run.result (c.run.ensures t (e ∙ sym c.ops.ensures.same))
