use Rattle.std.proofs.Common.{◌∙◌, ap, sym, subst, subst₂, All, length}
use Rattle.qasm_angle.specs.Trees.{IsExpression}
use Rattle.qasm_parse.specs.Places.{IdBelow}
use Rattle.qasm_expand.proofs.Renumbering.{renumbered_whole}
use Rattle.qasm_expand.proofs.Soundness.{numbers_sound}
use Rattle.qasm_expand.proofs.naming.expression.Goals as goal

pub operations-requires : goal.operations-requires
operations-requires c =
    let n = (numbers_sound c.args.bytes.now c.args.formals.now c.items.result.now c.in_ok-numbers.numbers (sym c.in_ok-numbers.ensures)).1 in
    subst₂ (λ m ops. All (IdBelow m) ops) (ap length (sym c.items.ensures) ∙ sym n ∙ ap length (sym c.as_slice.ensures)) (sym c.ops.ensures.same) c.requires.1

pub new-requires : goal.new-requires
new-requires c = subst IsExpression (sym c.in_ok-ops.ensures) (renumbered_whole c.as_slice.result.now c.ops.result.now (subst (λ ops. ∥ IsExpression ops ∥₁) (sym c.ops.ensures.same) c.ops.ensures.whole))
