use Rattle.std.proofs.Common.{◌∙◌, ap, sym, subst}
use Rattle.qasm_parse.specs.Places.{FormulaIn}
use Rattle.qasm_expand.specs.Gates.{expression}
use Rattle.qasm_expand.specs.Names.{put_before}
use Rattle.qasm_expand.proofs.Stepping.{each, expressions_each, each_start}
use Rattle.qasm_expand.proofs.naming.expressions.Goals as goal

pub loop-formula-init : goal.loop-formula-init
loop-formula-init c =
    let f = expression c.args.bytes.now c.args.formals.now in
    expressions_each c.args.bytes.now c.args.formals.now c.args.formulas.now ∙ each_start f c.args.formulas.now ∙ ap (λ l. put_before l (each f c.args.formulas.now)) (sym c.new-list.ensures.items)

pub expression-requires : goal.expression-requires
expression-requires c = subst (FormulaIn c.args.bytes.now) (sym c.formula-item.is) (c.requires c.loop-formula.formula-index c.formula-item.result c.loop-formula-test.true)
