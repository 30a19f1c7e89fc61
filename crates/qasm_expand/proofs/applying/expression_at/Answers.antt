use Rattle.std.proofs.Common.{◌∙◌, ap}
use Rattle.qasm_parse.specs.declared.program.Formula.{Formula}
use Rattle.qasm_expand.proofs.Placing.{expression_read, expression_past}
use Rattle.qasm_expand.proofs.applying.expression_at.Goals as goal

pub returns-in-Some : goal.returns-in-Some
returns-in-Some c = ap (λ (f : Formula). f.from) c.in-Some.ensures.lookup.1 ∙ expression_read c.args.formulas.now c.args.at c.in-Some.formula.now c.in-Some.ensures.lookup.3.0

pub returns-in-None : goal.returns-in-None
returns-in-None c = expression_past c.args.formulas.now c.args.at c.in-None.ensures.lookup.3
