use Rattle.qasm_expand.proofs.Expressions.{has_value}
use Rattle.qasm_expand.proofs.bodies.known.Goals as goal

pub returns : goal.returns
returns c = has_value c.args.params.now c.args.expr.now c.value.result c.ops-ops.ensures.whole c.value.ensures.value
