use Rattle.qasm_expand.proofs.Expressions.{has_turn, no_turn_of}
use Rattle.qasm_expand.proofs.bodies.turn.Goals as goal

pub returns-in-Ok : goal.returns-in-Ok
returns-in-Ok c = has_turn c.args.params.now c.args.expr.now c.in-Ok.x c.angle.result c.in-Ok.ensures c.angle.ensures

pub returns-in-Err : goal.returns-in-Err
returns-in-Err c = no_turn_of c.args.params.now c.args.expr.now c.in-Err.fault c.in-Err.ensures
