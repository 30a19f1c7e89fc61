use Rattle.std.proofs.Common.{refl}
use Rattle.qasm_expand.specs.Bodies.{IsTurn}
use Rattle.qasm_expand.proofs.Expressions.{first_off, second_off, third_off, three}
use Rattle.qasm_expand.proofs.bodies.turned.Goals as goal

pub returns-in-Err : goal.returns-in-Err
returns-in-Err c = first_off (IsTurn c.args.params.now) c.args.exprs.0.now c.args.exprs.1.now c.args.exprs.2.now c.in-Err.fault c.in-Err.ensures

pub returns-in-Err-turn : goal.returns-in-Err-turn
returns-in-Err-turn c = second_off (IsTurn c.args.params.now) c.args.exprs.0.now c.args.exprs.1.now c.args.exprs.2.now c.in-Ok.theta c.in-Err-turn.fault c.in-Ok.ensures c.in-Err-turn.ensures

pub returns-in-Ok-turn-2 : goal.returns-in-Ok-turn-2
returns-in-Ok-turn-2 c = (c.in-Ok.theta, c.in-Ok-turn.phi, c.in-Ok-turn-2.lambda, refl, three (IsTurn c.args.params.now) c.args.exprs.0.now c.args.exprs.1.now c.args.exprs.2.now c.in-Ok.theta c.in-Ok-turn.phi c.in-Ok-turn-2.lambda c.in-Ok.ensures c.in-Ok-turn.ensures c.in-Ok-turn-2.ensures)

pub returns-in-Err-turn-2 : goal.returns-in-Err-turn-2
returns-in-Err-turn-2 c = third_off (IsTurn c.args.params.now) c.args.exprs.0.now c.args.exprs.1.now c.args.exprs.2.now c.in-Ok.theta c.in-Ok-turn.phi c.in-Err-turn-2.fault c.in-Ok.ensures c.in-Ok-turn.ensures c.in-Err-turn-2.ensures
