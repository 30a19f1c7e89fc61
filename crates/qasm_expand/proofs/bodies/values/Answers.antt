use Rattle.std.proofs.Common.{◌≡◌, length, rules}
use Rattle.std.proofs.Math.ListN.{drop_of_length-le}
use Rattle.qasm_expand.specs.Bodies.{IsValue}
use Rattle.qasm_expand.proofs.Expressions.{onward_next, onward_fault, onward_end, expr_at}
use Rattle.qasm_expand.proofs.bodies.values.Goals as goal

pub returns-in-Err : goal.returns-in-Err
returns-in-Err c =
    let n : c.len.result ≡ length c.loop-expr.done.items = search rules in
    onward_fault (IsValue c.args.params.now) c.args.exprs.now c.loop-expr.expr-index c.len.result c.loop-expr.done.items c.expr-item.result c.in-Err.fault c.loop-expr.invariant c.loop-expr-test.true
    (expr_at c.args.exprs.now c.loop-expr.expr-index c.expr-item.result c.loop-expr-test.true c.expr-item.is) n c.in-Err.ensures

pub loop-expr-preserved : goal.loop-expr-preserved
loop-expr-preserved c =
    onward_next (IsValue c.args.params.now) c.args.exprs.now c.loop-expr.expr-index c.loop-expr.done.items c.add.new.done.items c.expr-item.result c.in-Ok.x c.loop-expr.invariant c.loop-expr-test.true
    (expr_at c.args.exprs.now c.loop-expr.expr-index c.expr-item.result c.loop-expr-test.true c.expr-item.is) c.in-Ok.ensures c.in_ok-add-in-Ok.ensures

pub returns : goal.returns
returns c = onward_end (IsValue c.args.params.now) c.args.exprs.now c.loop-expr.expr-index c.loop-expr.done.items c.loop-expr.invariant c.loop-expr-test.false (drop_of_length-le c.args.exprs.now c.loop-expr-test.false)
