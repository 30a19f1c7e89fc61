use Rattle.std.proofs.Common.{◌≡◌, ◌<◌, ◌≤◌, arith, length, rules, []}
use Rattle.std.proofs.Math.ListN.{drop_of_length-le}
use Rattle.qasm_expand.specs.Bodies.{IsValue}
use Rattle.qasm_expand.specs.Targets.{exprs_of}
use Rattle.qasm_expand.proofs.Expressions.{onward_next, onward_fault, onward_end, own_at, exprs_length}
use Rattle.qasm_expand.proofs.bodies.own_values.Goals as goal

pub returns-in-Err : goal.returns-in-Err
returns-in-Err c =
    let n : c.len.result ≡ length c.loop-formula.done.items = search rules in
    let lt : c.loop-formula.formula-index < length (exprs_of c.args.formulas.now) = omega (arith, exprs_length c.args.formulas.now) in
    onward_fault (IsValue []) (exprs_of c.args.formulas.now) c.loop-formula.formula-index c.len.result c.loop-formula.done.items c.formula-item.result.expr c.in-Err.fault c.loop-formula.invariant lt
    (own_at c.args.formulas.now c.loop-formula.formula-index c.formula-item.result c.loop-formula-test.true c.formula-item.is) n c.in-Err.ensures

pub loop-formula-preserved : goal.loop-formula-preserved
loop-formula-preserved c =
    let lt : c.loop-formula.formula-index < length (exprs_of c.args.formulas.now) = omega (arith, exprs_length c.args.formulas.now) in
    onward_next (IsValue []) (exprs_of c.args.formulas.now) c.loop-formula.formula-index c.loop-formula.done.items c.add.new.done.items c.formula-item.result.expr c.in-Ok.x c.loop-formula.invariant lt
    (own_at c.args.formulas.now c.loop-formula.formula-index c.formula-item.result c.loop-formula-test.true c.formula-item.is) c.in-Ok.ensures c.in_ok-add-in-Ok.ensures

pub returns : goal.returns
returns c =
    let le : length (exprs_of c.args.formulas.now) ≤ c.loop-formula.formula-index = omega (arith, exprs_length c.args.formulas.now) in
    onward_end (IsValue []) (exprs_of c.args.formulas.now) c.loop-formula.formula-index c.loop-formula.done.items c.loop-formula.invariant le (drop_of_length-le (exprs_of c.args.formulas.now) le)
