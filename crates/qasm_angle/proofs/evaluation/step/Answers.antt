use Rattle.std.proofs.Common.{◌≡◌, sym, ◌∙◌}
use Rattle.std.proofs.lemmas.Result.{err_from_is_err_and}
use Rattle.qasm_angle.specs.Trees.{wants}
use Rattle.qasm_angle.specs.Machine.{leaf_off}
use Rattle.qasm_angle.proofs.Postfix.{goes_leaf, goes_one, goes_two, stops_two, stepped_err}
use Rattle.qasm_angle.proofs.evaluation.step.Goals as goal

pub returns-in_err-leaf-in-0-clause-stepped : goal.returns-in_err-leaf-in-0-clause-stepped
returns-in_err-leaf-in-0-clause-stepped c =
    let w : wants c.args.op ≡ 0 = sym c.operands.ensures.value ∙ c.in-0.is in
    stepped_err c.args.params.now c.args.op c.args.stack.now.items c.args.stack.now.items c.in_err-leaf-in-0.field-0.0 c.from_residual.result
    (err_from_is_err_and c.from_residual.result c.from_residual.ensures.1) (λ rest. leaf_off w c.in_err-leaf-in-0.ensures)

pub returns-in_err-joined-in-2-clause-stepped : goal.returns-in_err-joined-in-2-clause-stepped
returns-in_err-joined-in-2-clause-stepped c =
    let w : wants c.args.op ≡ 2 = sym c.operands.ensures.value ∙ c.in-2.is in
    stepped_err c.args.params.now c.args.op c.args.stack.now.items c.pop-in-2-2.new.self.items c.in_err-joined-in-2.field-0.0 _
    (err_from_is_err_and _ c.from_residual-in_err-joined-in-2.ensures.1)
    (stops_two c.args.params.now c.args.op c.args.stack.now.items c.args.stack.now.items c.pop-in-2.new.self.items c.pop-in-2-2.new.self.items c.in-Some-pop-2.x c.in-Some-pop.y _ w c.in-Some-pop.ensures.items c.in-Some-pop-2.ensures.items c.in_err-joined-in-2.ensures)

pub returns-in_ok-push-in-0-clause-stepped : goal.returns-in_ok-push-in-0-clause-stepped
returns-in_ok-push-in-0-clause-stepped c =
    let w : wants c.args.op ≡ 0 = sym c.operands.ensures.value ∙ c.in-0.is in
    goes_leaf c.args.params.now c.args.op c.args.stack.now.items c.push.new.self.items c.in_ok-leaf-in-0.field-0 w c.in_ok-leaf-in-0.ensures c.in_ok-push-in-0.ensures.items

pub returns-in_ok-push-in-1-clause-stepped : goal.returns-in_ok-push-in-1-clause-stepped
returns-in_ok-push-in-1-clause-stepped c =
    let w : wants c.args.op ≡ 1 = sym c.operands.ensures.value ∙ c.in-1.is in
    goes_one c.args.params.now c.args.op c.args.stack.now.items c.push-in-1.new.self.items c.pop.new.self.items c.in-Some.x c.negated.result w c.in-Some.ensures.items c.negated.ensures c.in_ok-push-in-1.ensures.items

pub returns-in_ok-push-in-2-clause-stepped : goal.returns-in_ok-push-in-2-clause-stepped
returns-in_ok-push-in-2-clause-stepped c =
    let w : wants c.args.op ≡ 2 = sym c.operands.ensures.value ∙ c.in-2.is in
    goes_two c.args.params.now c.args.op c.args.stack.now.items c.push-in-2.new.self.items c.pop-in-2.new.self.items c.pop-in-2-2.new.self.items c.in-Some-pop-2.x c.in-Some-pop.y c.in_ok-joined-in-2.field-0 w c.in-Some-pop.ensures.items c.in-Some-pop-2.ensures.items c.in_ok-joined-in-2.ensures c.in_ok-push-in-2.ensures.items
