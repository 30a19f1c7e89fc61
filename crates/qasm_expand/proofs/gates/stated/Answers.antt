use Rattle.std.proofs.Common.{◌∙◌, ap, sym}
use Rattle.std.proofs.lemmas.Result.{err_from_is_err_and}
use Rattle.qasm_parse.specs.declared.program.Inner.TheVariants.{Barrier}
use Rattle.qasm_expand.proofs.Leading.{led_apply, led_apply_fault, led_barrier}
use Rattle.qasm_expand.proofs.gates.stated.Goals as goal

pub returns-in_err-inner-in-Apply : goal.returns-in_err-inner-in-Apply
returns-in_err-inner-in-Apply c =
    led_apply_fault c.args.bytes.now c.args.defs.now c.args.bound.now c.args.params.now c.args.args.now c.in-Apply.call c.in_err-inner-in-Apply.field-0.0 c.from_residual.result c.args.list.now.items c.args.list.now.items c.args.statement.now c.in-Apply.is (err_from_is_err_and c.from_residual.result c.from_residual.ensures.1) c.in_err-inner-in-Apply.ensures

pub returns-in_ok-push-in-Apply : goal.returns-in_ok-push-in-Apply
returns-in_ok-push-in-Apply c =
    led_apply c.args.bytes.now c.args.defs.now c.args.bound.now c.args.params.now c.args.args.now c.in-Apply.call c.in_ok-inner-in-Apply.field-0 c.args.list.now.items c.push.new.self.items c.args.statement.now c.in-Apply.is c.in_ok-inner-in-Apply.ensures c.in_ok-push-in-Apply.ensures.items

pub returns-in-Barrier : goal.returns-in-Barrier
returns-in-Barrier c =
    led_barrier c.args.bytes.now c.args.defs.now c.args.bound.now c.args.params.now c.args.args.now c.items.result.now c.known.result c.args.list.now.items c.args.statement.now (c.in-Barrier.is ∙ ap Barrier (sym c.items.ensures)) c.known.ensures
