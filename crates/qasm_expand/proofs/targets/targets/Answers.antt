use Rattle.std.proofs.Common.{◌≡◌, ◌∙◌, ◌+◌, sym, ap, drop, Ok}
use Rattle.std.proofs.lemmas.Result.{err_from_is_err_and}
use Rattle.qasm_expand.specs.Targets.{targets_of}
use Rattle.qasm_expand.proofs.Aiming.{ahead, ahead_none, one_target, missed_target, all_targets}
use Rattle.qasm_expand.proofs.Aimed.{known_err}
use Rattle.qasm_expand.proofs.targets.targets.Goals as goal

pub loop-arg-init : goal.loop-arg-init
loop-arg-init c =
    let r = targets_of c.args.bytes.now c.args.registers.now c.args.args.now in
    ahead_none r ∙ ap (λ l. ahead l r) (sym c.in_ok-out.ensures.items)

pub loop-arg-preserved : goal.loop-arg-preserved
loop-arg-preserved c =
    one_target c.args.bytes.now c.args.registers.now c.args.args.now c.loop-arg.arg-index _ c.loop-arg.out.items c.target.result c.loop-arg-test.true c.target.ensures c.loop-arg.invariant c.in_ok-target.field-0 c.in_ok-target.was
    ∙ ap (λ l. ahead l (targets_of c.args.bytes.now c.args.registers.now (drop (c.loop-arg.arg-index + 1) c.args.args.now))) (sym c.in_ok-push.ensures.items)

pub returns-in_err-target : goal.returns-in_err-target
returns-in_err-target c =
    known_err (λ r. r ≡ targets_of c.args.bytes.now c.args.registers.now c.args.args.now) c.in_err-target.field-0.0 c.from_residual-in_err-target.result (err_from_is_err_and c.from_residual-in_err-target.result c.from_residual-in_err-target.ensures.1)
    (missed_target c.args.bytes.now c.args.registers.now c.args.args.now c.loop-arg.arg-index _ c.loop-arg.out.items c.target.result c.loop-arg-test.true c.target.ensures c.loop-arg.invariant c.in_err-target.field-0.0 c.in_err-target.was)

pub returns : goal.returns
returns c = ap (λ l. Ok l) c.from_vec.ensures ∙ all_targets c.args.bytes.now c.args.registers.now c.args.args.now c.loop-arg.arg-index c.loop-arg.out.items c.loop-arg-test.false c.loop-arg.invariant
