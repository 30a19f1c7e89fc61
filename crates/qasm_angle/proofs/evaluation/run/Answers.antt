use Rattle.std.proofs.Common.{◌≡◌, ◌+◌, ◌∷◌, [], arith, sym, ◌∙◌, ap, drop, length, length-append, subst, true, get_or, drop-cons, add-one, reverse}
use Rattle.std.proofs.lemmas.Result.{err_from_is_err_and}
use Rattle.std.proofs.Math.ListN.{drop_of_length-le}
use Rattle.qasm_angle.specs.declared.types.Op.TheVariants.{Number}
use Rattle.std.specs.Prelude.{pos}
use Rattle.qasm_angle.specs.Machine.{Runs, leaves_one}
use Rattle.qasm_angle.proofs.Postfix.{ends, faulty, one_left, leaves_next}
use Rattle.qasm_angle.proofs.evaluation.run.Goals as goal

pub returns-in_err-step : goal.returns-in_err-step
returns-in_err-step c =
    let ops = c.args.ops.now in let i = c.loop-op.op-index in
    let d : drop i ops ≡ get_or ops i (Number 0 (pos 0)) ∷ drop (i + 1) ops = rw add-one (drop-cons ops i (Number 0 (pos 0)) c.loop-op-test.true) in
    faulty c.args.params.now ops (drop (i + 1) ops) (get_or ops i (Number 0 (pos 0))) c.loop-op.stack.items c.step.new.stack.items c.in_err-step.field-0.0 c.from_residual.result
    (err_from_is_err_and c.from_residual.result c.from_residual.ensures.1)
    (λ o r. c.loop-op.invariant.rest o (subst (λ s. Runs c.args.params.now s (reverse c.loop-op.stack.items) o) (sym d) r)) c.in_err-step.ensures.stepped

pub loop-op-preserved : goal.loop-op-preserved
loop-op-preserved c =
    let ops = c.args.ops.now in let i = c.loop-op.op-index in let op = get_or ops i (Number 0 (pos 0)) in
    let d : drop i ops ≡ op ∷ drop (i + 1) ops = rw add-one (drop-cons ops i (Number 0 (pos 0)) c.loop-op-test.true) in
    let h = c.in_ok-step.ensures.height in
    let w : leaves_one (op ∷ drop (i + 1) ops) (length c.loop-op.stack.items) ≡ true = subst (λ s. leaves_one s (length c.loop-op.stack.items) ≡ true) d c.loop-op.invariant.whole in
    record {
      whole = leaves_next op (drop (i + 1) ops) (length c.loop-op.stack.items) (length c.step.new.stack.items) w h;
      rest = λ o r. c.loop-op.invariant.rest o (subst (λ s. Runs c.args.params.now s (reverse c.loop-op.stack.items) o) (sym d) (c.in_ok-step.ensures.stepped (drop (i + 1) ops) o r));
    }

pub returns : goal.returns
returns c =
    let ops = c.args.ops.now in let i = c.loop-op.op-index in
    let d : drop i ops ≡ [] = drop_of_length-le ops (omega arith) in
    let w : leaves_one [] (length c.loop-op.stack.items) ≡ true = subst (λ s. leaves_one s (length c.loop-op.stack.items) ≡ true) d c.loop-op.invariant.whole in
    let n : length c.loop-op.stack.items ≡ 1 = one_left _ w in
    let m : length c.loop-op.stack.items ≡ length c.pop.new.self.items + 1 = ap length c.in-Some.ensures.items ∙ length-append c.pop.new.self.items (c.in-Some.x ∷ []) in
    ends c.args.params.now ops c.loop-op.stack.items c.pop.new.self.items c.in-Some.x c.in-Some.ensures.items (omega arith)
    (λ o r. c.loop-op.invariant.rest o (subst (λ s. Runs c.args.params.now s (reverse c.loop-op.stack.items) o) (sym d) r))
