use Rattle.std.proofs.Common.{◌≡◌, ◌-◌, ◌+◌, arith, sym, subst, take, get_or, [], ◌∷◌, ◌++◌}
use Rattle.std.proofs.lemmas.List.{take_more}
use Rattle.qasm_parse.specs.declared.sort.Mark.TheVariants.{Number}
use Rattle.qasm_parse.specs.Formulas.{OpsAre, no_op}
use Rattle.qasm_parse.proofs.Counting.{count_none, ops_more}
use Rattle.qasm_parse.proofs.formulas.operations.Goals as goal

pub loop-mark-init : goal.loop-mark-init
loop-mark-init c = record {
  ordered = omega arith;
  known = sym (count_none c.args.sorts.now c.args.from (c.args.from - c.args.from) (omega arith));
  few = omega arith;
  ops = subst (λ xs. OpsAre c.args.bytes.now c.args.tokens.now c.args.sorts.now c.args.from [] xs) (sym c.in_ok-out.ensures.items) no_op;
}

pub loop-mark-preserved : goal.loop-mark-preserved
loop-mark-preserved c =
    let r = c.ranked.ensures in
    let i = c.loop-mark.mark-index in let marks = c.args.marks.now in let m = get_or marks i (Number 0) in
    let e : take (i + 1) marks ≡ take i marks ++ (m ∷ []) = take_more marks i (Number 0) c.loop-mark-test.true in
    let o : OpsAre c.args.bytes.now c.args.tokens.now c.args.sorts.now c.args.from (take i marks ++ (m ∷ [])) (c.loop-mark.out.items ++ (c.operation.result ∷ [])) = ops_more m c.operation.result c.loop-mark.invariant.ops c.operation.ensures in
    record {
      ordered = r.ordered;
      known = r.known;
      few = r.few;
      ops = subst (λ ms. OpsAre c.args.bytes.now c.args.tokens.now c.args.sorts.now c.args.from ms c.push.new.self.items) (sym e) (subst (λ xs. OpsAre c.args.bytes.now c.args.tokens.now c.args.sorts.now c.args.from (take i marks ++ (m ∷ [])) xs) (sym c.in_ok-push.ensures.items) o);
    }
