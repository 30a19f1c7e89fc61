use Rattle.std.proofs.Common.{arith}
use Rattle.std.proofs.lemmas.Result.{IfOk-weaker}
use Rattle.ps_join.proofs.LeafSums.{Rotating, rotating_value, rotating_below, six_terms, less_theta, plus_of, reduced_of}
use Rattle.ps_join.proofs.leaves.rotation_phase.Goals as goal

rotating : (c : goal.After-gather) → Rotating c.args.theta c.args.phi c.args.lambda c.args.q c.args.n c.in_ok-terms.terms.items
rotating c = record {
  m0 = c.one.result;
  m1 = c.var-input.result;
  m2 = c.var-first.result;
  m3 = c.var-second.result;
  m4 = c.union.result;
  m5 = c.union-2.result;
  w0 = c.neg.result;
  w1 = c.add.result;
  w2 = c.whole-2.result;
  w3 = c.add-2.result;
  h = c.of-half.result;
  terms = six_terms _ _ _ _ _ _ _ _ _ _ _ _ _ c.in_ok-terms.ensures.items c.term.ensures c.term-2.ensures c.term-3.ensures c.term-4.ensures c.term-5.ensures c.term-6.ensures;
  none = c.one.ensures;
  input = c.var-input.ensures;
  first = c.var-first.ensures;
  second = c.var-second.ensures;
  early = c.union.ensures.members;
  late = c.union-2.ensures.members;
  start_is = less_theta c.neg.result c.half.result c.args.theta c.neg.ensures c.half.ensures (omega (arith, c.half.type_inv));
  input_is = plus_of _ _ _ _ _ c.add.ensures c.whole.ensures c.of.ensures;
  first_is = reduced_of _ _ c.whole-2.ensures;
  second_is = plus_of _ _ _ _ _ c.add-2.ensures c.whole-3.ensures c.of-2.ensures;
  half_is = c.of-half.ensures;
}

pub returns-clause-value : goal.returns-clause-value
returns-clause-value c = IfOk-weaker c.gather.result _ _ (λ p e. rotating_value c.args.theta c.args.phi c.args.lambda c.args.q c.args.n c.in_ok-terms.terms.items p (rotating c) e) c.gather.ensures.value

pub returns-clause-variables : goal.returns-clause-variables
returns-clause-variables c =
    IfOk-weaker c.gather.result _ _ (λ p e v l. rotating_below c.args.theta c.args.phi c.args.lambda c.args.q c.args.n v c.in_ok-terms.terms.items p (rotating c) (e v) c.requires.within l) c.gather.ensures.variables
