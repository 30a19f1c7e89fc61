use Rattle.std.proofs.Common.{sym, arith}
use Rattle.ps_sum.proofs.Counting.{raw_none, raw_one, raw_many, raw_over, raw_end, binomial_zero, subsets_none, ways_step, subsets_next}
use Rattle.ps_sum.proofs.counts.raw_term.Goals as goal

pub returns-then-most-eq0 : goal.returns-then-most-eq0
returns-then-most-eq0 c = raw_none c.args.by c.args.t c.power.result c.min-most.result (record { at_most = c.power.ensures.at_most; divides = c.power.ensures.divides; greatest = c.power.ensures.greatest }) c.min-most.ensures c.if-most-eq0.true

pub returns-then-most-eq1 : goal.returns-then-most-eq1
returns-then-most-eq1 c = raw_one c.args.by c.args.t c.power.result c.min-most.result _ (record { at_most = c.power.ensures.at_most; divides = c.power.ensures.divides; greatest = c.power.ensures.greatest }) c.min-most.ensures c.if-most-eq1.true c.min.ensures

pub returns-then-t-gt-MANY : goal.returns-then-t-gt-MANY
returns-then-t-gt-MANY c = raw_many c.args.by c.args.t c.power.result c.min-most.result (record { at_most = c.power.ensures.at_most; divides = c.power.ensures.divides; greatest = c.power.ensures.greatest }) c.min-most.ensures c.if-most-eq0.false c.if-most-eq1.false c.if-t-gt-MANY.true

pub loop-s-init : goal.loop-s-init
loop-s-init c = record { ways_is = sym (binomial_zero c.args.t); total_is = sym (subsets_none c.args.t); ways_most = omega arith; total_most = omega arith }

pub returns-then-total-ge-CAP : goal.returns-then-total-ge-CAP
returns-then-total-ge-CAP c = raw_over c.args.by c.args.t c.power.result c.min-most.result c.loop-s.s c.loop-s.total _ (record { at_most = c.power.ensures.at_most; divides = c.power.ensures.divides; greatest = c.power.ensures.greatest }) c.min-most.ensures c.loop-s-test.true
    c.loop-s.invariant.total_is (ways_step c.args.t c.loop-s.s c.loop-s.ways c.loop-s.invariant.ways_is) c.if-total-ge-CAP.true

pub loop-s-preserved : goal.loop-s-preserved
loop-s-preserved c = record {
  ways_is = ways_step c.args.t c.loop-s.s c.loop-s.ways c.loop-s.invariant.ways_is;
  total_is = subsets_next c.args.t c.loop-s.s c.loop-s.total _ c.loop-s.invariant.total_is (ways_step c.args.t c.loop-s.s c.loop-s.ways c.loop-s.invariant.ways_is);
  ways_most = omega arith;
  total_most = omega arith;
}

pub returns : goal.returns
returns c = raw_end c.args.by c.args.t c.power.result c.min-most.result c.loop-s.s c.loop-s.total (record { at_most = c.power.ensures.at_most; divides = c.power.ensures.divides; greatest = c.power.ensures.greatest }) c.min-most.ensures (omega arith) c.loop-s.invariant.total_is c.loop-s.invariant.total_most
