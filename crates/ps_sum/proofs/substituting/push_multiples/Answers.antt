use Rattle.std.proofs.Common.{arith, subst, sym, List}
use Rattle.ps_phase.specs.declared.terms.Term.{Term}
use Rattle.ps_sum.proofs.Substitutes.{Multiplied, multiplied_start, multiplied_more, multiplied_value}
use Rattle.ps_sum.proofs.substituting.push_multiples.Goals as goal

pub loop-term-init : goal.loop-term-init
loop-term-init c = record {
  sum = subst (λ (r : List Term). Multiplied c.args.mono.now c.args.terms.now 0 c.args.out.now.items r) (sym c.reserve.ensures.items) (multiplied_start c.args.mono.now c.args.terms.now c.args.out.now.items);
  room = omega (arith, c.in_ok-reserve.ensures.ok);
}

pub loop-term-preserved : goal.loop-term-preserved
loop-term-preserved c = record {
  sum = multiplied_more c.args.mono.now c.union.result c.args.terms.now c.args.out.now.items c.loop-term.out.items _ c.loop-term.term-index c.term-item.result c.loop-term-test.true c.term-item.is c.union.ensures.members c.push_reserved.ensures.items c.loop-term.invariant.sum;
  room = omega (arith, c.push_reserved.ensures.len, c.push_reserved.ensures.capacity, c.loop-term.invariant.room);
}

pub returns-clause-value : goal.returns-clause-value
returns-clause-value c = multiplied_value c.args.mono.now c.args.terms.now c.args.out.now.items c.loop-term.out.items c.loop-term.term-index c.loop-term-test.false c.loop-term.invariant.sum
