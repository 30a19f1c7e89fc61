use Rattle.ps_overlap.proofs.Moved.{negated_start, negated_more, negated_value, term_small}
use Rattle.ps_overlap.proofs.moving.push_negated.Goals as goal

pub loop-term-init : goal.loop-term-init
loop-term-init c = negated_start c.args.terms.now c.args.out.now.items

pub loop-term-preserved : goal.loop-term-preserved
loop-term-preserved c = negated_more c.args.terms.now c.args.out.now.items c.loop-term.out.items _ c.loop-term.term-index c.neg.result c.term-item.result c.loop-term-test.true c.term-item.is (term_small c.args.terms.now c.loop-term.term-index c.term-item.result c.requires c.loop-term-test.true c.term-item.is) c.neg.ensures c.in_ok-push.ensures.items c.loop-term.invariant

pub returns-clause-value : goal.returns-clause-value
returns-clause-value c = negated_value c.args.terms.now c.args.out.now.items c.loop-term.out.items c.loop-term.term-index c.loop-term-test.false c.loop-term.invariant

pub returns-clause-variables : goal.returns-clause-variables
returns-clause-variables c = c.loop-term.invariant.free
