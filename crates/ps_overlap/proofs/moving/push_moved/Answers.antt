use Rattle.ps_overlap.proofs.Moved.{terms_start, terms_more, terms_value, small_term}
use Rattle.ps_overlap.proofs.moving.push_moved.Goals as goal

pub loop-term-init : goal.loop-term-init
loop-term-init c = terms_start c.args.n c.args.by c.args.terms.now c.args.out.now.items

pub moved_mono-requires-clause-small : goal.moved_mono-requires-clause-small
moved_mono-requires-clause-small c = small_term c.args.by c.args.terms.now c.loop-term.term-index c.term-item.result c.loop-term-test.true c.term-item.is c.requires.small

pub loop-term-preserved : goal.loop-term-preserved
loop-term-preserved c = terms_more c.args.n c.args.by c.args.terms.now c.args.out.now.items c.loop-term.out.items _ c.loop-term.term-index c.term-item.result c.moved_mono.result c.loop-term-test.true c.term-item.is c.moved_mono.ensures.value c.moved_mono.ensures.variables c.in_ok-push.ensures.items c.loop-term.invariant

pub returns-clause-value : goal.returns-clause-value
returns-clause-value c = terms_value c.args.n c.args.by c.args.terms.now c.args.out.now.items c.loop-term.out.items c.loop-term.term-index c.loop-term-test.false c.loop-term.invariant

pub returns-clause-variables : goal.returns-clause-variables
returns-clause-variables c = c.loop-term.invariant.free
