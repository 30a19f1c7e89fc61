use Rattle.ps_join.proofs.NamedParts.{support_start, support_more, support_end}
use Rattle.ps_join.proofs.naming.phase_support.Goals as goal

pub loop-term-init : goal.loop-term-init
loop-term-init c = support_start c.terms-term-items.result.now _ c.one-out.ensures

pub loop-term-preserved : goal.loop-term-preserved
loop-term-preserved c = support_more _ c.loop-term.term-index c.term-item.result c.loop-term.out _ c.loop-term-test.true c.term-item.is c.union-out.ensures.members c.loop-term.invariant

pub returns : goal.returns
returns c = support_end c.args.poly.now _ c.loop-term.term-index c.loop-term.out c.terms-term-items.ensures.value c.loop-term-test.false c.loop-term.invariant
