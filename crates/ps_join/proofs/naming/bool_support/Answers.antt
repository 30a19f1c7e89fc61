use Rattle.ps_join.proofs.NamedParts.{bool_support_start, bool_support_more, bool_support_end}
use Rattle.ps_join.proofs.naming.bool_support.Goals as goal

pub loop-mono-init : goal.loop-mono-init
loop-mono-init c = bool_support_start c.monos-mono-items.result.now _ c.one-out.ensures

pub loop-mono-preserved : goal.loop-mono-preserved
loop-mono-preserved c = bool_support_more _ c.loop-mono.mono-index c.mono-item.result c.loop-mono.out _ c.loop-mono-test.true c.mono-item.is c.union-out.ensures.members c.loop-mono.invariant

pub returns : goal.returns
returns c = bool_support_end c.args.poly.now _ c.loop-mono.mono-index c.loop-mono.out c.monos-mono-items.ensures.items c.loop-mono-test.false c.loop-mono.invariant
