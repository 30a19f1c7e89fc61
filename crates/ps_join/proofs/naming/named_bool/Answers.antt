use Rattle.ps_join.proofs.NamedParts.{monos_start, monos_more, monos_named, monos_free, mono_below}
use Rattle.ps_join.proofs.naming.named_bool.Goals as goal

pub loop-mono-init : goal.loop-mono-init
loop-mono-init c = monos_start c.args.names.now.n c.args.names.now.m1 c.args.names.now.m2 _ _ c.new-monos.ensures.items

pub named_mono-requires : goal.named_mono-requires
named_mono-requires c = mono_below _ c.args.poly.now c.loop-mono.mono-index _ c.mono-item.result c.monos-mono-items.ensures.items c.loop-mono-test.true c.mono-item.is c.requires

pub loop-mono-preserved : goal.loop-mono-preserved
loop-mono-preserved c = monos_more c.args.names.now.n c.args.names.now.m1 c.args.names.now.m2 _ c.loop-mono.monos.items _ c.loop-mono.mono-index c.mono-item.result c.named_mono.result c.loop-mono-test.true c.mono-item.is c.named_mono.ensures c.in_ok-push.ensures.items c.loop-mono.invariant

pub returns-clause-named : goal.returns-clause-named
returns-clause-named c = monos_named c.args.names.now.n c.args.names.now.m1 c.args.names.now.m2 c.args.poly.now _ c.loop-mono.monos.items _ c.loop-mono.mono-index c.monos-mono-items.ensures.items c.loop-mono-test.false c.loop-mono.invariant c.sum_of.ensures.value c.sum_of.ensures.form

pub returns-clause-variables : goal.returns-clause-variables
returns-clause-variables c = monos_free c.args.names.now.n c.args.names.now.m1 c.args.names.now.m2 c.args.poly.now _ c.loop-mono.monos.items _ c.loop-mono.mono-index c.monos-mono-items.ensures.items c.loop-mono.invariant c.sum_of.ensures.variables
