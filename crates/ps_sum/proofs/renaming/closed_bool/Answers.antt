use Rattle.std.proofs.Common.{ap, ◌∙◌}
use Rattle.ps_bool.specs.Polys.{occurs}
use Rattle.ps_sum.proofs.Lifts.{mono_free}
use Rattle.ps_sum.proofs.Closings.{monos_start, monos_more, monos_value, monos_free}
use Rattle.ps_sum.proofs.renaming.closed_bool.Goals as goal

pub loop-mono-init : goal.loop-mono-init
loop-mono-init c = monos_start c.args.v _ _ c.new-monos.ensures.items

pub closed_mono-requires-clause-free : goal.closed_mono-requires-clause-free
closed_mono-requires-clause-free c = mono_free c.args.v _ c.loop-mono.mono-index c.mono-item.result c.loop-mono-test.true c.mono-item.is (ap (occurs c.args.v) c.monos-mono-items.ensures.items ∙ c.requires.free)

pub loop-mono-preserved : goal.loop-mono-preserved
loop-mono-preserved c = monos_more c.args.v _ c.loop-mono.monos.items _ c.loop-mono.mono-index c.mono-item.result c.closed_mono.result c.loop-mono-test.true c.mono-item.is (ap (occurs c.args.v) c.monos-mono-items.ensures.items ∙ c.requires.free) c.closed_mono.ensures c.in_ok-push.ensures.items c.loop-mono.invariant

pub returns-clause-value : goal.returns-clause-value
returns-clause-value c = monos_value c.args.v c.args.poly.now _ c.loop-mono.monos.items _ c.loop-mono.mono-index c.monos-mono-items.ensures.items c.loop-mono-test.false c.loop-mono.invariant c.sum_of.ensures.value

pub returns-clause-variables : goal.returns-clause-variables
returns-clause-variables c = monos_free c.args.v c.args.poly.now _ c.loop-mono.monos.items _ c.loop-mono.mono-index c.monos-mono-items.ensures.items c.loop-mono.invariant c.sum_of.ensures.variables
