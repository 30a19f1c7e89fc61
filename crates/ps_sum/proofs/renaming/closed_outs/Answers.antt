use Rattle.std.proofs.Common.{ap, ◌∙◌}
use Rattle.ps_sum.specs.Outs.{outs_occur}
use Rattle.ps_sum.proofs.Closings.{outs_start, outs_get, outs_more, outs_value, outs_free, outs_form}
use Rattle.ps_sum.proofs.renaming.closed_outs.Goals as goal

pub loop-poly-init : goal.loop-poly-init
loop-poly-init c = outs_start c.args.v _ _ c.new-polys.ensures.items

pub closed_bool-requires-clause-free : goal.closed_bool-requires-clause-free
closed_bool-requires-clause-free c = outs_get c.args.v _ c.loop-poly.poly-index c.poly-item.result c.loop-poly-test.true c.poly-item.is (ap (outs_occur c.args.v) c.polys-poly-items.ensures ∙ c.requires.free)

pub loop-poly-preserved : goal.loop-poly-preserved
loop-poly-preserved c = outs_more c.args.v _ c.loop-poly.polys.items _ c.loop-poly.poly-index c.poly-item.result c.in_ok-closed_bool.field-0 c.loop-poly-test.true c.poly-item.is c.in_ok-closed_bool.ensures.value c.in_ok-closed_bool.ensures.variables c.in_ok-push.ensures.items c.in_ok-closed_bool.ensures.form c.loop-poly.invariant

pub returns-clause-value : goal.returns-clause-value
returns-clause-value c = outs_value c.args.v c.args.outs.now _ c.loop-poly.polys.items _ c.loop-poly.poly-index c.polys-poly-items.ensures c.loop-poly-test.false c.of.ensures c.loop-poly.invariant

pub returns-clause-variables : goal.returns-clause-variables
returns-clause-variables c = outs_free c.args.v c.args.outs.now _ c.loop-poly.polys.items _ c.loop-poly.poly-index c.polys-poly-items.ensures c.of.ensures c.loop-poly.invariant

pub returns-clause-form : goal.returns-clause-form
returns-clause-form c = outs_form c.args.v _ c.loop-poly.polys.items _ c.loop-poly.poly-index c.of.ensures c.loop-poly.invariant
