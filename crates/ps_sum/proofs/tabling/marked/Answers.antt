use Rattle.std.proofs.Common.{◌∙◌, arith, length}
use Rattle.ps_sum.proofs.TableWorths.{marked_start, marked_next, marked_end, zeros_start, zeros_more, size_is}
use Rattle.ps_sum.proofs.tabling.marked.Goals as goal

pub loop-mono-init : goal.loop-mono-init
loop-mono-init c =
    let s = size_is (length c.args.names.now) c.requires.few in
    let i = c.loop-filled.invariant.0 in
    marked_start c.args.names.now c.args.monos.now c.loop-filled.table.items (omega (arith, s, i, c.loop-filled-test.false, c.loop-filled.auto.filled-end)) c.loop-filled.invariant.1

pub loop-mono-preserved : goal.loop-mono-preserved
loop-mono-preserved c = marked_next c.args.names.now c.args.monos.now c.loop-mono.mono-index c.place_in-place.result c.index.result.now c.mono-item.result c.loop-mono.table.items c.loop-mono-test.true c.mono-item.is c.requires.covered c.requires.few
    c.place_in-place.ensures.value c.place_in-place.ensures.inside c.index.ensures c.loop-mono.invariant
