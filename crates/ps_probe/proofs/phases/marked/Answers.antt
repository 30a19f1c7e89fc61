use Rattle.std.proofs.Common.{arith, length, inl, inr, ap, refl}
use Rattle.ps_probe.proofs.Tables.{filled_start, filled_next, sixteen}
use Rattle.std.specs.Vec.{vec_items}
use Rattle.ps_probe.proofs.phases.marked.Goals as goal
use Rattle.ps_probe.proofs.phases.marked.Goals.{then-holds, else-holds}

pub loop-term-init : goal.loop-term-init
loop-term-init c =
    let s = sixteen (length c.args.names.now) c.requires.few in
    let i = c.loop-filled.invariant.0 in
    filled_start c.args.names.now c.args.all.now c.args.terms.now c.loop-filled.table.items (omega (arith, s, i, c.loop-filled-test.false, c.loop-filled.auto.filled-end)) c.loop-filled.invariant.1

pub loop-term-preserved : goal.loop-term-preserved
loop-term-preserved c = elim c.if-holds.branch [
  | then-holds w ↦ filled_next c.args.names.now c.args.all.now c.args.terms.now c.loop-term.term-index c.term-item.result c.loop-term.table.items c.if-holds.table.items w.place_in-place.result _ w.units.result _ c.holds.result c.loop-term-test.true c.term-item.is c.requires.covered c.holds.ensures c.requires.few refl
      (inl (w.if-holds.true, (w.place_in-place.ensures.value, (w.place_in-place.ensures.inside, (w.index.ensures, (w.units.ensures, ap vec_items w.table-is)))))) c.loop-term.invariant
  | else-holds w ↦ filled_next c.args.names.now c.args.all.now c.args.terms.now c.loop-term.term-index c.term-item.result c.loop-term.table.items c.if-holds.table.items 0 0 0 _ c.holds.result c.loop-term-test.true c.term-item.is c.requires.covered c.holds.ensures c.requires.few refl
      (inr (w.if-holds.false, ap vec_items w.table-is)) c.loop-term.invariant
]
