use Rattle.std.proofs.Common.{inl, inr}
use Rattle.ps_bool.proofs.Values.{odd_start, odd_next, odd_end}
use Rattle.ps_bool.proofs.poly.BoolPoly.eval.Goals as goal
use Rattle.ps_bool.proofs.poly.BoolPoly.eval.Goals.{then-holds, else-holds}

pub loop-mono-init : goal.loop-mono-init
loop-mono-init c = odd_start _ _

pub loop-mono-preserved : goal.loop-mono-preserved
loop-mono-preserved c = odd_next _ _ _ c.mono-item.result c.loop-mono.odd c.holds.result c.if-holds.odd c.loop-mono-test.true c.mono-item.is c.holds.ensures
    (elim c.if-holds.branch [ then-holds w ↦ inl (w.if-holds.true, w.odd-is) | else-holds w ↦ inr (w.if-holds.false, w.odd-is) ]) c.loop-mono.invariant

pub returns : goal.returns
returns c = rw (← c.self.view_is, ← c.deref-mono-items.ensures.value) (odd_end _ c.loop-mono.mono-index _ c.loop-mono.odd c.loop-mono-test.false c.loop-mono.invariant)
