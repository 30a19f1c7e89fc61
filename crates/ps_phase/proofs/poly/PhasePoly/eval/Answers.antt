use Rattle.std.proofs.Common.{inl, inr, ◌∙◌}
use Rattle.ps_phase.proofs.Values.{phase_start, phase_skip}
use Rattle.ps_phase.proofs.poly.PhasePoly.eval.Goals as goal
use Rattle.ps_phase.proofs.poly.PhasePoly.eval.Goals.{then-holds, else-holds}

pub loop-term-init : goal.loop-term-init
loop-term-init c = phase_start c.deref-term-items.result.now _ _ c.of-sum.ensures

pub loop-term-preserved : goal.loop-term-preserved
loop-term-preserved c = phase_skip _ c.loop-term.term-index c.loop-term.sum _ c.term-item.result _ c.holds.result c.loop-term-test.true c.term-item.is c.holds.ensures
    (elim c.if-holds.branch [ then-holds w ↦ inl (w.if-holds.true, w.sum-is ∙ w.add-sum.ensures) | else-holds w ↦ inr (w.if-holds.false, w.sum-is) ]) c.loop-term.invariant
