use Rattle.std.proofs.Common.{inl, inr}
use Rattle.ps_probe.proofs.Marks.{free_start, free_next}
use Rattle.ps_probe.proofs.pattern.Pattern.free.Goals as goal
use Rattle.ps_probe.proofs.pattern.Pattern.free.Goals.{then-not-is_fixed, else-not-is_fixed}

pub loop-i-init : goal.loop-i-init
loop-i-init c = free_start c.args.self.now

pub loop-i-preserved : goal.loop-i-preserved
loop-i-preserved c = free_next c.args.self.now c.loop-i.i c.loop-i.free c.if-not-is_fixed.free c.is_fixed.result c.is_fixed.ensures
    (elim c.if-not-is_fixed.branch [ then-not-is_fixed w ↦ inl (w.if-not-is_fixed.true, w.free-is) | else-not-is_fixed w ↦ inr (w.if-not-is_fixed.false, w.free-is) ]) c.loop-i.invariant
