use Rattle.std.proofs.Common.{ap, ◌∙◌, inl, inr, arith, get_or}
use Rattle.std.proofs.lemmas.List.{get_or_default}
use Rattle.std.specs.Vec.{vec_items}
use Rattle.ps_probe.proofs.Counting.{sided_start, sided_next}
use Rattle.ps_probe.proofs.balancing.split_sides.Goals as goal
use Rattle.ps_probe.proofs.balancing.split_sides.Goals.{then-phase-lt-HALF+in_ok-push, else-phase-lt-HALF+in_ok-push-2}

pub loop-phase-init : goal.loop-phase-init
loop-phase-init c = sided_start c.args.phases.now _ _ c.new-front.ensures.items c.new-back.ensures.items

pub loop-phase-preserved : goal.loop-phase-preserved
loop-phase-preserved c = sided_next c.args.phases.now c.loop-phase.front.items c.loop-phase.back.items _ _ c.loop-phase.phase-index (get_or c.args.phases.now c.loop-phase.phase-index 0) 0 c.loop-phase-test.true (get_or_default c.args.phases.now c.loop-phase.phase-index 0 _ c.loop-phase-test.true) (let k = c.type_inv.phases c.loop-phase.phase-index in omega (arith, k))
    (elim c.if-phase-lt-HALF.branch [ then-phase-lt-HALF+in_ok-push w ↦ inl (w.if-phase-lt-HALF.true, (ap vec_items w.front-is ∙ w.in_ok-push.ensures.items, ap vec_items w.back-is)) | else-phase-lt-HALF+in_ok-push-2 w ↦ inr (w.if-phase-lt-HALF.false, (ap vec_items w.back-is ∙ w.in_ok-push-2.ensures.items, ap vec_items w.front-is)) ]) c.loop-phase.invariant
