use Rattle.std.proofs.Common.{inl, inr, ap, ◌∙◌}
use Rattle.std.specs.Vec.{vec_items}
use Rattle.ps_bool.proofs.Replacing.{kept_step, kept_end}
use Rattle.ps_bool.proofs.gather.without_variable.Goals as goal
use Rattle.ps_bool.proofs.gather.without_variable.Goals.{then-not-contains+in_ok-push, else-not-contains}

pub loop-mono-preserved : goal.loop-mono-preserved
loop-mono-preserved c = kept_step c.args.v _ _ _ c.loop-mono.mono-index c.mono-item.result c.contains.result c.loop-mono-test.true c.mono-item.is c.contains.ensures
    (elim c.if-not-contains.branch [ then-not-contains+in_ok-push w ↦ inl (w.if-not-contains.true, ap vec_items w.out-is ∙ w.in_ok-push.ensures.items) | else-not-contains w ↦ inr (w.if-not-contains.false, ap vec_items w.out-is) ]) c.loop-mono.invariant

pub returns : goal.returns
returns c = kept_end _ _ _ c.loop-mono.mono-index c.loop-mono-test.false c.loop-mono.invariant
