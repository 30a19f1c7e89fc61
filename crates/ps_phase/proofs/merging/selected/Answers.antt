use Rattle.std.proofs.Common.{inl, inr, ap, vec_items, ◌∙◌}
use Rattle.ps_phase.proofs.Scaling.{selected_more, selected_end, same_of, other_of}
use Rattle.ps_phase.proofs.merging.selected.Goals as goal
use Rattle.ps_phase.proofs.merging.selected.Goals.{then-contains-with+in_ok-push, else-contains-with}

pub loop-term-preserved : goal.loop-term-preserved
loop-term-preserved c = selected_more c.args.terms.now c.loop-term.out.items _ _ c.args.with c.args.v c.loop-term.term-index c.contains.result c.term-item.result c.loop-term-test.true c.term-item.is c.contains.ensures
    (elim c.if-contains-with.branch [ then-contains-with+in_ok-push w ↦ inl (same_of _ _ w.if-contains-with.true, ap vec_items w.out-is ∙ w.in_ok-push.ensures.items) | else-contains-with w ↦ inr (other_of _ _ w.if-contains-with.false, ap vec_items w.out-is) ])
    c.loop-term.invariant

pub returns : goal.returns
returns c = selected_end c.args.terms.now _ _ c.args.with c.args.v c.loop-term.term-index c.loop-term-test.false c.loop-term.invariant
