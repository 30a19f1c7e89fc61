use Rattle.std.proofs.Common.{inl, inr, ap, ◌∙◌}
use Rattle.ps_mono.specs.Sets.{stands}
use Rattle.ps_overlap.proofs.Halves.{looked_start, looked_more, looked_end}
use Rattle.ps_overlap.proofs.looking.looked.Goals as goal
use Rattle.ps_overlap.proofs.looking.looked.Goals.{then-is_half_at_inputs, else-is_half_at_inputs}

pub loop-term-init : goal.loop-term-init
loop-term-init c = looked_start c.args.n c.one-halves.result c.one-others.result c.one-halves.ensures c.one-others.ensures

pub loop-term-preserved : goal.loop-term-preserved
loop-term-preserved c = looked_more c.args.n c.args.terms.now c.loop-term.halves c.loop-term.others _ _ c.loop-term.term-index c.term-item.result c.is_half_at_inputs.result c.loop-term-test.true c.term-item.is c.is_half_at_inputs.ensures
    (elim c.if-is_half_at_inputs.branch [ then-is_half_at_inputs w ↦ inl (w.if-is_half_at_inputs.true, (λ v. ap (stands v) w.halves-is ∙ w.union-halves.ensures.members v), w.others-is) | else-is_half_at_inputs w ↦ inr (w.if-is_half_at_inputs.false, (λ v. ap (stands v) w.others-is ∙ w.union-others.ensures.members v), w.halves-is) ]) c.loop-term.invariant

pub returns : goal.returns
returns c = looked_end c.args.n c.args.terms.now c.loop-term.halves c.loop-term.others c.loop-term.term-index c.loop-term-test.false c.loop-term.invariant
