use Rattle.std.proofs.Common.{inl, inr, ap, ◌∙◌, length, min}
use Rattle.ps_sum.specs.Counts.{raw_term}
use Rattle.ps_sum.proofs.Counting.{start_phase, phase_more, phase_end}
use Rattle.ps_sum.proofs.counts.raw_phase.Goals as goal
use Rattle.ps_sum.proofs.counts.raw_phase.Goals.{then-contains, else-contains}

pub loop-term-init : goal.loop-term-init
loop-term-init c = start_phase c.args.v (length c.args.by.now) c.terms-term-items.result.now

pub loop-term-preserved : goal.loop-term-preserved
loop-term-preserved c = phase_more c.args.v (length c.args.by.now) c.loop-term.term-index c.loop-term.total c.if-contains.more _ _ c.term-item.result c.contains.result c.loop-term-test.true c.term-item.is c.contains.ensures
    (elim c.if-contains.branch [ then-contains w ↦ inl (w.if-contains.true, w.more-is ∙ w.raw_term-more.ensures ∙ ap (λ n. min (raw_term c.term-item.result.phase n) 1000000000000) c.count-t.ensures) | else-contains w ↦ inr (w.if-contains.false, w.more-is) ])
    c.min-total.ensures c.loop-term.invariant

pub returns : goal.returns
returns c = phase_end c.args.v (length c.args.by.now) c.loop-term.term-index c.loop-term.total _ _ c.terms-term-items.ensures.value c.loop-term-test.false c.loop-term.invariant
