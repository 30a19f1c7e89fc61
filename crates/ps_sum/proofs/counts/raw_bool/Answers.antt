use Rattle.std.proofs.Common.{inl, inr, ap, ◌∙◌, length, min}
use Rattle.ps_sum.proofs.Counting.{start_bool, bool_more, bool_end}
use Rattle.ps_sum.proofs.counts.raw_bool.Goals as goal
use Rattle.ps_sum.proofs.counts.raw_bool.Goals.{then-contains, else-contains}

pub loop-mono-init : goal.loop-mono-init
loop-mono-init c = start_bool c.args.v (length c.args.by.now) c.monos-mono-items.result.now

pub loop-mono-preserved : goal.loop-mono-preserved
loop-mono-preserved c = bool_more c.args.v (length c.args.by.now) c.loop-mono.mono-index c.loop-mono.total c.if-contains.more _ _ c.mono-item.result c.contains.result c.loop-mono-test.true c.mono-item.is c.contains.ensures
    (elim c.if-contains.branch [ then-contains w ↦ inl (w.if-contains.true, w.more-is ∙ c.min-t.ensures ∙ ap (λ n. min n 1000000000000) c.count.ensures) | else-contains w ↦ inr (w.if-contains.false, w.more-is) ])
    c.min-total.ensures c.loop-mono.invariant

pub returns : goal.returns
returns c = bool_end c.args.v (length c.args.by.now) c.loop-mono.mono-index c.loop-mono.total _ _ c.monos-mono-items.ensures.items c.loop-mono-test.false c.loop-mono.invariant
