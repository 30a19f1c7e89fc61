use Rattle.std.proofs.Common.{inl, inr, subst, ℕ, ◌<◌}
use Rattle.ps_sum.proofs.Closings.{closed_start, closed_more, name_is}
use Rattle.ps_sum.proofs.renaming.closed_mono.Goals as goal
use Rattle.ps_sum.proofs.renaming.closed_mono.Goals.{then-u-v, else-u-v}

pub loop-place-init : goal.loop-place-init
loop-place-init c = closed_start c.args.mono.now _ c.args.v c.one-out.ensures

pub loop-place-preserved : goal.loop-place-preserved
loop-place-preserved c = closed_more c.args.mono.now c.loop-place.out _ c.var.result c.args.v c.loop-place.place c.var_at-u.result c.if-u-v.name (subst (λ (n : ℕ). c.loop-place.place < n) c.degree-place-end.ensures c.loop-place-test.true) c.var_at-u.ensures.value c.requires.free
    (name_is c.args.v c.var_at-u.result c.if-u-v.name (elim c.if-u-v.branch [ then-u-v w ↦ inl (w.if-u-v.true, w.name-is) | else-u-v w ↦ inr (w.if-u-v.false, w.name-is) ]))
    c.var.ensures c.union-out.ensures.members c.loop-place.invariant
