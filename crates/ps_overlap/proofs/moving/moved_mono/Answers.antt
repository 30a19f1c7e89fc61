use Rattle.std.proofs.Common.{inl, inr, arith}
use Rattle.ps_overlap.proofs.Moved.{moved_start, moved_more, moved_value, name_is, name_small}
use Rattle.ps_overlap.proofs.moving.moved_mono.Goals as goal
use Rattle.ps_overlap.proofs.moving.moved_mono.Goals.{then-v-n, else-v-n}

pub var-requires : goal.var-requires
var-requires c = name_small c.args.n c.args.by c.var_at-v.result _ c.loop-place.place c.args.mono.now (omega arith) c.var_at-v.ensures.value c.var_at-v.ensures.small c.requires.small
    (elim c.if-v-n.branch [ then-v-n w ↦ inl (w.if-v-n.true, w.name-is) | else-v-n w ↦ inr (w.if-v-n.false, w.name-is) ])

pub loop-place-init : goal.loop-place-init
loop-place-init c = moved_start c.args.n c.args.by c.args.mono.now c.one-out.result c.one-out.ensures

pub loop-place-preserved : goal.loop-place-preserved
loop-place-preserved c = moved_more c.args.n c.args.by c.args.mono.now c.loop-place.out c.union-out.result c.var.result c.loop-place.place c.var_at-v.result _ (omega arith) c.var_at-v.ensures.value
    (name_is c.args.n c.args.by c.var_at-v.result _ (elim c.if-v-n.branch [ then-v-n w ↦ inl (w.if-v-n.true, w.name-is) | else-v-n w ↦ inr (w.if-v-n.false, w.name-is) ])) c.var.ensures c.union-out.ensures.members c.loop-place.invariant

pub returns-clause-value : goal.returns-clause-value
returns-clause-value c = moved_value c.args.n c.args.by c.args.mono.now c.loop-place.out c.loop-place.place c.degree-place-end.result c.degree-place-end.ensures c.loop-place-test.false c.loop-place.invariant

pub returns-clause-variables : goal.returns-clause-variables
returns-clause-variables c = c.loop-place.invariant.free
