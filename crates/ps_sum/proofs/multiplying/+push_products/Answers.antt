use Rattle.std.proofs.Common.{◌∙◌, ap, sym, refl}
use Rattle.ps_sum.proofs.Multiplies.{pushing_start, pushing_more, pushing_end, pushed_base, pushed_base_free}
use Rattle.ps_sum.proofs.multiplying.+push_products.Goals as goal

pub returns-then-size-eq0-clause-value : goal.returns-then-size-eq0-clause-value
returns-then-size-eq0-clause-value t c = pushed_base c.args.base.now c.args.monos.now c.args.size c.args.phase c.args.out.now.items _ c.if-size-eq0.true c.in_ok-push.ensures.items

pub returns-then-size-eq0-clause-variables : goal.returns-then-size-eq0-clause-variables
returns-then-size-eq0-clause-variables t c v s o q = pushed_base_free c.args.base.now c.args.phase c.args.out.now.items _ c.in_ok-push.ensures.items v s q

pub loop-mono-init : goal.loop-mono-init
loop-mono-init t c = pushing_start c.args.base.now c.args.monos.now _ c.args.size c.args.phase c.args.out.now.items refl

pub loop-mono-preserved : goal.loop-mono-preserved
loop-mono-preserved t c = pushing_more c.args.base.now c.in-Some.mono.now c.union.result c.args.monos.now c.loop-mono.rest.now c.in-Some.others.now c.in-Some.others.now c.args.size c.args.phase c.args.out.now.items c.loop-mono.out.items _
    c.if-size-eq0.false c.in-Some.ensures.cases.0 refl c.union.ensures.members c.in_ok-push_products.ensures.value c.in_ok-push_products.ensures.variables c.loop-mono.invariant

pub returns-clause-value : goal.returns-clause-value
returns-clause-value t c = pushing_end c.args.base.now c.args.monos.now c.loop-mono.rest.now c.args.size c.args.phase c.args.out.now.items c.loop-mono.out.items c.if-size-eq0.false c.in_default.ensures.cases c.loop-mono.invariant

pub returns-clause-variables : goal.returns-clause-variables
returns-clause-variables t c v s o q = (c.loop-mono.invariant.free v s o q).0
