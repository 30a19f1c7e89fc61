use Rattle.std.proofs.Common.{refl}
use Rattle.ps_sum.proofs.Lifts.{lifted_start, lifted_more, lifted_value, lifted_free}
use Rattle.ps_sum.proofs.lifting.stepwise.Goals as goal

pub loop-mono-init : goal.loop-mono-init
loop-mono-init c = lifted_start _ c.args.by _ c.zero-sum.ensures

pub loop-mono-preserved : goal.loop-mono-preserved
loop-mono-preserved c = lifted_more _ c.args.by c.loop-mono.mono-index c.mono-item.result c.loop-mono.sum c.terms.result.now c.in_ok-more.more _ c.loop-mono-test.true c.mono-item.is c.terms.ensures.value
    c.in_ok-more.ensures.value c.in_ok-more.ensures.variables c.in_ok-add_to.ensures.value c.in_ok-add_to.ensures.variables c.add_to.ensures.form c.loop-mono.invariant

pub returns-clause-value : goal.returns-clause-value
returns-clause-value c = lifted_value c.args.monos.now _ c.args.by c.loop-mono.mono-index c.loop-mono.sum refl c.loop-mono-test.false c.loop-mono.invariant

pub returns-clause-variables : goal.returns-clause-variables
returns-clause-variables c = lifted_free c.args.monos.now _ c.args.by c.loop-mono.mono-index c.loop-mono.sum refl c.loop-mono.invariant

pub returns-clause-form : goal.returns-clause-form
returns-clause-form c = c.loop-mono.invariant.form
