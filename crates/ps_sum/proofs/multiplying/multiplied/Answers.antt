use Rattle.ps_mono.specs.Sets.{holds}
use Rattle.ps_mono.specs.Truth.{times}
use Rattle.ps_phase.specs.Phases.{phase_value}
use Rattle.ps_sum.specs.Counts.{binomial}
use Rattle.ps_sum.specs.Tables.{true_count}
use Rattle.std.proofs.Common.{◌∙◌, ◌+◌, ◌*◌, ◌%◌, ap, sym, refl, inl, inr, arith}
use Rattle.std.proofs.lemmas.Result.{IfOk-weaker}
use Rattle.ps_sum.proofs.Multiplies.{multiplying_start, multiplying_more, multiplying_end, multiplying_free}
use Rattle.ps_sum.proofs.multiplying.multiplied.Goals as goal
use Rattle.ps_sum.proofs.multiplying.multiplied.Goals.{else-loop-size-test, then-loop-size-test+then-units-eq0}

pub loop-size-init : goal.loop-size-init
loop-size-init c = multiplying_start c.args.monos.now c.args.by c.units-units.result c.in_ok-out.out.items (omega (arith, c.units-units.ensures, c.units-units.type_inv)) c.units-units.ensures c.in_ok-out.ensures.items

pub loop-size-preserved : goal.loop-size-preserved
loop-size-preserved c = multiplying_more c.args.monos.now c.one-one.result c.args.by c.loop-size.size c.loop-size.units _ c.loop-size.out.items c.push_products.new.out.items c.loop-size.auto.size c.one-one.ensures refl
    (λ a. c.in_ok-push_products.ensures.value a ∙ ap (λ n. phase_value c.loop-size.out.items a + times (holds c.one-one.result a) (binomial (true_count c.args.monos.now a) c.loop-size.size * n)) c.of.ensures) c.in_ok-push_products.ensures.variables c.loop-size.invariant

pub returns-clause-value : goal.returns-clause-value
returns-clause-value c = IfOk-weaker c.gather.result _ _ (λ p e. multiplying_end c.args.monos.now c.args.by c.loop-size.size c.loop-size.units c.loop-size.out.items p c.loop-size.auto.size
    (elim c.loop-size-test.branch [ else-loop-size-test w ↦ inr (omega (arith, w.loop-size-test.false)) | then-loop-size-test+then-units-eq0 w ↦ inl w.if-units-eq0.true ]) e c.loop-size.invariant) c.gather.ensures.value

pub returns-clause-variables : goal.returns-clause-variables
returns-clause-variables c = IfOk-weaker c.gather.result _ _ (λ p e. multiplying_free c.args.monos.now c.args.by c.loop-size.size c.loop-size.units c.loop-size.out.items p e c.loop-size.invariant) c.gather.ensures.variables
