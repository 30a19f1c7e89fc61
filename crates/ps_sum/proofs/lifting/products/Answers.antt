use Rattle.std.proofs.Common.{ap, ◌∙◌, ◌*◌, ◌%◌, vec_items}
use Rattle.std.proofs.lemmas.Result.{IfOk-weaker}
use Rattle.ps_sum.proofs.Lifts.{pushed_start, pushed_more, pushed_skip, pushed_value, pushed_free}
use Rattle.ps_sum.proofs.lifting.products.Goals as goal
use Rattle.ps_sum.proofs.lifting.products.Goals.{then-units-ne0+in_ok-push-2, else-units-ne0}

pub loop-term-init : goal.loop-term-init
loop-term-init c = pushed_start c.args.mono.now c.args.by c.args.terms.now _ _ c.in_ok-out.ensures.items c.in_ok-push.ensures.items

pub loop-term-preserved : goal.loop-term-preserved
loop-term-preserved c = elim c.if-units-ne0.branch [
  | then-units-ne0+in_ok-push-2 w ↦ pushed_more c.args.mono.now w.union.result c.args.by c.loop-term.term-index w.of.result c.args.terms.now c.loop-term.out.items _ c.term-item.result c.loop-term-test.true c.term-item.is
      w.union.ensures.members (w.of.ensures ∙ ap (λ u. (u * 4294967294) % 4294967296) c.units-units.ensures) (ap vec_items w.out-is ∙ w.in_ok-push-2.ensures.items) c.loop-term.invariant
  | else-units-ne0 w ↦ pushed_skip c.args.mono.now c.args.by c.loop-term.term-index _ c.args.terms.now c.loop-term.out.items _ c.term-item.result c.loop-term-test.true c.term-item.is
      (ap (λ u. (u * 4294967294) % 4294967296) c.units-units.ensures) w.if-units-ne0.false (ap vec_items w.out-is) c.loop-term.invariant
]

pub returns-clause-value : goal.returns-clause-value
returns-clause-value c = IfOk-weaker c.gather.result _ _ (λ p e. pushed_value c.args.mono.now c.args.by c.loop-term.term-index c.args.terms.now c.loop-term.out.items p c.loop-term-test.false c.loop-term.invariant e) c.gather.ensures.value

pub returns-clause-variables : goal.returns-clause-variables
returns-clause-variables c = IfOk-weaker c.gather.result _ _ (λ p e. pushed_free c.args.mono.now c.args.by c.loop-term.term-index c.args.terms.now c.loop-term.out.items p c.loop-term.invariant e) c.gather.ensures.variables
