use Rattle.std.proofs.Common.{ap, sym, ◌∙◌, vec_items}
use Rattle.ps_sum.proofs.Substitutes.{going_start, going_with, going_without, replacing_value, replacing_free}
use Rattle.ps_sum.proofs.substituting.replaced.Goals as goal
use Rattle.ps_sum.proofs.substituting.replaced.Goals.{then-contains+in_ok-lifted+in_ok-push_multiples+in_ok-out, else-contains}

pub loop-term-init : goal.loop-term-init
loop-term-init c = going_start c.args.v c.args.by.now _ _ _ _ c.new-out.ensures.items c.of-last.ensures c.zero-lifted.ensures

pub loop-term-preserved : goal.loop-term-preserved
loop-term-preserved c = elim c.if-contains.branch [
  | then-contains+in_ok-lifted+in_ok-push_multiples+in_ok-out w ↦ going_with c.args.v c.args.by.now c.terms-term-items.result.now c.loop-term.out.items w.in_ok-lifted.lifted w.terms.result.now w.push_multiples.new.out.items w.in_ok-out.out.items _ c.loop-term.term-index c.term-item.result w.removed.result c.loop-term.last _ c.loop-term.lifted _
      c.loop-term-test.true c.term-item.is (sym c.contains.ensures ∙ w.if-contains.true) w.removed.ensures.members w.in_ok-lifted.ensures.value w.in_ok-lifted.ensures.variables w.terms.ensures.value w.in_ok-push_multiples.ensures.value w.in_ok-push_multiples.ensures.variables
      w.in_ok-out.ensures.value w.in_ok-out.ensures.variables (ap vec_items w.out-is) w.last-is w.lifted-is c.loop-term.invariant
  | else-contains w ↦ going_without c.args.v c.args.by.now c.terms-term-items.result.now c.loop-term.out.items _ c.loop-term.term-index c.term-item.result c.loop-term.last _ c.loop-term.lifted _
      c.loop-term-test.true c.term-item.is (sym c.contains.ensures ∙ w.if-contains.false) (ap vec_items w.out-is) w.last-is w.lifted-is c.loop-term.invariant
]

pub returns-clause-value : goal.returns-clause-value
returns-clause-value c = replacing_value c.args.v c.args.by.now _ _ c.loop-term.out.items c.loop-term.term-index c.terms-term-items.ensures.value c.loop-term-test.false c.loop-term.invariant.done

pub returns-clause-variables : goal.returns-clause-variables
returns-clause-variables c = replacing_free c.args.v c.args.by.now _ _ c.loop-term.out.items c.loop-term.term-index c.terms-term-items.ensures.value c.loop-term.invariant.done
