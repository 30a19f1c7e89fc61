use Rattle.std.proofs.Common.{ap, sym, ◌∙◌, vec_items}
use Rattle.ps_rules.proofs.Parting.{parting_start, parting_other, parting_product, parting_into, parting_left, parting_end, left_end}
use Rattle.ps_rules.proofs.Quotients.{dividing_end}
use Rattle.ps_rules.proofs.dividing.parted.Goals as goal
use Rattle.ps_rules.proofs.dividing.parted.Goals.{then-contains+then-not-eq+in_ok-push, then-contains+else-not-eq, else-contains+then-contains-2+in_ok-push-2, else-contains+else-contains-2}

pub loop-term-init : goal.loop-term-init
loop-term-init c = parting_start c.args.v0 c.args.v1 c.args.product.now c.args.terms.now c.new-monos.result.items c.new-into.result.items c.new-monos.ensures.items c.new-into.ensures.items

pub loop-term-preserved : goal.loop-term-preserved
loop-term-preserved c = elim c.if-contains.branch [
  | then-contains+then-not-eq+in_ok-push w ↦ parting_other c.args.v0 c.args.v1 c.args.product.now c.args.terms.now c.loop-term.term-index c.term-item.result w.removed.result c.loop-term.monos.items c.if-contains.monos.items c.loop-term.into.items c.if-contains.into.items c.loop-term.left c.if-contains.left
      c.loop-term-test.true c.term-item.is (sym c.contains.ensures ∙ w.if-contains.true) (sym w.eq.ensures ∙ w.if-not-eq.true) w.removed.ensures.members (ap vec_items w.monos-is ∙ w.in_ok-push.ensures.items) (ap vec_items w.into-is) w.left-is c.loop-term.invariant
  | then-contains+else-not-eq w ↦ parting_product c.args.v0 c.args.v1 c.args.product.now c.args.terms.now c.loop-term.term-index c.term-item.result c.loop-term.monos.items c.if-contains.monos.items c.loop-term.into.items c.if-contains.into.items c.loop-term.left c.if-contains.left
      c.loop-term-test.true c.term-item.is (sym c.contains.ensures ∙ w.if-contains.true) (sym w.eq.ensures ∙ w.if-not-eq.false) (ap vec_items w.monos-is) (ap vec_items w.into-is) w.left-is c.loop-term.invariant
  | else-contains+then-contains-2+in_ok-push-2 w ↦ parting_into c.args.v0 c.args.v1 c.args.product.now c.args.terms.now c.loop-term.term-index c.term-item.result c.loop-term.monos.items c.if-contains.monos.items c.loop-term.into.items c.if-contains.into.items c.loop-term.left c.if-contains.left
      c.loop-term-test.true c.term-item.is (sym c.contains.ensures ∙ w.if-contains.false) (sym w.contains-else-contains.ensures ∙ w.if-contains-2.true) (ap vec_items w.monos-is) (ap vec_items w.into-is ∙ w.in_ok-push-2.ensures.items) w.left-is c.loop-term.invariant
  | else-contains+else-contains-2 w ↦ parting_left c.args.v0 c.args.v1 c.args.product.now c.args.terms.now c.loop-term.term-index c.term-item.result c.loop-term.monos.items c.if-contains.monos.items c.loop-term.into.items c.if-contains.into.items c.loop-term.left c.if-contains.left
      c.loop-term-test.true c.term-item.is (sym c.contains.ensures ∙ w.if-contains.false) (sym w.contains-else-contains.ensures ∙ w.if-contains-2.false) (ap vec_items w.monos-is) (ap vec_items w.into-is) w.left-is c.loop-term.invariant
]

pub returns : goal.returns
returns c = record {
  value = dividing_end c.args.v0 c.args.product.now c.args.terms.now c.loop-term.term-index c.loop-term.monos.items c.loop-term-test.false c.loop-term.invariant.dividing;
  known = c.loop-term.invariant.dividing.known;
  free = c.loop-term.invariant.dividing.free;
  into = parting_end c.args.v0 c.args.v1 c.args.terms.now c.loop-term.term-index c.loop-term.into.items c.loop-term-test.false c.loop-term.invariant.into;
  left = left_end c.args.v0 c.args.v1 c.args.terms.now c.loop-term.term-index c.loop-term.left c.loop-term-test.false c.loop-term.invariant.left;
}
