use Rattle.std.proofs.Common.{ap, ◌∙◌, vec_items}
use Rattle.ps_rules.proofs.Quotients.{dividing_start, dividing_more, dividing_skip, dividing_end}
use Rattle.ps_rules.proofs.dividing.others_of.Goals as goal
use Rattle.ps_rules.proofs.dividing.others_of.Goals.{then-is_other+in_ok-push, else-is_other}

pub loop-term-init : goal.loop-term-init
loop-term-init c = dividing_start c.args.v c.args.mono.now c.args.terms.now c.new-out.result.items c.new-out.ensures.items

pub loop-term-preserved : goal.loop-term-preserved
loop-term-preserved c = elim c.if-is_other.branch [
  | then-is_other+in_ok-push w ↦ dividing_more c.args.v c.args.mono.now c.args.terms.now c.loop-term.term-index c.term-item.result w.removed.result c.is_other.result c.loop-term.out.items c.if-is_other.out.items
      c.loop-term-test.true c.term-item.is c.is_other.ensures w.if-is_other.true w.removed.ensures.members (ap vec_items w.out-is ∙ w.in_ok-push.ensures.items) c.loop-term.invariant
  | else-is_other w ↦ dividing_skip c.args.v c.args.mono.now c.args.terms.now c.loop-term.term-index c.term-item.result c.is_other.result c.loop-term.out.items c.if-is_other.out.items
      c.loop-term-test.true c.term-item.is c.is_other.ensures w.if-is_other.false (ap vec_items w.out-is) c.loop-term.invariant
]

pub returns-clause-value : goal.returns-clause-value
returns-clause-value c = dividing_end c.args.v c.args.mono.now c.args.terms.now c.loop-term.term-index c.loop-term.out.items c.loop-term-test.false c.loop-term.invariant

pub returns-clause-variables : goal.returns-clause-variables
returns-clause-variables c = c.loop-term.invariant.known

pub returns-clause-free : goal.returns-clause-free
returns-clause-free c = c.loop-term.invariant.free
