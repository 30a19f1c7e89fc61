use Rattle.std.proofs.Common.{ap, ◌∙◌}
use Rattle.ps_mono.specs.Sets.{stands}
use Rattle.ps_rules.proofs.Gathers.{terms_spoil, terms_keep, spoilt_early}
use Rattle.ps_rules.proofs.spoiling.spoilt.Goals as goal
use Rattle.ps_rules.proofs.spoiling.spoilt.Goals.{then-spoils, else-spoils}

pub loop-term-preserved : goal.loop-term-preserved
loop-term-preserved c = elim c.if-spoils.branch [
  | then-spoils w ↦ terms_spoil c.args.sum.now.outs c.terms-term-items.result.now c.loop-term.term-index c.term-item.result c.loop-term.out c.if-spoils.out c.loop-term-test.true c.term-item.is
      (λ v. ap (stands v) w.out-is ∙ w.add.ensures.values v) (c.spoils.ensures w.if-spoils.true) c.loop-term.invariant
  | else-spoils w ↦ terms_keep c.args.sum.now.outs c.terms-term-items.result.now c.loop-term.term-index c.term-item.result c.loop-term.out c.if-spoils.out c.loop-term-test.true c.term-item.is w.out-is c.loop-term.invariant
]

pub returns-then-y-sum-clause-spoilt : goal.returns-then-y-sum-clause-spoilt
returns-then-y-sum-clause-spoilt c v s = spoilt_early v c.args.sum.now.outs c.args.sum.now.phase c.terms-term-items.result.now c.loop-term.term-index c.terms-term-items.ensures.value (c.loop-term.invariant.spoilt v s)
