use Rattle.std.proofs.Common.{◌+◌, ◌∙◌, sym, refl, arith}
use Rattle.ps_rules.proofs.Deciding.{spoilt_none}
use Rattle.ps_rules.proofs.Earliest.{none_more}
use Rattle.ps_rules.proofs.finding.find.Goals as goal
use Rattle.ps_rules.proofs.finding.find.Goals.{then-not-get+in-None, else-not-get}

pub loop-y-preserved : goal.loop-y-preserved
loop-y-preserved c = elim c.if-not-get.branch [
  | then-not-get+in-None w ↦ (none_more c.args.sum.now 0 c.loop-y.y (c.loop-y.y + 1) refl c.loop-y.invariant.0 w.in-None.ensures, omega (arith, c.loop-y.invariant.1, c.if-tried-eq-FEW.false, w.tried-is))
  | else-not-get w ↦ (
    none_more c.args.sum.now 0 c.loop-y.y (c.loop-y.y + 1) refl c.loop-y.invariant.0
        (spoilt_none c.args.sum.now c.loop-y.y (c.spoilt-spoilt.ensures.spoilt (c.args.sum.now.n + c.loop-y.y) (sym c.get.ensures ∙ w.if-not-get.false))),
    omega (arith, c.loop-y.invariant.1, w.tried-is),
  )
]
