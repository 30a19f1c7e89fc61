use Rattle.ps_sum.proofs.Closings.{ClosedOuts}
use Rattle.ps_sum.proofs.renaming.closed_outs.Given as goal

abbrev pub invariant-loop-poly : goal.invariant-loop-poly
invariant-loop-poly l = ClosedOuts l.v l.poly-items l.poly-index l.polys.items
