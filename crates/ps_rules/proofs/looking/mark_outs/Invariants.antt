use Rattle.std.proofs.Common.{take}
use Rattle.ps_sum.specs.Outs.{outs_occur}
use Rattle.ps_rules.specs.Sights.{IsFresh, EachSight}
use Rattle.ps_rules.proofs.looking.mark_outs.Given as goal

abbrev pub invariant-loop-poly : goal.invariant-loop-poly
invariant-loop-poly l = EachSight (λ v s. IsFresh (outs_occur v (take l.poly-index l.outs)) s) l.base l.sights
