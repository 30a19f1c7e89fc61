use Rattle.std.proofs.Common.{◌≡◌, drop}
use Rattle.ps_sum.specs.Outs.{outs_occur}
use Rattle.ps_rules.proofs.checking.is_spoken.Given as goal

abbrev pub invariant-loop-poly : goal.invariant-loop-poly
invariant-loop-poly l = outs_occur l.v l.outs ≡ outs_occur l.v (drop l.poly-index l.outs)
