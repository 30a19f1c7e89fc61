use Rattle.std.proofs.Common.{◌≡◌, ◌+◌, take, min, length}
use Rattle.ps_sum.specs.Outs.{monomials}
use Rattle.ps_sum.proofs.sums.PathSum.size.Given as goal

abbrev pub invariant-loop-poly : goal.invariant-loop-poly
invariant-loop-poly l = l.total ≡ min (length l.self.phase + monomials (take l.poly-index l.poly-items)) 1000000000000
