use Rattle.ps_sum.proofs.Multiplies.{Multiplying}
use Rattle.ps_sum.proofs.multiplying.multiplied.Given as goal

abbrev pub invariant-loop-size : goal.invariant-loop-size
invariant-loop-size l = Multiplying l.monos l.fn.by l.size l.units l.out.items
