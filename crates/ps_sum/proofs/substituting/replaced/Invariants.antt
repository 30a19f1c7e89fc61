use Rattle.ps_sum.proofs.Substitutes.{Going}
use Rattle.ps_sum.proofs.substituting.replaced.Given as goal

abbrev pub invariant-loop-term : goal.invariant-loop-term
invariant-loop-term l = Going l.v l.by l.term-items l.term-index l.out.items l.last l.lifted
