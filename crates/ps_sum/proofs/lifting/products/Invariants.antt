use Rattle.ps_sum.proofs.Lifts.{Pushed}
use Rattle.ps_sum.proofs.lifting.products.Given as goal

abbrev pub invariant-loop-term : goal.invariant-loop-term
invariant-loop-term l = Pushed l.mono l.fn.by l.terms l.term-index l.out.items
