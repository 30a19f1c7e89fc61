use Rattle.ps_sum.proofs.Lifts.{Lifted}
use Rattle.ps_sum.proofs.lifting.stepwise.Given as goal

abbrev pub invariant-loop-mono : goal.invariant-loop-mono
invariant-loop-mono l = Lifted l.monos l.by l.mono-index l.sum
