use Rattle.ps_sum.proofs.Closings.{ClosedMonos}
use Rattle.ps_sum.proofs.renaming.closed_bool.Given as goal

abbrev pub invariant-loop-mono : goal.invariant-loop-mono
invariant-loop-mono l = ClosedMonos l.v l.mono-items l.mono-index l.monos.items
