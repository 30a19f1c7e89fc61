use Rattle.ps_overlap.proofs.FirstTerms.{TrueTo}
use Rattle.ps_overlap.proofs.points.true_in.Given as goal

abbrev pub invariant-loop-place : goal.invariant-loop-place
invariant-loop-place l = TrueTo l.mono l.place l.bits
