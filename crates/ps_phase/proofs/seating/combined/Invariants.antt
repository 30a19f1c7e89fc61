use Rattle.ps_phase.proofs.Seated.{Summing}
use Rattle.ps_phase.proofs.seating.combined.Given as goal

abbrev pub invariant-loop-i : goal.invariant-loop-i
invariant-loop-i l = Summing l.terms l.seats l.out.items l.run l.i l.i-end
