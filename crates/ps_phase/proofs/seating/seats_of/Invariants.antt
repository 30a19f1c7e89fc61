use Rattle.ps_phase.proofs.Seated.{Seating}
use Rattle.ps_phase.proofs.seating.seats_of.Given as goal

abbrev pub invariant-loop-place : goal.invariant-loop-place
invariant-loop-place l = Seating l.terms l.seats.items l.place
