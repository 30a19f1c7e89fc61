use Rattle.ps_phase.proofs.Runs.{Runs}
use Rattle.ps_phase.proofs.gathering.combine.Given as goal

abbrev pub invariant-loop-i : goal.invariant-loop-i
invariant-loop-i l = Runs l.initial.terms.items l.terms.items l.kept l.i l.i-end l.run
