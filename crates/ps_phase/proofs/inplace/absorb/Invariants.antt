use Rattle.ps_phase.proofs.Absorbing.{Absorbing}
use Rattle.ps_phase.proofs.inplace.absorb.Given as goal

abbrev pub invariant-loop-other : goal.invariant-loop-other
invariant-loop-other l = Absorbing l.fn.terms.items l.others l.other-index l.terms.items
