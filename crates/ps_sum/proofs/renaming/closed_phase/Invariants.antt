use Rattle.ps_sum.proofs.Closings.{ClosedTerms}
use Rattle.ps_sum.proofs.renaming.closed_phase.Given as goal

abbrev pub invariant-loop-term : goal.invariant-loop-term
invariant-loop-term l = ClosedTerms l.v l.term-items l.term-index l.terms.items
