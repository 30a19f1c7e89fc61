use Rattle.ps_overlap.proofs.Moved.{Negated}
use Rattle.ps_overlap.proofs.moving.push_negated.Given as goal

abbrev pub invariant-loop-term : goal.invariant-loop-term
invariant-loop-term l = Negated l.terms l.term-index l.fn.out.items l.out.items
