use Rattle.ps_overlap.proofs.Moved.{MovedTerms}
use Rattle.ps_overlap.proofs.moving.push_moved.Given as goal

abbrev pub invariant-loop-term : goal.invariant-loop-term
invariant-loop-term l = MovedTerms l.n l.by l.terms l.term-index l.fn.out.items l.out.items
