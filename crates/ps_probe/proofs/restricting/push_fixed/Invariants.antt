use Rattle.ps_probe.proofs.Restricted.{FixedTerms}
use Rattle.ps_probe.proofs.restricting.push_fixed.Given as goal

abbrev pub invariant-loop-term : goal.invariant-loop-term
invariant-loop-term l = FixedTerms l.pattern l.terms l.term-index l.fn.out.items l.out.items
