use Rattle.ps_join.proofs.NamedParts.{NamedTerms}
use Rattle.ps_join.proofs.naming.named_phase.Given as goal

abbrev pub invariant-loop-term : goal.invariant-loop-term
invariant-loop-term l = NamedTerms l.names.n l.names.m1 l.names.m2 l.term-items l.term-index l.terms.items
