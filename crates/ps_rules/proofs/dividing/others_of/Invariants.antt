use Rattle.ps_rules.proofs.Quotients.{Dividing}
use Rattle.ps_rules.proofs.dividing.others_of.Given as goal

abbrev pub invariant-loop-term : goal.invariant-loop-term
invariant-loop-term l = Dividing l.v l.mono l.terms l.term-index l.out.items
