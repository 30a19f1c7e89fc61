use Rattle.ps_rules.proofs.Parting.{Parting}
use Rattle.ps_rules.proofs.dividing.parted.Given as goal

abbrev pub invariant-loop-term : goal.invariant-loop-term
invariant-loop-term l = Parting l.v0 l.v1 l.product l.terms l.term-index l.monos.items l.into.items l.left
