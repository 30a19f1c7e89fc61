use Rattle.ps_rules.proofs.Closes.{Settling}
use Rattle.ps_rules.proofs.settling.close_terms.Given as goal

abbrev pub invariant-loop-i : goal.invariant-loop-i
invariant-loop-i l = Settling l.closing.gone l.fn.terms.items l.i l.kept l.terms.items
