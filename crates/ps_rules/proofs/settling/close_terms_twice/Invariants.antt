use Rattle.ps_rules.proofs.Twice.{Twice}
use Rattle.ps_rules.proofs.settling.close_terms_twice.Given as goal

abbrev pub invariant-loop-i : goal.invariant-loop-i
invariant-loop-i l = Twice l.low.gone l.high.gone l.fn.terms.items l.i l.kept l.terms.items
