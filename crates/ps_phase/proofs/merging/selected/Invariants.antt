use Rattle.std.proofs.Common.{◌≡◌, ◌++◌, drop}
use Rattle.ps_phase.specs.Adding.{terms_where}
use Rattle.ps_phase.proofs.merging.selected.Given as goal

abbrev pub invariant-loop-term : goal.invariant-loop-term
invariant-loop-term l = l.out.items ++ terms_where l.with l.v (drop l.term-index l.terms) ≡ terms_where l.with l.v l.terms
