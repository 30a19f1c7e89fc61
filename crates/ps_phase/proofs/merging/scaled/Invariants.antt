use Rattle.std.proofs.Common.{◌≡◌, ◌++◌, drop}
use Rattle.ps_phase.specs.Adding.{scaled_terms}
use Rattle.ps_phase.proofs.merging.scaled.Given as goal

abbrev pub invariant-loop-term : goal.invariant-loop-term
invariant-loop-term l = l.out.items ++ scaled_terms l.by (drop l.term-index l.terms) ≡ scaled_terms l.by l.terms
