use Rattle.std.proofs.Common.{◌≡◌, ◌≤◌, length, take}
use Rattle.ps_phase.specs.Adding.{terms_without}
use Rattle.ps_rules.proofs.measuring.kept_count.Given as goal

abbrev pub invariant-loop-term : goal.invariant-loop-term
invariant-loop-term l = record { is : l.count ≡ length (terms_without l.v (take l.term-index l.terms)); most : l.count ≤ l.term-index }
