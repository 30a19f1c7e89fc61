use Rattle.std.proofs.Common.{ℕ, ◌<◌, get_or}
use Rattle.ps_mono.specs.Keys.{IsLow}
use Rattle.ps_phase.specs.declared.terms.Term.{Term}
use Rattle.ps_phase.proofs.seating.are_low.Given as goal

abbrev pub invariant-loop-term : goal.invariant-loop-term
invariant-loop-term l = (k : ℕ) (d : Term) → k < l.term-index → IsLow (get_or l.terms k d).mono
