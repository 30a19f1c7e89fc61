use Rattle.std.proofs.Common.{◌≤◌, ◌<◌, ℕ, length, get_or}
use Rattle.ps_mono.specs.Sets.{IsVarSet}
use Rattle.ps_phase.specs.declared.terms.Term.{Term}
use Rattle.ps_phase.proofs.sorting.are_short.Given as goal

abbrev pub invariant-loop-term : goal.invariant-loop-term
invariant-loop-term l = (k : ℕ) (d : Term) → k < l.term-index → IsVarSet (get_or l.terms k d).mono × (length (get_or l.terms k d).mono ≤ 6)
