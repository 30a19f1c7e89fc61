use Rattle.std.proofs.Common.{◌≡◌, ℕ, List, [], drop}
use Rattle.qasm_expand.specs.Gates.{first_repeated, arg_names}
use Rattle.qasm_expand.proofs.Stepping.{Seen}
use Rattle.qasm_expand.proofs.naming.different.Given as goal

abbrev pub invariant-loop-i : goal.invariant-loop-i
invariant-loop-i l = (seen : List ℕ) × Seen seen l.seen.keys × (first_repeated [] l.places (arg_names l.args) ≡ first_repeated seen (drop l.i l.places) (arg_names (drop l.i l.args)))
