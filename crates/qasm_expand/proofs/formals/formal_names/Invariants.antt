use Rattle.std.proofs.Common.{◌≡◌, ◌++◌, [], drop}
use Rattle.qasm_expand.specs.Gates.{first_again, names}
use Rattle.qasm_expand.proofs.formals.formal_names.Given as goal

abbrev pub invariant-loop-i : goal.invariant-loop-i
invariant-loop-i l = record {
  named : names l.bytes l.spans ≡ l.out ++ names l.bytes (drop l.i l.spans);
  apart : first_again l.bytes [] l.spans ≡ first_again l.bytes l.out (drop l.i l.spans);
}
