use Rattle.std.proofs.Common.{◌≡◌}
use Rattle.pathsum.proofs.InputLemmas.{digits_to}
use Rattle.pathsum.proofs.answer.push_digits.Given as goal

abbrev pub invariant-loop-v : goal.invariant-loop-v
invariant-loop-v l = l.line.items ≡ digits_to l.fn.line.items l.at l.v
