use Rattle.std.proofs.Common.{◌≡◌, ℕ, ◌<◌, ◌≤◌, false, length, get_or}
use Rattle.qasm_parse.specs.Numbers.{is_significant}
use Rattle.qasm_parse.proofs.numbers.significant.Given as goal

abbrev pub invariant-loop-end : goal.invariant-loop-end
invariant-loop-end l = record {
  within : l.end ≤ length l.bytes;
  rest : (k : ℕ) → l.end ≤ k → k < length l.bytes → is_significant (get_or l.bytes k 0) ≡ false;
}

abbrev pub decreases-loop-end : goal.decreases-loop-end
decreases-loop-end l = l.end
