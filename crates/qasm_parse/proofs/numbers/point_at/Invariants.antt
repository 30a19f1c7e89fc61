use Rattle.std.proofs.Common.{◌≡◌, ℕ, ◌<◌, ◌≤◌, false, length, get_or}
use Rattle.qasm_parse.specs.Numbers.{is_point}
use Rattle.qasm_parse.proofs.numbers.point_at.Given as goal

abbrev pub invariant-loop-at : goal.invariant-loop-at
invariant-loop-at l = record {
  within : l.at ≤ length l.mantissa;
  none : (k : ℕ) → k < l.at → is_point (get_or l.mantissa k 0) ≡ false;
}
