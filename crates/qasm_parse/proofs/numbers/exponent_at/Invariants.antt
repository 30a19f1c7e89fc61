use Rattle.std.proofs.Common.{◌≡◌, ℕ, ◌<◌, ◌≤◌, false, length, get_or}
use Rattle.qasm_lex.specs.Tokens.{is_exponent_byte}
use Rattle.qasm_parse.proofs.numbers.exponent_at.Given as goal

abbrev pub invariant-loop-at : goal.invariant-loop-at
invariant-loop-at l = record {
  within : l.at ≤ length l.text;
  none : (k : ℕ) → k < l.at → is_exponent_byte (get_or l.text k 0) ≡ false;
}
