use Rattle.std.proofs.Common.{◌≡◌, ◌+◌, ◌≤◌, take}
use Rattle.std.specs.Prelude.{count_by, ◌==◌}
use Rattle.qasm_lex.specs.Places.{IsLine}
use Rattle.qasm_lex.proofs.places.place.Given as goal

abbrev pub invariant-loop-at : goal.invariant-loop-at
invariant-loop-at l = record {
  lines : l.line ≡ 1 + count_by (λ b. b == 10) (take l.at l.bytes);
  few : l.line ≤ 1 + l.at;
  start : IsLine l.bytes l.at l.start;
}
