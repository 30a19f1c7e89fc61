use Rattle.std.proofs.Common.{◌≡◌, ◌+◌, ◌-◌, ◌≤◌}
use Rattle.qasm_parse.specs.Formulas.{id_count}
use Rattle.qasm_parse.proofs.formulas.count_ids.Given as goal

abbrev pub invariant-loop-at : goal.invariant-loop-at
invariant-loop-at l = record { counted : l.count ≡ id_count l.sorts l.from (l.at - l.from); few : l.count ≤ l.at - l.from; bound : l.at ≤ l.from + (l.to - l.from) }
