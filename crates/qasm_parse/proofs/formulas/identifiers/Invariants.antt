use Rattle.std.proofs.Common.{◌≡◌, ◌+◌, ◌-◌, ◌≤◌}
use Rattle.qasm_parse.specs.Formulas.{ids}
use Rattle.qasm_parse.proofs.formulas.identifiers.Given as goal

abbrev pub invariant-loop-at : goal.invariant-loop-at
invariant-loop-at l = record { listed : l.out.items ≡ ids l.tokens l.sorts l.from (l.at - l.from); bound : l.at ≤ l.from + (l.to - l.from) }
