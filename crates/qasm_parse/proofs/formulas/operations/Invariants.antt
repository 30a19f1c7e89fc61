use Rattle.std.proofs.Common.{◌≡◌, ◌-◌, ◌≤◌, take}
use Rattle.qasm_parse.specs.Formulas.{id_count, OpsAre}
use Rattle.qasm_parse.proofs.formulas.operations.Given as goal

abbrev pub invariant-loop-mark : goal.invariant-loop-mark
invariant-loop-mark l = record {
  ordered : l.from ≤ l.place;
  known : l.id ≡ id_count l.sorts l.from (l.place - l.from);
  few : l.id ≤ l.place - l.from;
  ops : OpsAre l.bytes l.tokens l.sorts l.from (take l.mark-index l.marks) l.out.items;
}
