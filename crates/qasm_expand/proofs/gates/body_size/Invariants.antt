use Rattle.std.proofs.Common.{◌≡◌, ◌≤◌, ◌+◌, min, drop}
use Rattle.qasm_expand.specs.Tables.{body_size, prim_count}
use Rattle.qasm_expand.proofs.gates.body_size.Given as goal

abbrev pub invariant-loop-inner : goal.invariant-loop-inner
invariant-loop-inner l = record {
  few : l.total ≤ 4097;
  counted : body_size l.defs l.inner-items ≡ min (l.total + prim_count l.defs (drop l.inner-index l.inner-items)) 4097;
}
