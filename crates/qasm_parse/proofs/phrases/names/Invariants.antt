use Rattle.std.proofs.Common.{◌≤◌, ◌-◌, length, List}
use Rattle.qasm_parse.specs.declared.program.Span.{Span}
use Rattle.qasm_parse.specs.declared.sort.Sort.TheVariants.{Id}
use Rattle.qasm_parse.specs.Phrases.{Got, put, Listed, IsSpan}
use Rattle.qasm_parse.proofs.phrases.names.Given as goal

-- whatever is listed from here on, behind what there is, is the whole list
abbrev pub invariant-loop-out : goal.invariant-loop-out
invariant-loop-out l = record {
  within : l.from ≤ length l.sorts;
  ordered : l.fn.at ≤ l.from;
  rest : (r : Got (List Span)) → Listed l.sorts (IsSpan l.tokens l.sorts Id) l.from r → Listed l.sorts (IsSpan l.tokens l.sorts Id) l.fn.at (put l.out.items r);
}

abbrev pub decreases-loop-out : goal.decreases-loop-out
decreases-loop-out l = length l.sorts - l.from
