use Rattle.std.proofs.Common.{◌≤◌, ◌-◌, length, List}
use Rattle.qasm_parse.specs.declared.program.Formula.{Formula}
use Rattle.qasm_parse.specs.Phrases.{Got, put, Listed}
use Rattle.qasm_parse.specs.Formulas.{IsFormula}
use Rattle.qasm_parse.proofs.formulas.formulas.Given as goal

-- whatever is listed from here on, behind what there is, is the whole list
abbrev pub invariant-loop-out : goal.invariant-loop-out
invariant-loop-out l = record {
  within : l.from ≤ length l.sorts;
  ordered : l.fn.at ≤ l.from;
  rest : (r : Got (List Formula)) → Listed l.sorts (IsFormula l.bytes l.tokens l.sorts) l.from r → Listed l.sorts (IsFormula l.bytes l.tokens l.sorts) l.fn.at (put l.out.items r);
}

abbrev pub decreases-loop-out : goal.decreases-loop-out
decreases-loop-out l = length l.sorts - l.from
