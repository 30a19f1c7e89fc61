use Rattle.std.proofs.Common.{◌≤◌, ◌-◌, length, List}
use Rattle.qasm_parse.specs.declared.program.Statement.{Statement}
use Rattle.qasm_parse.specs.Phrases.{Got, put}
use Rattle.qasm_parse.specs.Statements.{IsProgram}
use Rattle.qasm_parse.proofs.text.statements.Given as goal

-- whatever is read from here on, behind what there is, is the whole
abbrev pub invariant-loop-out : goal.invariant-loop-out
invariant-loop-out l = record {
  within : l.from ≤ length l.sorts;
  ordered : l.fn.at ≤ l.from;
  rest : (r : Got (List Statement)) → IsProgram l.bytes l.tokens l.sorts l.whence l.from r → IsProgram l.bytes l.tokens l.sorts l.whence l.fn.at (put l.out.items r);
}

abbrev pub decreases-loop-out : goal.decreases-loop-out
decreases-loop-out l = length l.sorts - l.from
