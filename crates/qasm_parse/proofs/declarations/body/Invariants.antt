use Rattle.std.proofs.Common.{◌≤◌, ◌-◌, length, List}
use Rattle.qasm_parse.specs.declared.program.Inner.{Inner}
use Rattle.qasm_parse.specs.Phrases.{Got, put}
use Rattle.qasm_parse.specs.Statements.{IsBody}
use Rattle.qasm_parse.proofs.declarations.body.Given as goal

-- whatever is read from here on, behind what there is, is the whole
abbrev pub invariant-loop-out : goal.invariant-loop-out
invariant-loop-out l = record {
  within : l.from ≤ length l.sorts;
  ordered : l.fn.at ≤ l.from;
  rest : (r : Got (List Inner)) → IsBody l.bytes l.tokens l.sorts l.from r → IsBody l.bytes l.tokens l.sorts l.fn.at (put l.out.items r);
}

abbrev pub decreases-loop-out : goal.decreases-loop-out
decreases-loop-out l = length l.sorts - l.from
