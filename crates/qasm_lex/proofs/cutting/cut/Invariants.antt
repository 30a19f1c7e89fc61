use Rattle.std.proofs.Common.{◌≤◌, ◌-◌, length, Result, List}
use Rattle.qasm_lex.specs.declared.types.Token.{Token}
use Rattle.qasm_lex.specs.declared.types.LexFault.{LexFault}
use Rattle.qasm_lex.specs.Tokens.{Reads}
use Rattle.qasm_lex.proofs.Steps.{after}
use Rattle.qasm_lex.proofs.cutting.cut.Given as goal

-- whatever is read from here on, behind what there is, is the reading of the whole
abbrev pub invariant-loop-at : goal.invariant-loop-at
invariant-loop-at l = record {
  within : l.at ≤ length l.bytes;
  rest : (r : Result (List Token) LexFault) → Reads l.bytes l.at r → Reads l.bytes 0 (after l.out.items r);
}

abbrev pub decreases-loop-at : goal.decreases-loop-at
decreases-loop-at l = length l.bytes - l.at
