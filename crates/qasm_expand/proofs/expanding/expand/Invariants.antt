use Rattle.qasm_expand.specs.States.{IsSound}
use Rattle.qasm_expand.specs.Ready.{AreExpansions}
use Rattle.qasm_expand.proofs.Taking.{Walked}
use Rattle.qasm_expand.proofs.expanding.expand.Given as goal

-- the statements so far have made this of what was known
abbrev pub invariant-loop-statement : goal.invariant-loop-statement
invariant-loop-statement l = record {
  walked : Walked l.fn.bytes l.fn.state l.fn.statements l.state l.statement-index;
  sound : IsSound l.state;
  ready : AreExpansions l.state.defs l.ready.slots.items;
}
