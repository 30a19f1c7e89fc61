use Rattle.qasm_expand.specs.States.{IsSound}
use Rattle.qasm_expand.specs.Blocks.{known_with}
use Rattle.qasm_expand.specs.Ready.{AreExpansions}
use Rattle.qasm_expand.proofs.Taking.{Walked}
use Rattle.qasm_expand.proofs.blocks.expand.Given as goal

-- the statements so far have made these items of those that were there
abbrev pub invariant-loop-statement : goal.invariant-loop-statement
invariant-loop-statement l = record {
  walked : Walked l.fn.bytes (known_with l.fn.table l.fn.items) l.fn.statements (known_with l.fn.table l.items) l.statement-index;
  sound : IsSound (known_with l.fn.table l.items);
  ready : AreExpansions l.fn.table.defs l.ready.slots.items;
}
