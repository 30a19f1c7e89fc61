use Rattle.std.proofs.Common.{◌≡◌, true, length}
use Rattle.qasm_expand.specs.Tables.{defs_sound, bound_sound}
use Rattle.qasm_expand.proofs.Libraries.{Defining}
use Rattle.qasm_expand.proofs.including.define_all.Given as goal

-- the definitions so far have made these gates
abbrev pub invariant-loop-statement : goal.invariant-loop-statement
invariant-loop-statement l = record {
  defining : Defining l.fn.bytes (record { defs = l.fn.defs; bound = l.fn.bound }) l.fn.statements (record { defs = l.defs; bound = l.bound }) l.statement-index;
  gates : defs_sound l.defs ≡ true;
  names : bound_sound (length l.defs) l.bound ≡ true;
}
