use Rattle.std.proofs.Common.{◌≡◌, take}
use Rattle.qasm_parse.specs.Sorts.{sorts_of}
use Rattle.qasm_parse.proofs.terminals.terminals.Given as goal

abbrev pub invariant-loop-token : goal.invariant-loop-token
invariant-loop-token l = l.out.items ≡ sorts_of l.bytes (take l.token-index l.tokens)
