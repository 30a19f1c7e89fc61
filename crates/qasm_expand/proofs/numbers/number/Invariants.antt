use Rattle.std.proofs.Common.{◌≡◌, take, min}
use Rattle.qasm_parse.specs.Numbers.{decimal}
use Rattle.qasm_expand.proofs.numbers.number.Given as goal

abbrev pub invariant-loop-byte : goal.invariant-loop-byte
invariant-loop-byte l = l.n ≡ min (decimal (take l.byte-index l.bytes)) 4294967296
