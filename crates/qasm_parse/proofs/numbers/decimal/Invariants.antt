use Rattle.std.proofs.Common.{◌≡◌, take, min}
use Rattle.qasm_parse.specs.Numbers.{decimal}
use Rattle.qasm_parse.proofs.numbers.decimal.Given as goal

abbrev pub invariant-loop-b : goal.invariant-loop-b
invariant-loop-b l = l.n ≡ min (decimal (take l.b-index l.bytes)) 1000000000000000000
