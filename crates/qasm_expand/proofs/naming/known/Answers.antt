use Rattle.std.proofs.Common.{ap}
use Rattle.qasm_expand.specs.Names.{checked}
use Rattle.qasm_expand.proofs.Stepping.{places_each}
use Rattle.qasm_expand.proofs.naming.known.Goals as goal

pub loop-i-init : goal.loop-i-init
loop-i-init c = ap checked (places_each c.args.bytes.now c.args.formals.now c.args.spans.now)
