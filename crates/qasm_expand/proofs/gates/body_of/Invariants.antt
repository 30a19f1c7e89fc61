use Rattle.std.proofs.Common.{◌≡◌, drop}
use Rattle.qasm_expand.specs.Gates.{body_of}
use Rattle.qasm_expand.specs.Names.{put_before}
use Rattle.qasm_expand.proofs.gates.body_of.Given as goal

abbrev pub invariant-loop-statement : goal.invariant-loop-statement
invariant-loop-statement l = body_of l.bytes l.defs l.bound l.params l.args l.body ≡ put_before l.list.items (body_of l.bytes l.defs l.bound l.params l.args (drop l.statement-index l.body))
