use Rattle.std.proofs.Common.{◌∙◌, ap, drop, Ok, drop_of_length-le}
use Rattle.qasm_expand.specs.Gates.{body_of}
use Rattle.qasm_expand.proofs.Leading.{body_end}
use Rattle.qasm_expand.proofs.gates.body_of.Goals as goal

pub returns : goal.returns
returns c =
    ap Ok c.from_vec.ensures ∙ body_end c.args.bytes.now c.args.defs.now c.args.bound.now c.args.params.now c.args.args.now c.loop-statement.list.items (drop c.loop-statement.statement-index c.args.body.now) (body_of c.args.bytes.now c.args.defs.now c.args.bound.now c.args.params.now c.args.args.now c.args.body.now)
    (drop_of_length-le c.args.body.now c.loop-statement-test.false) c.loop-statement.invariant
