use Rattle.std.proofs.Common.{length}
use Rattle.qasm_expand.proofs.Prims.{below_at}
use Rattle.qasm_expand.proofs.bodies.places_of.Goals as goal

pub bounds-outer-arg : goal.bounds-outer-arg
bounds-outer-arg c = below_at (length c.args.outer.now) c.args.args.now c.loop-arg.arg-index c.requires c.loop-arg-test.true
