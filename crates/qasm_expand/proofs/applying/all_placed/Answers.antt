use Rattle.std.proofs.Common.{length, subst, sym}
use Rattle.ps_prim.specs.Maps.{IsWithin}
use Rattle.qasm_expand.proofs.Placing.{within_at}
use Rattle.qasm_expand.proofs.applying.all_placed.Goals as goal

pub placed-requires-clause-prim : goal.placed-requires-clause-prim
placed-requires-clause-prim c =
    subst (IsWithin (length c.args.targets.now)) (sym c.prim-item.is) (within_at (length c.args.targets.now) c.args.prims.now c.loop-prim.prim-index c.prim-item.result c.loop-prim-test.true c.requires.prims)
