use Rattle.std.proofs.Common.{length, subst, sym}
use Rattle.ps_prim.specs.Maps.{IsWithin}
use Rattle.qasm_expand.proofs.Placing.{within_at}
use Rattle.qasm_expand.proofs.shared.is_placed.Goals as goal

pub is_on-requires-clause-prim : goal.is_on-requires-clause-prim
is_on-requires-clause-prim c =
    subst (IsWithin (length c.args.targets.now)) (sym c.index-prims-place.is) (within_at (length c.args.targets.now) c.args.prims.now c.loop-place.place c.index-prims-place.result c.loop-place-test.true c.requires.prims)
