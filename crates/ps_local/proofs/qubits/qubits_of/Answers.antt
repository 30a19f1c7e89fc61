use Rattle.ps_local.proofs.Masks.{within_at, mask_step}
use Rattle.ps_local.proofs.qubits.qubits_of.Goals as goal

pub with_prim-mask-requires : goal.with_prim-mask-requires
with_prim-mask-requires c = within_at c.as_slice-prim-items.result.now _ c.loop-prim.prim-index c.prim-item.result c.loop-prim-test.true c.prim-item.is c.as_slice-prim-items.ensures c.args.item.now.bounded.1

pub loop-prim-preserved : goal.loop-prim-preserved
loop-prim-preserved c = mask_step c.loop-prim.mask c.with_prim-mask.result c.as_slice-prim-items.result.now c.loop-prim.prim-index c.prim-item.result c.loop-prim-test.true c.prim-item.is c.with_prim-mask.ensures c.loop-prim.invariant
