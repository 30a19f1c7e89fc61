use Rattle.std.proofs.Common.{◌∙◌, ap, arith, length}
use Rattle.ps_prim.specs.declared.items.Item.{Item}
use Rattle.pathsum.proofs.Verdicts.{prims_start, prims_more, prims_all, few_more, few_all}
use Rattle.pathsum.proofs.verdict.prims.Goals as goal

pub loop-item-init : goal.loop-item-init
loop-item-init c = record {
  run = prims_start c.as_slice-item-items.result.now c.new-prims.result.items c.new-prims.ensures.items;
  few = (let e = ap length c.new-prims.ensures.items in omega (arith, e));
}

pub loop-item-preserved : goal.loop-item-preserved
loop-item-preserved c = record {
  run = prims_more c.as_slice-item-items.result.now c.loop-item.item-index c.item-item.result c.loop-item.prims.items _ c.as_slice.result.now c.loop-item-test.true c.item-item.is (c.as_slice.ensures ∙ ap (λ (i : Item). i.prims) c.deref.ensures) c.in_ok-extend_from_slice.ensures.items c.loop-item.invariant.run;
  few = few_more c.loop-item.item-index c.loop-item.prims.items _ c.as_slice.result.now c.item-item.result (c.as_slice.ensures ∙ ap (λ (i : Item). i.prims) c.deref.ensures) c.in_ok-extend_from_slice.ensures.items c.loop-item.invariant.few;
}

pub returns-clause-run : goal.returns-clause-run
returns-clause-run c = prims_all c.as_slice-item-items.result.now c.loop-item.item-index c.loop-item.prims.items c.args.items.now (omega arith) c.as_slice-item-items.ensures c.loop-item.invariant.run

pub returns-clause-few : goal.returns-clause-few
returns-clause-few c = few_all c.as_slice-item-items.result.now c.loop-item.item-index c.loop-item.prims.items c.args.items.now (omega arith) c.as_slice-item-items.ensures c.loop-item.invariant.few
