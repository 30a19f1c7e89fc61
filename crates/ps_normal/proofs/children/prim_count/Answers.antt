use Rattle.std.proofs.Common.{◌≡◌, ◌≤◌, refl, ap, ◌∙◌, subst, length}
use Rattle.ps_prim.specs.declared.items.Item.{Item}
use Rattle.ps_reach.specs.Runs.{prims_of, run_of}
use Rattle.ps_normal.proofs.Pairs.{counted_more, counted_end, counted_few, as_many}
use Rattle.ps_normal.proofs.children.prim_count.Goals as goal

pub items-preserved : goal.items-preserved
items-preserved c =
    let e : c.as_slice.result.now ≡ prims_of c.item-item.result = c.as_slice.ensures ∙ ap (λ (i : Item). i.prims) c.deref.ensures in
    counted_more c.as_slice-item-items.result.now c.items.item-index c.items.count _ c.item-item.result c.as_slice.result.now c.items-test.true c.item-item.is e refl c.items.invariant

pub returns-clause-value : goal.returns-clause-value
returns-clause-value c = counted_end c.as_slice-item-items.result.now c.items.item-index c.items.count c.items-test.false c.items.invariant ∙ ap (λ L. length (run_of L)) c.as_slice-item-items.ensures.value

pub returns-clause-few : goal.returns-clause-few
returns-clause-few c =
    let m = as_many c.as_slice-item-items.result.now c.args.items.now c.as_slice-item-items.ensures.value in
    subst (λ L. length (run_of L) ≤ 268435456) c.as_slice-item-items.ensures.value
    (counted_few c.as_slice-item-items.result.now c.items.item-index c.items.count c.items-test.false c.items.auto.item-index-end (rw m c.requires) c.items.invariant)
