use Rattle.std.proofs.Common.{List, ℕ, ap, sym, ◌∙◌, subst, arith, map, length, vec_items, true, false}
use Rattle.ps_prim.specs.declared.items.Item.{Item}
use Rattle.ps_reach.specs.Runs.{prims_of}
use Rattle.ps_local.specs.Wires.{AreMasks, kept}
use Rattle.ps_local.proofs.Splitting.{split_none, split_done, item_goes, item_stays, comes_shared, blocked_none, blocked_same, blocked_more, kept_first}
use Rattle.ps_local.proofs.fronts.split_front.Goals as goal
use Rattle.ps_local.proofs.fronts.split_front.Goals.{then-comes, else-comes+in_ok-try_clone+in_ok-push}

pub loop-item-init : goal.loop-item-init
loop-item-init c = let e = c.in_ok-wires.ensures in record {
  split = split_none _ _ _ _ (ap (map prims_of) c.new-stays.ensures.items) (kept_first _ c.args.second.now e.none);
  masks = e.masks;
  many = e.len;
  blocked = blocked_none _ c.new-stays.ensures.items;
  few = omega arith;
}

pub loop-item-preserved : goal.loop-item-preserved
loop-item-preserved c =
    let i = c.loop-item.invariant in
    let q = c.comes.ensures.qubits in
    let masks = subst (λ (m : List ℕ). AreMasks m (map prims_of c.args.second.now)) (sym q) i.masks in
    let many = ap length q ∙ i.many in
    let at = ap (λ (x : Item). x.prims) c.deref-in-loop-item.ensures in
    let stays = map prims_of c.loop-item.stays.items in
    let rest = kept c.loop-item.wires.out.items (map prims_of c.args.second.now) in
    let left = kept c.comes.new.wires.out.items (map prims_of c.args.second.now) in
    elim c.if-comes.branch [
      | then-comes w ↦
          (let t = w.if-comes.ensures in
          record {
            split = item_goes c.args.first.now c.loop-item.stays.items _ _ c.loop-item.item-index c.loop-item.count _ _ _ c.item-item.result c.loop-item-test.true c.item-item.is w.count-is (ap vec_items w.stays-is)
                (comes_shared true stays rest left _ _ at (t.comes stays i.blocked)) i.split;
            masks = masks;
            many = many;
            blocked = blocked_same c.loop-item.stays.items _ c.loop-item.blocked _ (ap vec_items w.stays-is) w.blocked-is i.blocked;
            few = (let f = i.few in let e = w.count-is in omega arith);
          })
      | else-comes+in_ok-try_clone+in_ok-push w ↦
          (let t = w.if-comes.ensures in
          let k = w.in_ok-try_clone.ensures in
          let p = w.in_ok-push.ensures in
          let more = ap vec_items w.stays-is ∙ p.items in
          record {
            split = item_stays c.args.first.now c.loop-item.stays.items _ _ c.loop-item.item-index c.loop-item.count _ _ _ c.item-item.result w.in_ok-try_clone.field-0 c.loop-item-test.true c.item-item.is w.count-is
                (ap (λ (x : Item). x.prims) k) more (comes_shared false stays rest left _ _ at (t.comes stays i.blocked)) i.split;
            masks = masks;
            many = many;
            blocked = blocked_more c.loop-item.stays.items _ c.item-item.result w.in_ok-try_clone.field-0 _ c.loop-item.blocked c.qubits_of-mask.result _ (ap (λ (x : Item). x.prims) k) more
                (ap (λ (x : Item). x.prims) c.deref.ensures) c.qubits_of-mask.ensures w.blocked-is i.blocked;
            few = (let f = i.few in let e = w.count-is in omega arith);
          })
    ]

pub returns-clause-split : goal.returns-clause-split
returns-clause-split c =
    let i = c.loop-item.invariant in
    split_done c.args.first.now c.args.second.now c.loop-item.stays.items c.in_ok-second.second.items c.loop-item.wires.out.items c.deref-2.result.now c.loop-item.item-index c.loop-item.count c.loop-item-test.false
    c.deref-2.ensures.value c.in_ok-second.ensures i.split
