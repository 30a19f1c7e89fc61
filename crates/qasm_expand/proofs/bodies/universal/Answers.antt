use Rattle.std.proofs.Common.{◌≡◌, ◌∙◌, ap, arith, length, rules, vec_len}
use Rattle.qasm_expand.proofs.Steps.{place_below, place_read, three_are, turned_in}
use Rattle.qasm_expand.proofs.bodies.universal.Goals as goal

pub index-q-requires : goal.index-q-requires
index-q-requires c =
    let n : vec_len c.args.frame.now.places ≡ length c.args.frame.now.places.items = search rules in
    place_below c.args.frame.now.places.items c.as_slice.result.now c.args.inner.now.args 0 _ n c.as_slice.ensures c.requires.below (omega arith)

pub returns-in-Ok : goal.returns-in-Ok
returns-in-Ok c =
    let n : length c.as_slice-exprs.result.now ≡ 3 = ap length c.as_slice-exprs.ensures ∙ c.requires.three in
    let e = three_are c.as_slice-exprs.result.now c.index-exprs-0.result c.index-exprs-1.result c.index-exprs-2.result n c.index-exprs-0.is c.index-exprs-1.is c.index-exprs-2.is in
    let q = place_read c.args.frame.now.places.items c.as_slice.result.now c.args.inner.now.args 0 c.index-q.result.now c.as_slice.ensures c.index-q.ensures c.requires.below (omega arith) in
    turned_in _ c.args.frame.now.values.items _ c.args.inner.now.params _ _ c.in-Ok.prim c.deref.ensures.value (e ∙ c.as_slice-exprs.ensures) q c.in-Ok.ensures
