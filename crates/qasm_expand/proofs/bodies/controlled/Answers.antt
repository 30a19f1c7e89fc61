use Rattle.std.proofs.Common.{◌≡◌, ◌∙◌, ap, arith, length, rules, vec_len, get_or}
use Rattle.ps_prim.specs.declared.prims.Primitive.TheVariants.{Cx as CxPrim}
use Rattle.qasm_expand.proofs.Steps.{place_below, place_read}
use Rattle.qasm_expand.proofs.bodies.controlled.Goals as goal

pub index-requires : goal.index-requires
index-requires c =
    let n : vec_len c.args.frame.now.places ≡ length c.args.frame.now.places.items = search rules in
    place_below c.args.frame.now.places.items c.as_slice-args.result.now c.args.inner.now.args 0 _ n c.as_slice-args.ensures c.requires.below (omega arith)

pub index-requires-2 : goal.index-requires-2
index-requires-2 c =
    let n : vec_len c.args.frame.now.places ≡ length c.args.frame.now.places.items = search rules in
    place_below c.args.frame.now.places.items c.as_slice-args.result.now c.args.inner.now.args 1 _ n c.as_slice-args.ensures c.requires.below (omega arith)

pub returns : goal.returns
returns c =
    let a = place_read c.args.frame.now.places.items c.as_slice-args.result.now c.args.inner.now.args 0 c.index.result.now c.as_slice-args.ensures c.index.ensures c.requires.below (omega arith) in
    let b = place_read c.args.frame.now.places.items c.as_slice-args.result.now c.args.inner.now.args 1 c.index-2.result.now c.as_slice-args.ensures c.index-2.ensures c.requires.below (omega arith) in
    ap (λ k. CxPrim k c.index-2.result.now) a ∙ ap (λ k. CxPrim (get_or c.args.frame.now.places.items (get_or c.args.inner.now.args 0 0) 0) k) b
