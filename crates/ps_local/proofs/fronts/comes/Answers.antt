use Rattle.std.proofs.Common.{◌≡◌, true, false, refl, ap, sym, ◌∙◌, arith, map, set, List, Bool}
use Rattle.std.proofs.lemmas.List.{length-map}
use Rattle.ps_prim.specs.declared.items.Item.{Item}
use Rattle.ps_reach.specs.Runs.{prims_of}
use Rattle.ps_local.proofs.Parting.{at_place}
use Rattle.ps_local.proofs.Looking.{Looked, comes_zero, comes_blocked, comes_end, comes_other, comes_true}
use Rattle.ps_local.proofs.fronts.comes.Goals as goal

off : false ≡ true → ⊥
off e = cc

pub returns-then-mask-eq0-clause-comes : goal.returns-then-mask-eq0-clause-comes
returns-then-mask-eq0-clause-comes c stays b = comes_zero stays _ c.args.item.now.prims c.args.mask c.requires.mask c.if-mask-eq0.true

pub returns-then-mask-blocked-ne0-clause-comes : goal.returns-then-mask-blocked-ne0-clause-comes
returns-then-mask-blocked-ne0-clause-comes c stays b = comes_blocked stays _ c.args.item.now.prims c.args.mask c.args.blocked c.requires.mask b c.if-mask-blocked-ne0.true

pub returns-then-place-second-clause-comes : goal.returns-then-place-second-clause-comes
returns-then-place-second-clause-comes c stays b =
    let f = c.first_of-place.ensures in
    let l : Looked c.args.wires.now.qubits.items c.args.wires.now.out.items (map prims_of c.args.second.now) c.args.mask c.args.item.now.prims c.first_of-place.result = record {
      are = c.requires.masks;
      many = c.requires.len ∙ sym (length-map c.args.second.now prims_of);
      outs = c.args.wires.now.outs;
      is = c.requires.mask;
      some = c.if-mask-eq0.false;
      inside = f.inside;
      before = f.before;
      stands = f.stands;
      meets = f.meets;
    } in
    comes_end _ _ _ _ stays _ _ c.first_of-place.result l (c.if-place-second.true ∙ sym (length-map c.args.second.now prims_of)) f.out

pub returns-then-not-same_item-clause-comes : goal.returns-then-not-same_item-clause-comes
returns-then-not-same_item-clause-comes c stays b =
    let f = c.first_of-place.ensures in
    let l : Looked c.args.wires.now.qubits.items c.args.wires.now.out.items (map prims_of c.args.second.now) c.args.mask c.args.item.now.prims c.first_of-place.result = record {
      are = c.requires.masks;
      many = c.requires.len ∙ sym (length-map c.args.second.now prims_of);
      outs = c.args.wires.now.outs;
      is = c.requires.mask;
      some = c.if-mask-eq0.false;
      inside = f.inside;
      before = f.before;
      stands = f.stands;
      meets = f.meets;
    } in
    let t = c.if-not-same_item.ensures in
    let p = at_place c.args.second.now c.first_of-place.result c.index-second-place.result (omega arith) c.index-second-place.is in
    comes_other _ _ _ _ stays _ _ c.first_of-place.result l (omega (arith, length-map c.args.second.now prims_of)) (λ x. off (t.1 (ap (λ (i : Item). i.prims) c.deref.ensures ∙ sym p ∙ x))) f.out

pub returns-clause-comes : goal.returns-clause-comes
returns-clause-comes c stays b =
    let f = c.first_of-place.ensures in
    let l : Looked c.args.wires.now.qubits.items c.args.wires.now.out.items (map prims_of c.args.second.now) c.args.mask c.args.item.now.prims c.first_of-place.result = record {
      are = c.requires.masks;
      many = c.requires.len ∙ sym (length-map c.args.second.now prims_of);
      outs = c.args.wires.now.outs;
      is = c.requires.mask;
      some = c.if-mask-eq0.false;
      inside = f.inside;
      before = f.before;
      stands = f.stands;
      meets = f.meets;
    } in
    let t = c.if-not-same_item.ensures in
    let p = at_place c.args.second.now c.first_of-place.result c.index-second-place.result (omega arith) c.index-second-place.is in
    comes_true _ _ _ _ stays _ c.args.blocked _ c.first_of-place.result l (omega (arith, length-map c.args.second.now prims_of)) (p ∙ sym (ap (λ (i : Item). i.prims) c.deref.ensures) ∙ t.0 refl)
    (c.take.ensures.out ∙ ap (λ (o : List Bool). set o c.first_of-place.result true) f.out) c.if-mask-blocked-ne0.false b
