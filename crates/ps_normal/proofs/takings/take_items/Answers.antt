use Rattle.std.proofs.Common.{◌≡◌, refl, ap, ◌∙◌, sym, subst, arith, [], length}
use Rattle.ps_prim.specs.declared.prims.Primitive.{Primitive as Prim}
use Rattle.ps_prim.specs.declared.items.Item.{Item}
use Rattle.ps_prim.specs.Maps.{AllWithin}
use Rattle.ps_reach.specs.Runs.{prims_of, run_of}
use Rattle.ps_reach.specs.Parts.{overrun_of}
use Rattle.ps_reach.specs.Fillings.{passed, Fills}
use Rattle.ps_normal.specs.Pieces.{IsProgress}
use Rattle.ps_normal.proofs.Taking.{tour_within, tour_more, tour_over, tour_end}
use Rattle.ps_normal.proofs.takings.take_items.Goals as goal

pub take_prims-requires-clause-within : goal.take_prims-requires-clause-within
take_prims-requires-clause-within g c =
    let e : c.as_slice-prims.result.now ≡ prims_of c.item-item.result = c.as_slice-prims.ensures ∙ ap (λ (i : Item). i.prims) c.deref.ensures in
    subst (AllWithin c.args.n) (sym e) (tour_within c.args.n c.as_slice-item-items.result.now c.items.item-index c.items.at c.items.held c.items.moves.items c.item-item.result c.items-test.true c.item-item.is c.items.invariant.tour)

pub returns-in-Over-clause-taken : goal.returns-in-Over-clause-taken
returns-in-Over-clause-taken g c =
    let e : c.as_slice-prims.result.now ≡ prims_of c.item-item.result = c.as_slice-prims.ensures ∙ ap (λ (i : Item). i.prims) c.deref.ensures in
    subst (λ L. Fills c.args.n (run_of L) (passed (overrun_of c.in-Over.evidence) c.take_prims.new.moves.items)) c.as_slice-item-items.ensures.value
    (tour_over c.args.n c.as_slice-item-items.result.now c.items.item-index c.items.at c.items.held c.items.moves.items c.take_prims.new.moves.items c.item-item.result c.as_slice-prims.result.now c.in_ok-sum.field-0 c.in-Over.evidence
    c.items-test.true c.item-item.is e c.items.invariant.tour c.in-Over.is c.in_ok-sum.ensures.taken)

pub items-preserved : goal.items-preserved
items-preserved g c =
    let e : c.as_slice-prims.result.now ≡ prims_of c.item-item.result = c.as_slice-prims.ensures ∙ ap (λ (i : Item). i.prims) c.deref.ensures in
    record {
      tour = tour_more c.args.n c.as_slice-item-items.result.now c.items.item-index c.items.at _ c.items.held c.in-Going.sum c.items.moves.items c.take_prims.new.moves.items c.item-item.result c.as_slice-prims.result.now c.in_ok-sum.field-0
          c.items-test.true c.item-item.is e refl c.items.invariant.tour c.in-Going.is c.in_ok-sum.ensures.taken c.in_ok-sum.ensures.usable;
      table = c.in_ok-sum.ensures.table;
      never_falls = omega (arith, c.items.invariant.never_falls, c.take_prims.ensures.never_falls);
    }

pub returns-clause-taken : goal.returns-clause-taken
returns-clause-taken g c =
    subst (λ L. IsProgress c.args.n (run_of L) [] c.items.held (length (run_of L)) c.items.moves.items) c.as_slice-item-items.ensures.value
    (tour_end c.args.n c.as_slice-item-items.result.now c.items.item-index c.items.at c.items.held c.items.moves.items c.items-test.false c.items.invariant.tour)
