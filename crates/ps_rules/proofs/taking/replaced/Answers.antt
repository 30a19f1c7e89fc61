use Rattle.std.proofs.Common.{arith, rules, refl, ◌∙◌, ap, pos, ◌+ℤ◌}
use mir.Syntax.{w32}
use mir.Val.{SFits}
use Rattle.std.proofs.lemmas.Int.{to_z-of_z}
use Rattle.ps_rules.proofs.Takes.{products_under, outs_under, sorted_outs, hh_parts, hh_kept, hh_taken, scale_bounds, into_value, into_known}
use Rattle.ps_rules.proofs.taking.replaced.Goals as goal

pub closed_phase_twice-extra-requires-clause-below : goal.closed_phase_twice-extra-requires-clause-below
closed_phase_twice-extra-requires-clause-below c u h = products_under c.args.sum c.args.y0 c.args.y1 c.args.parts.now.poly c.in_ok-products.products c.requires.quotient (into_known c.args.sum c.args.y0 c.args.y1 c.args.parts.now.poly c.args.parts.now.into c.in_ok-products.products c.requires.into c.in_ok-products.ensures.variables) u (let e = c.within-high.ensures.names in omega arith)

pub closed_outs_twice-requires-clause-high : goal.closed_outs_twice-requires-clause-high
closed_outs_twice-requires-clause-high c = (sorted_outs c.args.sum c.args.y0 c.args.y1 c.args.parts.now.poly c.within-low.result.gone c.within-high.result.gone c.in_ok-outs.outs c.requires.applies c.requires.quotient (c.within-high.ensures.gone ∙ c.max.ensures) (c.within-low.ensures.gone ∙ c.min.ensures) c.in_ok-outs.ensures).1

pub closed_outs_twice-requires-clause-low : goal.closed_outs_twice-requires-clause-low
closed_outs_twice-requires-clause-low c = (sorted_outs c.args.sum c.args.y0 c.args.y1 c.args.parts.now.poly c.within-low.result.gone c.within-high.result.gone c.in_ok-outs.outs c.requires.applies c.requires.quotient (c.within-high.ensures.gone ∙ c.max.ensures) (c.within-low.ensures.gone ∙ c.min.ensures) c.in_ok-outs.ensures).0

pub closed_outs_twice-requires-clause-below : goal.closed_outs_twice-requires-clause-below
closed_outs_twice-requires-clause-below c u h = outs_under c.args.sum c.args.y1 c.args.parts.now.poly c.in_ok-outs.outs c.requires.quotient.known c.in_ok-outs.ensures u (let e = c.within-high.ensures.names in omega arith)

pub invariant_of-result : goal.invariant_of-result
invariant_of-result c =
    let p = hh_parts c.args.sum c.args.y0 c.args.y1 c.args.parts.now.poly c.within-low.result.gone c.within-high.result.gone c.in_ok-products.products _ c.closed_phase_twice-extra.result _ c.closed_phase_twice-phase.result c.add_to.new.self c.in_ok-outs.outs _ c.closed_outs_twice.result
    c.requires.applies (c.within-high.ensures.gone ∙ c.max.ensures) (c.within-low.ensures.gone ∙ c.min.ensures) (into_value c.args.sum c.args.y0 c.args.y1 c.args.parts.now.poly c.args.parts.now.into c.in_ok-products.products c.requires.into c.in_ok-products.ensures.value) (into_known c.args.sum c.args.y0 c.args.y1 c.args.parts.now.poly c.args.parts.now.into c.in_ok-products.products c.requires.into c.in_ok-products.ensures.variables) refl c.closed_phase_twice-extra.ensures refl c.closed_phase_twice-phase.ensures c.in_ok-add_to.ensures.value c.in_ok-add_to.ensures.variables
    c.in_ok-add_to.ensures.form c.in_ok-outs.ensures refl c.closed_outs_twice.ensures
    in
    let s = hh_kept c.args.sum c.args.y0 c.args.y1 c.args.parts.now.poly c.within-low.result.gone c.within-high.result.gone c.in_ok-products.products c.closed_phase_twice-phase.result c.closed_phase_twice-extra.result c.add_to.new.self c.in_ok-outs.outs c.closed_outs_twice.result c.requires.applies c.requires.quotient p in
    let f : SFits w32 c.two_less.result = search rules in
    let g : SFits w32 c.args.sum.k = search rules in
    record {
      qubits = c.args.sum.qubits;
      named = (let h = c.args.sum.named in omega arith);
      scaled = rw (to_z-of_z w32 c.two_less.result f) (scale_bounds c.two_less.result c.args.sum.k 2 (c.two_less.ensures ∙ to_z-of_z w32 c.args.sum.k g) c.requires.scale c.args.sum.scaled.1 (omega arith));
      phase_below = s.phase_below;
      outs_below = s.outs_below;
      width = s.width;
      formed = s.formed;
    }

pub returns : goal.returns
returns c =
    let p = hh_parts c.args.sum c.args.y0 c.args.y1 c.args.parts.now.poly c.within-low.result.gone c.within-high.result.gone c.in_ok-products.products _ c.closed_phase_twice-extra.result _ c.closed_phase_twice-phase.result c.add_to.new.self c.in_ok-outs.outs _ c.closed_outs_twice.result
    c.requires.applies (c.within-high.ensures.gone ∙ c.max.ensures) (c.within-low.ensures.gone ∙ c.min.ensures) (into_value c.args.sum c.args.y0 c.args.y1 c.args.parts.now.poly c.args.parts.now.into c.in_ok-products.products c.requires.into c.in_ok-products.ensures.value) (into_known c.args.sum c.args.y0 c.args.y1 c.args.parts.now.poly c.args.parts.now.into c.in_ok-products.products c.requires.into c.in_ok-products.ensures.variables) refl c.closed_phase_twice-extra.ensures refl c.closed_phase_twice-phase.ensures c.in_ok-add_to.ensures.value c.in_ok-add_to.ensures.variables
    c.in_ok-add_to.ensures.form c.in_ok-outs.ensures refl c.closed_outs_twice.ensures
    in
    let f : SFits w32 c.two_less.result = search rules in
    let g : SFits w32 c.args.sum.k = search rules in
    hh_taken c.args.sum _ c.args.y0 c.args.y1 c.args.parts.now.poly c.within-low.result.gone c.within-high.result.gone c.in_ok-products.products c.closed_phase_twice-phase.result c.closed_phase_twice-extra.result c.in_ok-outs.outs c.requires.applies c.requires.quotient refl refl
    (ap (λ x. x +ℤ pos 2) (to_z-of_z w32 c.two_less.result f) ∙ c.two_less.ensures ∙ to_z-of_z w32 c.args.sum.k g) p
