use Rattle.std.proofs.Common.{arith, rules, refl, ◌∙◌, ap, pos, ◌+ℤ◌}
use mir.Syntax.{w32}
use mir.Val.{SFits}
use Rattle.std.proofs.lemmas.Int.{to_z-of_z}
use Rattle.ps_rules.proofs.Takes.{omega_kept, omega_taken, scale_bounds, settled_at, polys_at}
use Rattle.ps_rules.proofs.taking.quartered.Goals as goal

pub invariant_of-result : goal.invariant_of-result
invariant_of-result c =
    let s = omega_kept c.args.sum c.args.y0 c.args.poly.now c.closed_phase-phase.result c.in_ok-eighth_turn.field-0 c.closed_phase-extra.result c.add_to.new.self c.closed_outs.result c.requires.applies c.requires.quotient (settled_at _ _ _ _ c.within-gone.ensures.gone c.closed_phase-phase.ensures) (settled_at _ _ _ _ c.within-gone.ensures.gone c.closed_phase-extra.ensures)
    c.in_ok-eighth_turn.ensures.variables c.in_ok-add_to.ensures.variables c.in_ok-add_to.ensures.form (polys_at _ _ _ _ c.within-gone.ensures.gone c.closed_outs.ensures)
    in
    let f : SFits w32 c.one_less.result = search rules in
    let g : SFits w32 c.args.sum.k = search rules in
    record {
      qubits = c.args.sum.qubits;
      named = (let h = c.args.sum.named in omega arith);
      scaled = rw (to_z-of_z w32 c.one_less.result f) (scale_bounds c.one_less.result c.args.sum.k 1 (c.one_less.ensures ∙ to_z-of_z w32 c.args.sum.k g) c.requires.scale c.args.sum.scaled.1 (omega arith));
      phase_below = s.phase_below;
      outs_below = s.outs_below;
      width = s.width;
      formed = s.formed;
    }

pub returns : goal.returns
returns c =
    let f : SFits w32 c.one_less.result = search rules in
    let g : SFits w32 c.args.sum.k = search rules in
    omega_taken c.args.sum _ c.args.y0 c.args.poly.now c.closed_phase-phase.result c.in_ok-eighth_turn.field-0 c.closed_phase-extra.result c.requires.applies c.requires.quotient refl refl (ap (λ x. x +ℤ pos 1) (to_z-of_z w32 c.one_less.result f) ∙ c.one_less.ensures ∙ to_z-of_z w32 c.args.sum.k g)
    (settled_at _ _ _ _ c.within-gone.ensures.gone c.closed_phase-phase.ensures) (settled_at _ _ _ _ c.within-gone.ensures.gone c.closed_phase-extra.ensures) c.in_ok-eighth_turn.ensures.value c.in_ok-eighth_turn.ensures.variables c.in_ok-add_to.ensures.value (polys_at _ _ _ _ c.within-gone.ensures.gone c.closed_outs.ensures)
