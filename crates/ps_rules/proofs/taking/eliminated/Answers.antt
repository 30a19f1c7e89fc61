use Rattle.std.proofs.Common.{arith, rules, refl, ◌∙◌, ap, pos, ◌+ℤ◌}
use mir.Syntax.{w32}
use mir.Val.{SFits}
use Rattle.std.proofs.lemmas.Int.{to_z-of_z}
use Rattle.ps_rules.proofs.Takes.{elim_kept, elim_taken, scale_bounds, settled_at, polys_at}
use Rattle.ps_rules.proofs.taking.eliminated.Goals as goal

pub invariant_of-result : goal.invariant_of-result
invariant_of-result c =
    let s = elim_kept c.args.sum c.args.y0 c.closed_phase.result c.closed_outs.result c.requires.applies (settled_at _ _ _ _ c.within-gone.ensures.gone c.closed_phase.ensures) (polys_at _ _ _ _ c.within-gone.ensures.gone c.closed_outs.ensures) in
    let f : SFits w32 c.two_less.result = search rules in
    let g : SFits w32 c.args.sum.k = search rules in
    record {
      qubits = c.args.sum.qubits;
      named = (let h = c.args.sum.named in omega arith);
      scaled = rw (to_z-of_z w32 c.two_less.result f) (scale_bounds c.two_less.result c.args.sum.k 2 (c.two_less.ensures ∙ to_z-of_z w32 c.args.sum.k g) c.requires.scale c.args.sum.scaled.1 (omega arith));
      phase_below = s.phase_below;
      outs_below = s.outs_below;
      width = s.width;
      formed = s.formed;
    }

pub returns : goal.returns
returns c =
    let f : SFits w32 c.two_less.result = search rules in
    let g : SFits w32 c.args.sum.k = search rules in
    elim_taken c.args.sum _ c.args.y0 c.requires.applies refl refl (ap (λ x. x +ℤ pos 2) (to_z-of_z w32 c.two_less.result f) ∙ c.two_less.ensures ∙ to_z-of_z w32 c.args.sum.k g) (settled_at _ _ _ _ c.within-gone.ensures.gone c.closed_phase.ensures) (polys_at _ _ _ _ c.within-gone.ensures.gone c.closed_outs.ensures)
