use Rattle.std.proofs.Common.{◌∙◌, ap, refl}
use Rattle.ps_phase.specs.Phases.{phase_occurs}
use Rattle.ps_overlap.proofs.Made.{kept_scale, kept_bounds, no_outs_occur, no_width, no_polys}
use Rattle.ps_probe.proofs.Restricted.{phase_set, not_gathered, none_there}
use Rattle.ps_probe.proofs.restricting.restrict.Goals as goal

pub invariant_of-result : goal.invariant_of-result
invariant_of-result c =
    let e = c.of.ensures ∙ c.new.ensures.items in record {
      qubits = c.args.sum.now.qubits;
      named = c.args.sum.now.named;
      scaled = kept_bounds c.args.sum.now.k c.args.sum.now.k refl c.args.sum.now.scaled;
      phase_below = λ v l. not_gathered v c.push_fixed.new.out.items c.in_ok-gather.field-0 c.in_ok-gather.ensures.variables (c.in_ok-push_fixed.ensures.variables v (ap (phase_occurs v) c.terms.ensures.value ∙ c.args.sum.now.phase_below v l) (none_there v c.new-terms.result.items c.new-terms.ensures.items));
      outs_below = λ v l. no_outs_occur c.of.result e v;
      width = no_width c.of.result c.args.sum.now.n e;
      formed = (c.in_ok-gather.ensures.form, no_polys c.of.result e);
    }

pub returns : goal.returns
returns c = record {
  n_is = refl;
  m_is = refl;
  k_is = kept_scale c.args.sum.now.k c.args.sum.now.k refl c.args.sum.now.scaled;
  no_outs = c.of.ensures ∙ c.new.ensures.items;
  phase_is = phase_set c.args.pattern.now c.new-terms.result.items c.push_fixed.new.out.items c.terms.result.now c.args.sum.now.phase c.in_ok-gather.field-0 c.new-terms.ensures.items c.terms.ensures.value c.in_ok-push_fixed.ensures.value c.in_ok-gather.ensures.value;
  gone = λ v f. not_gathered v c.push_fixed.new.out.items c.in_ok-gather.field-0 c.in_ok-gather.ensures.variables (c.in_ok-push_fixed.ensures.gone v f (none_there v c.new-terms.result.items c.new-terms.ensures.items));
}
