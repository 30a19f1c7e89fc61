use Rattle.std.proofs.Common.{◌≡◌, refl, rules, ◌∙◌}
use mir.Syntax.{w32}
use mir.Val.{SFits}
use Rattle.std.proofs.lemmas.List.{take_all}
use Rattle.ps_sum.proofs.Uniqueness.{sum_ext}
use Rattle.ps_join.proofs.Merging.{one_k, copied_parts}
use Rattle.ps_join.proofs.joins.copied.Goals as goal

pub invariant_of-result : goal.invariant_of-result
invariant_of-result c =
    let s = c.args.sum.now in
    let f : SFits w32 s.k = search rules in
    let outs : c.of.result ≡ s.outs = c.of.ensures ∙ c.loop-output.invariant ∙ take_all _ _ c.loop-output-test.false ∙ c.polys-output-items.ensures in
    let p = copied_parts s c.in_ok-phase.phase c.of.result c.in_ok-phase.ensures.same outs in
    record {
      qubits = s.qubits;
      named = s.named;
      scaled = rw (one_k s.k f) s.scaled;
      phase_below = p.phase_below;
      outs_below = p.outs_below;
      width = p.width;
      formed = p.formed;
    }

pub returns : goal.returns
returns c =
    let s = c.args.sum.now in
    let f : SFits w32 s.k = search rules in
    let outs : c.of.result ≡ s.outs = c.of.ensures ∙ c.loop-output.invariant ∙ take_all _ _ c.loop-output-test.false ∙ c.polys-output-items.ensures in
    sum_ext _ s refl refl (one_k s.k f) c.in_ok-phase.ensures.same outs
