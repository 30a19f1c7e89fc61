use Rattle.std.proofs.Common.{◌≡◌, ◌∙◌, ap, refl, sym, subst, arith, None}
use Rattle.std.specs.Prelude.{IfSome}
use Rattle.ps_sum.specs.declared.sums.PathSum.{PathSum}
use Rattle.ps_join.specs.Joining.{PhaseChain}
use Rattle.ps_join.specs.Changing.{AllShort}
use Rattle.ps_join.specs.Parts.{PhasePart}
use Rattle.ps_join.proofs.Puts.{becomes_at}
use Rattle.ps_join.proofs.Touching.{part_there, gate_fits}
use Rattle.ps_join.proofs.gating.made_behind.Goals as goal

pub returns : goal.returns
returns c =
    let s1 = c.args.first.now in
    let s2 = c.args.gate.now.sum.value in
    let names = c.of_sums-names.result in
    let outs = c.polys-outs.result.now in
    let second = c.deref-second.result.now in
    let paths : names.m2 ≡ s2.m = c.of_sums-names.ensures.m2 ∙ ap (λ (s : PathSum). s.m) c.deref-second.ensures in
    let phase : second.phase ≡ s2.phase = ap (λ (s : PathSum). s.phase) c.deref-second.ensures in
    let polys : c.polys.result.now ≡ s2.outs = c.polys.ensures ∙ ap (λ (s : PathSum). s.outs) c.deref-second.ensures in
    let part : PhasePart names.n names.m1 names.m2 outs second.phase c.in-Some.phase = subst (λ r. IfSome r (λ p. PhasePart names.n names.m1 names.m2 outs second.phase p)) c.in-Some.is c.in_ok-phase.ensures.part in
    let chain : PhaseChain names.n names.m1 names.m2 outs second.phase None = subst (λ r. IfSome r (λ p. PhaseChain names.n names.m1 names.m2 outs second.phase None)) c.in-Some.is c.in_ok-phase.ensures.fits in
    let width : names.n ≡ s1.n = c.of_sums-names.ensures.n ∙ c.bare-sum.ensures.qubits in
    let before : names.m1 ≡ s1.m = c.of_sums-names.ensures.m1 ∙ c.bare-sum.ensures.paths in
    let first : outs ≡ s1.outs = c.polys-outs.ensures ∙ c.bare-sum.ensures.outs in
    record {
      part = part_there s1 s2 names.n names.m1 names.m2 outs second.phase c.in-Some.phase width before paths first phase part;
      output = becomes_at s1 s2 names.n names.m1 names.m2 c.polys.result.now c.in_ok-output.output width before paths polys c.in_ok-output.ensures;
      fits = gate_fits s1 s2 names.n names.m1 names.m2 outs second.phase c.args.gate.now.change width before paths first phase c.requires.qubits c.requires.first_open c.requires.second_open
          (omega (arith, c.if-sum-second-gt-MOST_VARIABLES.false, c.bare-sum.ensures.qubits, c.bare-sum.ensures.paths, ap (λ (s : PathSum). s.m) c.deref-second.ensures)) chain c.args.gate.now.changes c.in_default.not-More (subst AllShort (sym first) (c.if-not-is_short.ensures refl));
    }
