use Rattle.std.proofs.Common.{◌∙◌, refl, sym, subst, length, ap, rules, arith}
use mir.Syntax.{w32}
use mir.Val.{SFits}
use Rattle.std.proofs.Math.IntN.{◌+ℤ◌}
use Rattle.ps_join.specs.Placing.{IsPut}
use Rattle.ps_join.proofs.Merging.{Outputs, two_k}
use Rattle.ps_join.proofs.Puts.{becomes_inside, put_outputs}
use Rattle.ps_join.proofs.running.widened.Goals as goal

pub placed-requires : goal.placed-requires
placed-requires c =
    let s1 = c.args.first in
    let s2 = c.args.second.now in
    let w = s2.width c.requires.second_open ∙ sym c.requires.qubits ∙ sym (s1.width c.requires.first_open) ∙ ap length (sym c.into_polys.ensures) in
    becomes_inside s1.n s1.m s2.m _ s1.outs s2.outs c.args.output w c.requires.output

pub invariant_of-result : goal.invariant_of-result
invariant_of-result c =
    let s1 = c.args.first in
    let s2 = c.args.second.now in
    let f : SFits w32 s1.k = search rules in
    let g : SFits w32 s2.k = search rules in
    let h : SFits w32 (s1.k +ℤ s2.k) = search rules in
    let p : IsPut s1.outs c.args.output c.of.result = subst (IsPut s1.outs c.args.output) (sym c.of.ensures) (subst (λ fs. IsPut fs c.args.output c.in_ok-outs.outs.items) c.into_polys.ensures c.in_ok-outs.ensures) in
    let o : Outputs s1.n s1.m s2.m s1.outs s2.outs c.of.result = put_outputs s1 s2 c.of.result c.args.output c.requires.qubits c.requires.first_open c.requires.second_open c.requires.output p in
    record {
      qubits = s1.qubits;
      named = omega (arith, c.requires.named);
      scaled = rw (two_k s1.k s2.k f g h) c.requires.scaled;
      phase_below = λ v l. s1.phase_below v (omega (arith, l));
      outs_below = o.below;
      width = λ z. o.wide;
      formed = (s1.formed.0, o.polys);
    }

pub returns : goal.returns
returns c =
    let s1 = c.args.first in
    let s2 = c.args.second.now in
    let f : SFits w32 s1.k = search rules in
    let g : SFits w32 s2.k = search rules in
    let h : SFits w32 (s1.k +ℤ s2.k) = search rules in
    record {
      n_is = refl;
      m_is = refl;
      k_is = two_k s1.k s2.k f g h;
      phase_is = refl;
      outs_are = subst (IsPut s1.outs c.args.output) (sym c.of.ensures) (subst (λ fs. IsPut fs c.args.output c.in_ok-outs.outs.items) c.into_polys.ensures c.in_ok-outs.ensures);
    }
