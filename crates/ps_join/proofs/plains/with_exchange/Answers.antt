use Rattle.std.proofs.Common.{◌≡◌, ◌+◌, ◌%◌, ◌∙◌, refl, ap, rules, arith}
use mir.Syntax.{w32}
use mir.Val.{SFits}
use Rattle.ps_phase.specs.Phases.{phase_value}
use Rattle.ps_join.proofs.Merging.{one_k}
use Rattle.ps_join.proofs.PlainJoins.{Exchanged, exchanged_outs}
use Rattle.ps_join.proofs.Puts.{others_there}
use Rattle.ps_join.proofs.plains.with_exchange.Goals as goal

pub invariant_of-result : goal.invariant_of-result
invariant_of-result c =
    let s1 = c.args.first in
    let f : SFits w32 s1.k = search rules in
    let o : Exchanged s1 c.args.c c.args.t c.of.result = exchanged_outs s1 c.args.c c.args.t _ _ _ _ _ c.requires.control c.requires.target c.into_polys-outs.ensures c.index.ensures c.index-2.ensures c.in_ok-sum.ensures.form c.in_ok-sum.ensures.value c.in_ok-sum.ensures.variables c.of.ensures in
    record {
      qubits = s1.qubits;
      named = s1.named;
      scaled = rw (one_k s1.k f) s1.scaled;
      phase_below = s1.phase_below;
      outs_below = o.below;
      width = λ z. o.wide ∙ s1.width (omega (arith, z, o.wide));
      formed = (s1.formed.0, o.polys);
    }

pub returns-clause-behind : goal.returns-clause-behind
returns-clause-behind c =
    let s1 = c.args.first in
    let f : SFits w32 s1.k = search rules in
    let o : Exchanged s1 c.args.c c.args.t c.of.result = exchanged_outs s1 c.args.c c.args.t _ _ _ _ _ c.requires.control c.requires.target c.into_polys-outs.ensures c.index.ensures c.index-2.ensures c.in_ok-sum.ensures.form c.in_ok-sum.ensures.value c.in_ok-sum.ensures.variables c.of.ensures in
    record {
      n_is = refl;
      m_is = refl;
      k_is = one_k s1.k f;
      wide = o.wide;
      phase_is = λ a. let z : phase_value s1.phase a ≡ phase_value s1.phase a + 0 = omega arith in ap (λ k. k % 4294967296) z;
      outs_are = o.outs_are;
    }

pub returns-clause-others : goal.returns-clause-others
returns-clause-others c = others_there c.args.t c.args.first.outs _ _ _ c.into_polys-outs.ensures c.of.ensures
