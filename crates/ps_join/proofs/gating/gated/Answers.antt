use Rattle.std.proofs.lemmas.Result.{IfOk-weaker}
use Rattle.ps_join.specs.Widening.{CanWiden}
use Rattle.ps_join.proofs.Puts.{part_named, gate_outputs, gate_joined}
use Rattle.ps_join.proofs.gating.gated.Goals as goal

pub added-requires : goal.added-requires
added-requires c = part_named c.args.first c.args.second.now c.in_ok-widened.widened c.args.behind.output c.args.behind.phase c.requires.part c.in_ok-widened.ensures

pub returns : goal.returns
returns c =
    let s1 = c.args.first in
    let s2 = c.args.second.now in
    let w = c.in_ok-widened.widened in
    let can : CanWiden s1 s2 c.args.behind.output = record { qubits = c.requires.qubits; first_open = c.requires.first_open; second_open = c.requires.second_open; named = c.requires.named; scaled = c.requires.scaled; output = c.requires.output } in
    record {
      sum = IfOk-weaker c.added.result _ _ (λ s a. gate_joined s1 s2 w s c.args.behind.output c.args.behind.phase can c.requires.part c.in_ok-widened.ensures a) c.added.ensures;
      wide = IfOk-weaker c.added.result _ _ (λ s a. (gate_outputs s1 s2 w s c.args.behind.output c.args.behind.phase can c.in_ok-widened.ensures a).wide) c.added.ensures;
    }
