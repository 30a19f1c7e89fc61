use Rattle.std.proofs.Common.{arith, ◌+◌, subst}
use Rattle.ps_calls.specs.Settling.{TakingEnds}
use Rattle.ps_calls.proofs.Views.{grows-same, grows-along}
use Rattle.ps_calls.proofs.settling.settle.Goals as goal

pub rounds-init : goal.rounds-init
rounds-init g c = record { grows = grows-same _; asks = λ at k. (0, k) }

pub take_round-requires : goal.take_round-requires
take_round-requires g c = let w = c.rounds.invariant.asks c.requires.0 c.requires.1 in (c.requires.0, w.0, w.1)

pub rounds-preserved : goal.rounds-preserved
rounds-preserved g c = record {
  grows = grows-along c.rounds.invariant.grows c.take_round.ensures.grows;
  asks = λ at k.
      let w = c.rounds.invariant.asks at k in
      (w.0 + 1, subst (TakingEnds at w.0 (g.T.Turns.view c.take_round.new.turns)) c.in-Ok-None.field-0-is (c.in-Ok-None.ensures.ends at w.0 w.1));
}

pub rounds-smaller : goal.rounds-smaller
rounds-smaller g c = omega (arith, c.in-Ok-None.ensures.longer, c.in-Ok-None.ensures.below)

pub returns-in-Ok-Some-clause-grows : goal.returns-in-Ok-Some-clause-grows
returns-in-Ok-Some-clause-grows g c = grows-along c.rounds.invariant.grows c.take_round.ensures.grows

pub returns-in-Ok-Some-clause-ends : goal.returns-in-Ok-Some-clause-ends
returns-in-Ok-Some-clause-ends g c = λ at k.
    let w = c.rounds.invariant.asks at k in
    subst (TakingEnds at w.0 (g.T.Turns.view c.take_round.new.turns)) c.in-Ok-Some.field-0-is (c.in-Ok-Some.ensures.ends at w.0 w.1)

pub returns-in-Err-clause-grows : goal.returns-in-Err-clause-grows
returns-in-Err-clause-grows g c = grows-along c.rounds.invariant.grows c.take_round.ensures.grows

pub returns-in-Err-clause-cut : goal.returns-in-Err-clause-cut
returns-in-Err-clause-cut g c = λ at k. let w = c.rounds.invariant.asks at k in c.in-Err.ensures.cut at w.0 w.1
