use Rattle.ps_calls.proofs.Views.{below_same, grows-same, refused-grows}
use Rattle.ps_calls.proofs.Stages.{filling_starves, publish_ends, publish_cut}
use Rattle.ps_calls.proofs.settling.fill_one.Goals as goal

pub returns-in-Ok-turn-clause-ends : goal.returns-in-Ok-turn-clause-ends
returns-in-Ok-turn-clause-ends g c = λ at n k.
    let low = below_same _ _ c.number-seat.ensures.number c.number-seat.ensures.below in
    publish_ends at n c.in-Ok.filled low c.turn.ensures.stays c.in-Ok-turn.ensures.done c.in-Ok.ensures k c.end_of.ensures

pub returns-in-Err-clause-grows : goal.returns-in-Err-clause-grows
returns-in-Err-clause-grows g c = refused-grows c.turn.ensures.stays c.in-Err.ensures.full

pub returns-in-Err-clause-cut : goal.returns-in-Err-clause-cut
returns-in-Err-clause-cut g c = λ at n k. publish_cut at n c.in-Err.ensures.full k

pub returns-in_default : goal.returns-in_default
returns-in_default g c = record {
  grows = grows-same _;
  ends = λ at n k. filling_starves at n k;
  below = λ few. few;
  cut = tt;
}
