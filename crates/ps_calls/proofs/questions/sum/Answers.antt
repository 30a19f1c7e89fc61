use Rattle.std.proofs.Common.{None}
use Rattle.ps_calls.proofs.Views.{below_same, turned-grows, refused-grows, grows-along, turned_as}
use Rattle.ps_calls.proofs.Stages.{asking, pinned_asks}
use Rattle.ps_calls.proofs.Endings.{sum_refused_done, sum_cut, sum_cut_short}
use Rattle.ps_calls.proofs.Calls.{turn_grows, sum_dones, sum_cuts}
use Rattle.ps_calls.proofs.questions.sum.Goals as goal

pub returns-in-Err : goal.returns-in-Err
returns-in-Err g c = record {
  grows = refused-grows c.turn.ensures.stays c.in-Err.ensures.full;
  done = tt;
  cut = sum_cut c.args.place c.turn.ensures.stays c.in-Err.ensures.full;
}

pub returns-in_default : goal.returns-in_default
returns-in_default g c = record {
  grows = turned-grows c.turn.ensures.stays c.in-Ok.ensures.done;
  done = sum_refused_done c.args.place c.turn.ensures.stays c.in-Ok.ensures.done c.in_default.not-Pinned;
  cut = tt;
}

pub settle-requires : goal.settle-requires
settle-requires g c =
    let a = g.T.Turns.view c.args.turns.now in
    let low = below_same _ _ c.number-seat.ensures.number c.number-seat.ensures.below in
    let asks = pinned_asks c.args.place None c.turn.ensures.stays low (turned_as c.in-Pinned.is c.in-Ok.ensures.done) in
    (asking a c.args.place None, asks)

pub returns-in-Err-settle : goal.returns-in-Err-settle
returns-in-Err-settle g c =
    let a = g.T.Turns.view c.args.turns.now in
    let low = below_same _ _ c.number-seat.ensures.number c.number-seat.ensures.below in
    let asks = pinned_asks c.args.place None c.turn.ensures.stays low (turned_as c.in-Pinned.is c.in-Ok.ensures.done) in
    let grows = grows-along (turned-grows c.turn.ensures.stays c.in-Ok.ensures.done) c.settle.ensures.grows in
    record {
      grows = grows;
      done = tt;
      cut = sum_cut_short c.args.place grows.stays (c.in-Err-settle.ensures.cut (asking a c.args.place None) asks);
    }

pub returns : goal.returns
returns g c =
    let a = g.T.Turns.view c.args.turns.now in
    let low = below_same _ _ c.number-seat.ensures.number c.number-seat.ensures.below in
    let asks = pinned_asks c.args.place None c.turn.ensures.stays low (turned_as c.in-Pinned.is c.in-Ok.ensures.done) in
    let v = g.T.Turns.view c.settle.new.turns in
    let w = g.T.Turns.view c.turn-2.new.self in
    let ends = c.in-Ok-settle.ensures.ends (asking a c.args.place None) asks in
    let before = grows-along (turned-grows c.turn.ensures.stays c.in-Ok.ensures.done) c.settle.ensures.grows in
    let grows = grows-along before (turn_grows _ c.turn-2.result c.turn-2.ensures.stays c.turn-2.ensures.done c.turn-2.ensures.full) in
    record {
      grows = grows;
      done = sum_dones a v w c.args.place c.turn-2.result c.in-Ok-settle.end c.summed-outcome.result low before.stays c.turn-2.ensures.stays ends
          c.summed-outcome.ensures c.turn-2.ensures.done;
      cut = sum_cuts a v w c.args.place c.turn-2.result c.in-Ok-settle.end grows.stays ends c.turn-2.ensures.full;
    }
