use Rattle.std.proofs.Common.{Some}
use Rattle.ps_calls.proofs.Views.{below_same, turned-grows, refused-grows, grows-along, turned_as}
use Rattle.ps_calls.proofs.Stages.{asking, pinned_asks, end_width}
use Rattle.ps_calls.proofs.Endings.{ask_refused, ask_cut, ask_cut_short}
use Rattle.ps_calls.proofs.Calls.{turn_grows, ask_dones, ask_cuts}
use Rattle.ps_calls.proofs.questions.ask.Goals as goal

pub returns-in-Err : goal.returns-in-Err
returns-in-Err g c = record {
  grows = refused-grows c.turn.ensures.stays c.in-Err.ensures.full;
  done = tt;
  cut = λ k w. ask_cut c.args.question k w c.turn.ensures.stays c.in-Err.ensures.full;
}

pub returns-in_default : goal.returns-in_default
returns-in_default g c = record {
  grows = turned-grows c.turn.ensures.stays c.in-Ok.ensures.done;
  done = λ k w. ask_refused c.args.question k w c.turn.ensures.stays c.in-Ok.ensures.done c.in_default.not-Pinned;
  cut = tt;
}

pub settle-requires : goal.settle-requires
settle-requires g c =
    let q = c.args.question in
    let a = g.T.Turns.view c.args.turns.now in
    let low = below_same _ _ c.number-seat.ensures.number c.number-seat.ensures.below in
    let asks = pinned_asks q.first (Some q.second) c.turn.ensures.stays low (turned_as c.in-Pinned.is c.in-Ok.ensures.done) in
    (asking a q.first (Some q.second), asks)

pub concluded-outcome-requires : goal.concluded-outcome-requires
concluded-outcome-requires g c =
    let q = c.args.question in
    let a = g.T.Turns.view c.args.turns.now in
    let low = below_same _ _ c.number-seat.ensures.number c.number-seat.ensures.below in
    let asks = pinned_asks q.first (Some q.second) c.turn.ensures.stays low (turned_as c.in-Pinned.is c.in-Ok.ensures.done) in
    let ends = c.in-Ok-settle.ensures.ends (asking a q.first (Some q.second)) asks in
    end_width a.number _ q.first q.second (g.T.Turns.view c.settle.new.turns) c.in-Ok-settle.end ends

pub returns-in-Err-settle : goal.returns-in-Err-settle
returns-in-Err-settle g c =
    let q = c.args.question in
    let a = g.T.Turns.view c.args.turns.now in
    let low = below_same _ _ c.number-seat.ensures.number c.number-seat.ensures.below in
    let asks = pinned_asks q.first (Some q.second) c.turn.ensures.stays low (turned_as c.in-Pinned.is c.in-Ok.ensures.done) in
    let grows = grows-along (turned-grows c.turn.ensures.stays c.in-Ok.ensures.done) c.settle.ensures.grows in
    record {
      grows = grows;
      done = tt;
      cut = λ k w. ask_cut_short q k w grows.stays (c.in-Err-settle.ensures.cut (asking a q.first (Some q.second)) asks);
    }

pub returns : goal.returns
returns g c =
    let q = c.args.question in
    let a = g.T.Turns.view c.args.turns.now in
    let low = below_same _ _ c.number-seat.ensures.number c.number-seat.ensures.below in
    let asks = pinned_asks q.first (Some q.second) c.turn.ensures.stays low (turned_as c.in-Pinned.is c.in-Ok.ensures.done) in
    let v = g.T.Turns.view c.settle.new.turns in
    let w = g.T.Turns.view c.turn-2.new.self in
    let ends = c.in-Ok-settle.ensures.ends (asking a q.first (Some q.second)) asks in
    let before = grows-along (turned-grows c.turn.ensures.stays c.in-Ok.ensures.done) c.settle.ensures.grows in
    let grows = grows-along before (turn_grows _ c.turn-2.result c.turn-2.ensures.stays c.turn-2.ensures.done c.turn-2.ensures.full) in
    record {
      grows = grows;
      done = ask_dones a v w q c.turn-2.result c.in-Ok-settle.end c.concluded-outcome.result low before.stays c.turn-2.ensures.stays ends
          c.concluded-outcome.ensures c.turn-2.ensures.done;
      cut = ask_cuts a v w q c.turn-2.result c.in-Ok-settle.end grows.stays ends c.turn-2.ensures.full;
    }
