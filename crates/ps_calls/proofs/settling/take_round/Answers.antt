use Rattle.std.proofs.Common.{ap, sym, ◌∙◌, arith}
use Rattle.ps_journal.specs.declared.replies.Reply.TheVariants.{Task}
use Rattle.ps_calls.proofs.Views.{below_same, turned-grows, refused-grows, grows-along, grows-longer, turned-longer, turned-below, turned_as}
use Rattle.ps_calls.proofs.Stages.{next_fills, next_settles, next_starves, next_cut}
use Rattle.ps_calls.proofs.Calls.{on_ok, fills_ends, fills_cut}
use Rattle.ps_calls.proofs.settling.take_round.Goals as goal

pub returns-in-Err : goal.returns-in-Err
returns-in-Err g c = record {
  grows = refused-grows c.turn.ensures.stays c.in-Err.ensures.full;
  ends = tt;
  longer = tt;
  below = tt;
  cut = λ at n k. next_cut at n c.in-Err.ensures.full k;
}

pub fill_one-requires : goal.fill_one-requires
fill_one-requires g c =
    let low = below_same _ _ c.number-seat.ensures.number c.number-seat.ensures.below in
    let turned = turned_as (c.in-Task.is ∙ ap Task (sym c.get.ensures)) c.in-Ok.ensures.done in
    (c.requires.0, c.requires.1, next_fills c.requires.0 c.requires.1 low c.turn.ensures.stays turned c.requires.2)

pub returns-in-Task : goal.returns-in-Task
returns-in-Task g c =
    let a = g.T.Turns.view c.args.turns.now in
    let v = g.T.Turns.view c.turn.new.self in
    let w = g.T.Turns.view c.fill_one.new.turns in
    let low = below_same _ _ c.number-seat.ensures.number c.number-seat.ensures.below in
    let turned = turned_as (c.in-Task.is ∙ ap Task (sym c.get.ensures)) c.in-Ok.ensures.done in
    record {
      grows = grows-along (turned-grows c.turn.ensures.stays turned) c.fill_one.ensures.grows;
      ends = fills_ends a v w c.get.result.now low c.turn.ensures.stays turned c.fill_one.result c.fill_one.ensures.ends;
      longer = on_ok c.fill_one.result (omega (arith, turned-longer a v _ _ turned, grows-longer v w c.fill_one.ensures.grows));
      below = on_ok c.fill_one.result (c.fill_one.ensures.below (turned-below a v _ _ turned));
      cut = fills_cut a v w c.get.result.now low c.turn.ensures.stays turned c.fill_one.result c.fill_one.ensures.cut;
    }

pub returns-in-Settled : goal.returns-in-Settled
returns-in-Settled g c =
    let a = g.T.Turns.view c.args.turns.now in
    let v = g.T.Turns.view c.turn.new.self in
    let low = below_same _ _ c.number-seat.ensures.number c.number-seat.ensures.below in
    let turned = turned_as c.in-Settled.is c.in-Ok.ensures.done in
    record {
      grows = turned-grows c.turn.ensures.stays turned;
      ends = λ at n k. next_settles at n low c.turn.ensures.stays turned k;
      longer = turned-longer a v _ _ turned;
      below = turned-below a v _ _ turned;
      cut = tt;
    }

pub returns : goal.returns
returns g c =
    let a = g.T.Turns.view c.args.turns.now in
    let v = g.T.Turns.view c.turn.new.self in
    let low = below_same _ _ c.number-seat.ensures.number c.number-seat.ensures.below in
    record {
      grows = turned-grows c.turn.ensures.stays c.in-Ok.ensures.done;
      ends = λ at n k. next_starves at n low c.turn.ensures.stays c.in-Ok.ensures.done k c.in_default.not-Task c.in_default.not-Settled;
      longer = turned-longer a v _ _ c.in-Ok.ensures.done;
      below = turned-below a v _ _ c.in-Ok.ensures.done;
      cut = tt;
    }
