use Rattle.std.proofs.Common.{ap, arith}
use Rattle.ps_calls.proofs.Views.{grows-same, grows-along}
use Rattle.ps_calls.specs.Calls.{own}
use Rattle.ps_worker.specs.Hearings.{Hearing}
use Rattle.ps_worker.proofs.ShiftLaws.{shifted_none, shifted_heard, shifted_adds, round_works, round_adds, round_shifts}
use Rattle.ps_worker.proofs.shifts.work.Goals as goal

pub loop-init : goal.loop-init
loop-init g c = record { grows = grows-same _; few = omega arith; shifted = shifted_none c.args.listener.now (own (g.T.Turns.view c.args.turns.now)) }

pub returns-then-closed-clause-adds : goal.returns-then-closed-clause-adds
returns-then-closed-clause-adds g c = shifted_adds c.loop.invariant.few c.loop.invariant.shifted

pub returns-in-Some-clause-works : goal.returns-in-Some-clause-works
returns-in-Some-clause-works g c =
    let waits = ap (λ (h : Hearing). h.waits) c.closed.ensures.heard in
    let s = shifted_heard c.loop.invariant.shifted (omega (arith, waits)) c.closed.ensures.never_falls in
    round_works c.args.listener.now c.closed.new.self c.round.new.listener (g.T.Turns.view c.args.turns.now) (g.T.Turns.view c.loop.turns)
    (g.T.Turns.view c.round.new.turns) c.loop.counter s c.loop-test.true c.in-Some.leaving c.in-Some.ensures.ends

pub returns-in-Some-clause-adds : goal.returns-in-Some-clause-adds
returns-in-Some-clause-adds g c =
    let waits = ap (λ (h : Hearing). h.waits) c.closed.ensures.heard in
    let s = shifted_heard c.loop.invariant.shifted (omega (arith, waits)) c.closed.ensures.never_falls in
    round_adds c.args.listener.now c.closed.new.self c.round.new.listener (g.T.Turns.view c.args.turns.now) (g.T.Turns.view c.loop.turns)
    (g.T.Turns.view c.round.new.turns) c.loop.counter s c.loop-test.true c.in-Some.leaving c.in-Some.ensures.ends

pub loop-preserved : goal.loop-preserved
loop-preserved g c =
    let waits = ap (λ (h : Hearing). h.waits) c.closed.ensures.heard in
    let s = shifted_heard c.loop.invariant.shifted (omega (arith, waits)) c.closed.ensures.never_falls in
    record {
      grows = grows-along c.loop.invariant.grows c.round.ensures.grows;
      few = omega (arith, c.loop-test.true);
      shifted =
          round_shifts c.args.listener.now c.closed.new.self c.round.new.listener (g.T.Turns.view c.args.turns.now) (g.T.Turns.view c.loop.turns)
          (g.T.Turns.view c.round.new.turns) c.loop.counter s c.loop-test.true c.round.result c.in_default.not-Some c.round.ensures.ends;
    }

pub returns-clause-adds : goal.returns-clause-adds
returns-clause-adds g c = shifted_adds c.loop.invariant.few c.loop.invariant.shifted
