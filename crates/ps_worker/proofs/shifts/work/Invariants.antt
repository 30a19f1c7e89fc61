use Rattle.std.proofs.Common.{◌≤◌}
use Rattle.ps_calls.specs.Calls.{Grows, own}
use Rattle.ps_worker.proofs.ShiftLaws.{Shifted}
use Rattle.ps_worker.proofs.shifts.work.Given as goal

abbrev pub invariant-loop : goal.invariant-loop
invariant-loop g l =
    record {
      grows : Grows (g.T.Turns.view l.fn.turns) (g.T.Turns.view l.turns);
      few : l.counter ≤ 2730;
      shifted : Shifted l.fn.listener l.listener (own (g.T.Turns.view l.fn.turns)) (own (g.T.Turns.view l.turns)) l.counter;
    }
