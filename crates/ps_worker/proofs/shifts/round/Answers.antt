use Rattle.ps_worker.proofs.ShiftLaws.{step_is, round_ends}
use Rattle.ps_worker.proofs.shifts.round.Goals as goal

pub returns-in_default : goal.returns-in_default
returns-in_default g c =
    let w = c.work_step.ensures in
    let r = c.rest.ensures in
    record {
      grows = w.grows;
      ends =
          round_ends c.args.listener.now c.rest.new.listener (g.T.Turns.view c.args.turns.now) (g.T.Turns.view c.work_step.new.turns) c.work_step.result
          c.rest.result (step_is c.work_step.result c.in_default.not-Full w.begins w.does) r.rested r.went_on;
    }
