use Rattle.std.proofs.Common.{ap, sym, ◌∙◌, refl, arith}
use Rattle.ps_journal.specs.declared.replies.Reply.TheVariants.{Task}
use Rattle.ps_calls.proofs.Views.{below_same, turned-grows, refused-grows, grows-along, turned_as}
use Rattle.ps_worker.proofs.StepLaws.{turn_then, nothing_more, ends_told, does_less, refused_does, begins, next_gives}
use Rattle.ps_worker.proofs.steps.work_step.Goals as goal

pub returns-in-Err-clause-grows : goal.returns-in-Err-clause-grows
returns-in-Err-clause-grows g c = refused-grows c.turn.ensures.stays c.in-Err.ensures.full

pub returns-in-Err-clause-does : goal.returns-in-Err-clause-does
returns-in-Err-clause-does g c = does_less (omega arith) (refused_does c.turn.ensures.stays c.in-Err.ensures.full)

pub work_on-requires : goal.work_on-requires
work_on-requires g c =
    let low = below_same _ _ c.number-seat.ensures.number c.number-seat.ensures.below in
    next_gives low c.turn.ensures.stays (turned_as (c.in-Task.is ∙ ap Task (sym c.get.ensures)) c.in-Ok.ensures.done)

pub returns-in-Task-clause-grows : goal.returns-in-Task-clause-grows
returns-in-Task-clause-grows g c = grows-along (turned-grows c.turn.ensures.stays c.in-Ok.ensures.done) c.work_on.ensures.grows

pub returns-in-Task-clause-begins : goal.returns-in-Task-clause-begins
returns-in-Task-clause-begins g c = begins c.work_on.result c.turn.ensures.stays c.in-Ok.ensures.done tt refl tt c.work_on.ensures.does

pub returns-in-Task-clause-does : goal.returns-in-Task-clause-does
returns-in-Task-clause-does g c = turn_then c.turn.ensures.stays c.in-Ok.ensures.done tt refl tt c.work_on.ensures.does

pub returns-in_default : goal.returns-in_default
returns-in_default g c =
    let ended = nothing_more (ends_told c.turn.ensures.stays c.in-Ok.ensures.done c.answer_of.result c.answer_of.ensures) in
    record {
      grows = turned-grows c.turn.ensures.stays c.in-Ok.ensures.done;
      begins = begins c.answer_of.result c.turn.ensures.stays c.in-Ok.ensures.done tt refl tt ended;
      does = does_less (omega arith) (turn_then c.turn.ensures.stays c.in-Ok.ensures.done tt refl tt ended);
    }
