use Rattle.std.proofs.Common.{refl, arith}
use Rattle.ps_calls.proofs.Views.{refused-grows}
use Rattle.ps_worker.proofs.StepLaws.{turn_then, nothing_more, ends_told, does_less, refused_does}
use Rattle.ps_worker.proofs.steps.publish.Goals as goal

pub returns-in-Ok-clause-does : goal.returns-in-Ok-clause-does
returns-in-Ok-clause-does g c =
    turn_then c.turn.ensures.stays c.in-Ok.ensures.done tt refl (record { task = c.args.task.now; given = c.requires.given.given; filled = c.requires.filled })
    (nothing_more (ends_told c.turn.ensures.stays c.in-Ok.ensures.done c.answer_of.result c.answer_of.ensures))

pub returns-in-Err-clause-grows : goal.returns-in-Err-clause-grows
returns-in-Err-clause-grows g c = refused-grows c.turn.ensures.stays c.in-Err.ensures.full

pub returns-in-Err-clause-does : goal.returns-in-Err-clause-does
returns-in-Err-clause-does g c = does_less (omega arith) (refused_does c.turn.ensures.stays c.in-Err.ensures.full)
