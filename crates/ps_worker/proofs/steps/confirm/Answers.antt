use Rattle.std.proofs.Common.{refl, arith}
use Rattle.ps_calls.proofs.Views.{turned-grows, refused-grows, grows-along, turned_as}
use Rattle.ps_worker.proofs.StepLaws.{turn_then, nothing_more, ends_told, does_less, refused_does, still_given}
use Rattle.ps_worker.proofs.steps.confirm.Goals as goal

pub returns-in-Err-clause-grows : goal.returns-in-Err-clause-grows
returns-in-Err-clause-grows g c = refused-grows c.turn.ensures.stays c.in-Err.ensures.full

pub returns-in-Err-clause-does : goal.returns-in-Err-clause-does
returns-in-Err-clause-does g c = does_less (omega arith) (refused_does c.turn.ensures.stays c.in-Err.ensures.full)

pub returns-in_default : goal.returns-in_default
returns-in_default g c = record {
  grows = turned-grows c.turn.ensures.stays c.in-Ok.ensures.done;
  does =
      does_less (omega arith)
      (turn_then c.turn.ensures.stays c.in-Ok.ensures.done tt refl tt
      (nothing_more (ends_told c.turn.ensures.stays c.in-Ok.ensures.done c.answer_of.result c.answer_of.ensures)));
}

pub finish-requires : goal.finish-requires
finish-requires g c = still_given c.turn.ensures.stays (turned_as c.in-Stands.is c.in-Ok.ensures.done) c.requires

pub returns-clause-grows : goal.returns-clause-grows
returns-clause-grows g c = grows-along (turned-grows c.turn.ensures.stays c.in-Ok.ensures.done) c.finish.ensures.grows

pub returns-clause-does : goal.returns-clause-does
returns-clause-does g c = turn_then c.turn.ensures.stays c.in-Ok.ensures.done tt refl tt c.finish.ensures.does
