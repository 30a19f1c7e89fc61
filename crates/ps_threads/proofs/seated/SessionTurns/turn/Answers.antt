use Rattle.std.proofs.lemmas.Result.{IfOk-weaker}
use Rattle.ps_threads.proofs.TurnLaws.{turn_done}
use Rattle.ps_threads.proofs.seated.SessionTurns.turn.Goals as goal

pub returns-clause-done : goal.returns-clause-done
returns-clause-done g c = IfOk-weaker c.turn.result _ _ (λ reply e. turn_done c.args.self.now.seat c.turn.new.seat c.args.cmd reply e) c.turn.ensures.done
