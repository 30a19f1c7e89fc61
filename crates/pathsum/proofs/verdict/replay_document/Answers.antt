use Rattle.std.proofs.Common.{◌∙◌}
use Rattle.pathsum.proofs.Verdicts.{all_within, few_run, replay_told}
use Rattle.pathsum.proofs.verdict.replay_document.Goals as goal

pub replay-requires-clause-first_within : goal.replay-requires-clause-first_within
replay-requires-clause-first_within c = all_within c.args.pair.now.qubits c.args.pair.now.first c.in_ok-first.first.items c.deref.result.now c.deref.ensures.value c.in_ok-first.ensures.run c.args.pair.now.first_within

pub replay-requires-clause-second_within : goal.replay-requires-clause-second_within
replay-requires-clause-second_within c = all_within c.args.pair.now.qubits c.args.pair.now.second c.in_ok-second.second.items c.deref-2.result.now c.deref-2.ensures.value c.in_ok-second.ensures.run c.args.pair.now.second_within

pub replay-requires-clause-first_few : goal.replay-requires-clause-first_few
replay-requires-clause-first_few c = few_run c.in_ok-first.first.items c.args.pair.now.first c.deref.result.now c.deref.ensures.value c.args.pair.now.first_few c.in_ok-first.ensures.few

pub replay-requires-clause-second_few : goal.replay-requires-clause-second_few
replay-requires-clause-second_few c = few_run c.in_ok-second.second.items c.args.pair.now.second c.deref-2.result.now c.deref-2.ensures.value c.args.pair.now.second_few c.in_ok-second.ensures.few

pub returns : goal.returns
returns c = replay_told c.args.pair.now.qubits c.deref.result.now c.deref-2.result.now _ _ c.args.document.now c.in_ok-replayed.replayed _ (c.deref.ensures.value ∙ c.in_ok-first.ensures.run) (c.deref-2.ensures.value ∙ c.in_ok-second.ensures.run) c.in_ok-replayed.ensures.replays c.in_ok-replayed.ensures.sound c.echoed.ensures
