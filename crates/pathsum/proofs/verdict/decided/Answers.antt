use Rattle.std.proofs.Common.{◌∙◌}
use Rattle.pathsum.proofs.Verdicts.{can_run}
use Rattle.pathsum.proofs.verdict.decided.Goals as goal

pub decide-requires-clause-first : goal.decide-requires-clause-first
decide-requires-clause-first c = can_run c.args.pair.qubits c.args.pair.first c.in_ok-first.first.value (c.in_ok-first.ensures.ok ∙ c.segment.ensures) c.args.pair.first_few c.args.pair.first_within

pub decide-requires-clause-second : goal.decide-requires-clause-second
decide-requires-clause-second c = can_run c.args.pair.qubits c.args.pair.second c.in_ok-second.second.value (c.in_ok-second.ensures.ok ∙ c.segment-2.ensures) c.args.pair.second_few c.args.pair.second_within
