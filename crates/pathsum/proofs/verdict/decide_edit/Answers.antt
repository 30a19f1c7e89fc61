use Rattle.pathsum.proofs.Verdicts.{can_run, within_run}
use Rattle.pathsum.proofs.Edits.{local_told}
use Rattle.pathsum.proofs.verdict.decide_edit.Goals as goal

pub decide_local-requires-clause-first : goal.decide_local-requires-clause-first
decide_local-requires-clause-first c = can_run c.args.pair.qubits c.args.pair.first c.segment-first.result c.segment-first.ensures c.args.pair.first_few c.args.pair.first_within

pub decide_local-requires-clause-second : goal.decide_local-requires-clause-second
decide_local-requires-clause-second c = can_run c.args.pair.qubits c.args.pair.second c.segment-second.result c.segment-second.ensures c.args.pair.second_few c.args.pair.second_within

pub returns : goal.returns
returns c =
    local_told c.args.pair.qubits c.args.pair.first c.args.pair.second c.segment-first.result c.segment-second.result c.in_ok-local.local _ c.segment-first.ensures c.segment-second.ensures
    (within_run c.args.pair.qubits c.args.pair.first c.args.pair.first_within) c.in_ok-local.ensures c.found_behind.ensures
