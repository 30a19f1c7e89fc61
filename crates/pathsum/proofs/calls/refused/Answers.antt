use Rattle.std.proofs.Common.{arith, ap, ◌+◌, ◌-◌}
use Rattle.pathsum.proofs.Judging.{refusal_at, column_near}
use Rattle.pathsum.proofs.calls.refused.Goals as goal

pub overflow_add-result : goal.overflow_add-result
overflow_add-result c =
    let k = column_near c.args.bytes.now c.args.at c.min-inside.result _ _ c.requires.near c.min-inside.ensures c.place-line.ensures in
    omega (arith, k, c.from.ensures)

pub returns : goal.returns
returns c = refusal_at c.args.bytes.now c.args.why c.args.at c.min-inside.result _ _ _ c.min-inside.ensures (ap (λ k. k + (c.args.at - c.min-inside.result)) c.from.ensures) c.place-line.ensures
