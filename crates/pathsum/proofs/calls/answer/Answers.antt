use Rattle.std.proofs.Common.{◌≤◌, ap, arith, length, subst, List, ℕ}
use Rattle.pathsum.specs.Judgements.{Judged}
use Rattle.pathsum.proofs.Judging.{deserves_judged}
use Rattle.pathsum.proofs.calls.answer.Goals as goal

pub returns-in-Ok : goal.returns-in-Ok
returns-in-Ok g c =
    let few : length c.in-Ok.bytes.items ≤ 16777216 = omega (arith, ap length c.deref.ensures.value, c.deref.ensures.len, c.in-Ok.ensures.within) in
    deserves_judged c.args.command _ _ c.in-Ok.bytes.items _ _ _ c.in-Ok.ensures.whole c.in-Ok.ensures.ended few
    (subst (λ (bytes : List ℕ). Judged c.args.command bytes c.judge.result) c.deref.ensures.value c.judge.ensures)
