use Rattle.std.proofs.Common.{◌≡◌, ◌+◌, ◌*◌, ◌^◌, ◌<◌, ◌/◌, arith}
use Rattle.qasm_angle.proofs.Lowest.{halved, few_twos}
use Rattle.qasm_angle.proofs.dyadics.odd_part.Goals as goal

pub loop-odd-preserved : goal.loop-odd-preserved
loop-odd-preserved c =
    let i = c.loop-odd.invariant in
    let some : 0 < c.loop-odd.odd / 2 = omega arith in
    let e : c.args.number ≡ c.loop-odd.odd / 2 * 2 ^ (c.loop-odd.twos + 1) = halved c.args.number c.loop-odd.odd c.loop-odd.twos c.loop-odd-test.true i.product in
    record { product = e; some = some; few = few_twos (c.loop-odd.odd / 2) (c.loop-odd.twos + 1) some (omega arith) }
