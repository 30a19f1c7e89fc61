use Rattle.std.proofs.Common.{◌≡◌, ◌*◌, ◌^◌, ◌<◌}
use Rattle.qasm_angle.proofs.dyadics.odd_part.Given as goal

abbrev pub invariant-loop-odd : goal.invariant-loop-odd
invariant-loop-odd l = record { product : l.fn.number ≡ l.odd * 2 ^ l.twos; some : 0 < l.odd; few : l.twos < 62 }

abbrev pub decreases-loop-odd : goal.decreases-loop-odd
decreases-loop-odd l = l.odd
