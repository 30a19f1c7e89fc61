use Rattle.std.proofs.Common.{◌≡◌, ◌^◌, ◌<◌}
use Rattle.qasm_angle.proofs.powers.small_power.Given as goal

abbrev pub invariant-loop-step : goal.invariant-loop-step
invariant-loop-step l = record { value : l.power ≡ l.base ^ l.step; small : l.power < 2 ^ 62 }
