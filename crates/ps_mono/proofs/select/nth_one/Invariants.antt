use Rattle.std.proofs.Common.{◌≡◌, ◌<◌, ◌^◌, drop}
use Rattle.ps_mono.specs.Sets.{members, is_set}
use Rattle.ps_mono.proofs.select.nth_one.Given as goal

abbrev pub invariant-loop-step : goal.invariant-loop-step
invariant-loop-step l = record { small : l.rest < 2 ^ 64; left : members (is_set l.rest) 0 64 ≡ drop l.step (members (is_set l.word) 0 64) }
