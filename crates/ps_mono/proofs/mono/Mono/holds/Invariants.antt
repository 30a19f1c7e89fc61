use Rattle.std.proofs.Common.{◌≡◌, ℕ, ◌<◌, ◌-◌, get_or, bit_and}
use Rattle.ps_mono.proofs.mono.Mono.holds.Given as goal

abbrev pub invariant-loop-i : goal.invariant-loop-i
invariant-loop-i l = (k : ℕ) → k < l.i → bit_and (get_or l.self-inside.words k 0) (18446744073709551615 - get_or l.at-inside.words k 0) ≡ 0
