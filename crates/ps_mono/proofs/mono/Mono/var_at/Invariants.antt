use Rattle.std.proofs.Common.{◌≡◌, ◌+◌, ◌*◌, length}
use Rattle.ps_mono.specs.Sets.{has, members}
use Rattle.ps_mono.proofs.mono.Mono.var_at.Given as goal

abbrev pub invariant-loop-i : goal.invariant-loop-i
invariant-loop-i l = l.left + length (members (has l.self-inside.words) 0 (64 * l.i)) ≡ l.place
