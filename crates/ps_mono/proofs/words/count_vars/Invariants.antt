use Rattle.std.proofs.Common.{◌≡◌, ◌≤◌, ◌*◌, length}
use Rattle.ps_mono.specs.Sets.{has, members}
use Rattle.ps_mono.proofs.words.count_vars.Given as goal

abbrev pub invariant-loop-i : goal.invariant-loop-i
invariant-loop-i l = record { small : l.count ≤ 64 * l.i; counted : l.count ≡ length (members (has l.words) 0 (64 * l.i)) }
