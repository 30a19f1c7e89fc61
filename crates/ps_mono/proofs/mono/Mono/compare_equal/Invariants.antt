use Rattle.ps_mono.proofs.Orders.{SameBefore}
use Rattle.ps_mono.proofs.mono.Mono.compare_equal.Given as goal

abbrev pub invariant-loop-i : goal.invariant-loop-i
invariant-loop-i l = SameBefore l.self-inside.words l.other-inside.words l.i
