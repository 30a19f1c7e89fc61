use Rattle.std.proofs.Common.{◌≤◌, ◌*◌}
use Rattle.ps_mono.proofs.Closings.{Shifting}
use Rattle.ps_mono.proofs.words.close_words.Given as goal

abbrev pub invariant-loop-i : goal.invariant-loop-i
invariant-loop-i l = record { above : l.v ≤ 64 * l.i; shifting : Shifting l.v l.i l.fn.words l.words }
