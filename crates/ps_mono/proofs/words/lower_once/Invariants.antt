use Rattle.std.proofs.Common.{◌≤◌}
use Rattle.ps_mono.proofs.Pairs.{Lowering}
use Rattle.ps_mono.proofs.words.lower_once.Given as goal

abbrev pub invariant-loop-i : goal.invariant-loop-i
invariant-loop-i l = record { most : l.i ≤ l.to; lowering : Lowering 1 l.from l.i l.fn.words l.words }
