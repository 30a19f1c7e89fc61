use Rattle.ps_probe.proofs.Restricted.{Filling}
use Rattle.ps_probe.proofs.giving.filled.Given as goal

abbrev pub invariant-loop-i : goal.invariant-loop-i
invariant-loop-i l = Filling l.pattern l.at l.i l.bits
