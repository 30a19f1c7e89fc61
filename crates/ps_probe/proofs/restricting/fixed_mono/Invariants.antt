use Rattle.ps_probe.proofs.Restricted.{Fixing}
use Rattle.ps_probe.proofs.restricting.fixed_mono.Given as goal

abbrev pub invariant-loop-i : goal.invariant-loop-i
invariant-loop-i l = Fixing l.pattern l.mono l.i l.out
