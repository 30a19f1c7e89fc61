use Rattle.ps_probe.proofs.Marks.{Marked}
use Rattle.ps_probe.proofs.pattern.Pattern.of.Given as goal

abbrev pub invariant-loop-i : goal.invariant-loop-i
invariant-loop-i l = Marked l.word l.i l.fixed l.ones
