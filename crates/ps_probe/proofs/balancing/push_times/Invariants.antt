use Rattle.ps_probe.proofs.Counting.{Timed}
use Rattle.ps_probe.proofs.balancing.push_times.Given as goal

abbrev pub invariant-loop-i : goal.invariant-loop-i
invariant-loop-i l = Timed l.phase l.i l.fn.out.items l.out.items
