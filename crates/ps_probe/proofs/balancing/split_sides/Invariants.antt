use Rattle.ps_probe.proofs.Counting.{Sided}
use Rattle.ps_probe.proofs.balancing.split_sides.Given as goal

abbrev pub invariant-loop-phase : goal.invariant-loop-phase
invariant-loop-phase l = Sided l.phases l.phase-index l.front.items l.back.items
