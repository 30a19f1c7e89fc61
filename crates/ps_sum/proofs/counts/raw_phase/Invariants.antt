use Rattle.std.proofs.Common.{◌≡◌, take, min, length}
use Rattle.ps_sum.specs.Counts.{raw_phase}
use Rattle.ps_sum.proofs.counts.raw_phase.Given as goal

abbrev pub invariant-loop-term : goal.invariant-loop-term
invariant-loop-term l = l.total ≡ min (raw_phase l.v (length l.by) (take l.term-index l.term-items)) 1000000000000
