-- What the answers of an overlap that was not made say.
use Rattle.ps_sum.specs.declared.sums.PathSum.{PathSum}
use Rattle.ps_sum.specs.declared.faults.JoinFault.{JoinFault}
use Rattle.ps_sum.specs.declared.faults.JoinFault.TheVariants.{Passed, Memory}
use Rattle.ps_overlap.specs.Overlapping.{OverlapPasses}

-- where a limit is told, the overlap of the two passes it
abbrev pub IsOverlapFault : PathSum → PathSum → JoinFault → Type 0
IsOverlapFault S1 S2 (Passed passed) = OverlapPasses S1 S2 passed
IsOverlapFault S1 S2 Memory = Unit {0}
