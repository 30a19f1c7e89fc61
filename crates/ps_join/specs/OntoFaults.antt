-- The same where the first sum was given away.
use Rattle.std.specs.Prelude.{◌≡◌}
use Rattle.ps_sum.specs.declared.sums.PathSum.{PathSum}
use Rattle.ps_join.specs.declared.onto_fault.OntoFault.{OntoFault}
use Rattle.ps_join.specs.declared.onto_fault.OntoFault.TheVariants.{Passed, Memory}
use Rattle.ps_join.specs.Joining.{JoinPasses}

-- where a limit is told, the join of the two passes it, and the first sum is there as it was
abbrev pub IsOntoFault : PathSum → PathSum → OntoFault → Type 0
IsOntoFault S1 S2 (Passed passed first) = JoinPasses S1 S2 passed × (first ≡ S1)
IsOntoFault S1 S2 Memory = Unit {0}
