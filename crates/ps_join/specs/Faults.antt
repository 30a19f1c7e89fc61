-- What the answers of a join that was not made say.
use Rattle.std.specs.Prelude.{ℕ, ◌≡◌, ◌<◌, Option, Some}
use Rattle.ps_sum.specs.declared.sums.PathSum.{PathSum}
use Rattle.ps_sum.specs.declared.faults.What.TheVariants.{Terms}
use Rattle.ps_sum.specs.declared.faults.JoinFault.{JoinFault}
use Rattle.ps_sum.specs.declared.faults.JoinFault.TheVariants.{Passed, Memory}
use Rattle.ps_join.specs.Joining.{JoinPasses, told}

-- where a limit is told, the join of the two passes it
abbrev pub IsJoinFault : PathSum → PathSum → JoinFault → Type 0
IsJoinFault S1 S2 (Passed passed) = JoinPasses S1 S2 passed
IsJoinFault S1 S2 Memory = Unit {0}

-- where a limit is told, it is that of terms, and the replacements that Ends speaks of end at this count
abbrev pub IsChainFault : (Option ℕ → Type 0) → JoinFault → Type 0
IsChainFault Ends (Passed passed) = (count : ℕ) × (Ends (Some count) × (passed ≡ record { what = Terms; count = count }))
IsChainFault Ends Memory = Unit {0}

-- where a limit is told, one replacement makes so many terms, and these are too many
abbrev pub IsOver : ℕ → JoinFault → Type 0
IsOver made (Passed passed) = (65536 < made) × (passed ≡ record { what = Terms; count = told made })
IsOver made Memory = Unit {0}
