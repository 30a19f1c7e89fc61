use Rattle.std.proofs.Common.{◌≤◌, ◌+◌, length}
use Rattle.ps_script.proofs.LineLemmas.{Passed}
use Rattle.ps_script.proofs.lines.block.Given as goal

abbrev pub invariant-loop-rest : goal.invariant-loop-rest
invariant-loop-rest l = Passed l.bytes l.lines l.rest × (l.lines + length l.rest ≤ length l.bytes)

abbrev pub decreases-loop-rest : goal.decreases-loop-rest
decreases-loop-rest l = length l.rest
