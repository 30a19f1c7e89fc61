use Rattle.std.proofs.Common.{length}
use Rattle.ps_steps.proofs.Following.{ReadsOn}
use Rattle.ps_steps.proofs.reading.read_lines.Given as goal

abbrev pub invariant-loop-parts : goal.invariant-loop-parts
invariant-loop-parts l = ReadsOn l.fn.text l.lines.items l.rest

abbrev pub decreases-loop-parts : goal.decreases-loop-parts
decreases-loop-parts l = length l.rest
