use Rattle.std.proofs.Common.{length}
use Rattle.ps_join.proofs.Merging.{Placing}
use Rattle.ps_join.proofs.joins.placed.Given as goal

abbrev pub decreases-loop-change : goal.decreases-loop-change
decreases-loop-change l = length l.changed.items

abbrev pub invariant-loop-change : goal.invariant-loop-change
invariant-loop-change l = Placing l.fn.outs.items l.fn.changed.items l.changed.items l.outs.items
