use Rattle.std.proofs.Common.{◌+◌}
use Rattle.ps_phase.specs.Weaving.{Weaving}
use Rattle.ps_phase.proofs.weaving.weave.Given as goal

abbrev pub decreases-loop-place : goal.decreases-loop-place
decreases-loop-place l = l.place.left + l.place.more

abbrev pub invariant-loop-place : goal.invariant-loop-place
invariant-loop-place l = Weaving l.fn.terms.items l.others l.place.left l.place.more l.place.from l.terms.items
