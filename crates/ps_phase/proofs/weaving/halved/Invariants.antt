use Rattle.std.proofs.Common.{◌-◌, ◌≡◌, ◌<◌, ◌≤◌, get_or}
use Rattle.std.specs.declared.cmp.Ordering.TheVariants.{Less}
use Rattle.ps_mono.specs.Sets.{mono_cmp}
use Rattle.ps_phase.specs.declared.terms.Term.{Term}
use Rattle.ps_phase.proofs.weaving.halved.Given as goal

abbrev pub decreases-loop-from : goal.decreases-loop-from
decreases-loop-from l = l.to - l.from

abbrev pub invariant-loop-from : goal.invariant-loop-from
invariant-loop-from l = (l.to ≤ l.high) × ((d : Term) → l.to < l.high → mono_cmp l.mono (get_or l.terms l.to d).mono ≡ Less)
