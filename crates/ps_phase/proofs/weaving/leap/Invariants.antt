use Rattle.std.proofs.Common.{◌≡◌, ◌<◌, ◌≤◌, get_or}
use Rattle.std.specs.declared.cmp.Ordering.TheVariants.{Less}
use Rattle.ps_mono.specs.Sets.{mono_cmp}
use Rattle.ps_phase.specs.declared.terms.Term.{Term}
use Rattle.ps_phase.proofs.weaving.leap.Given as goal

abbrev pub decreases-loop-high : goal.decreases-loop-high
decreases-loop-high l = l.high

abbrev pub invariant-loop-high : goal.invariant-loop-high
invariant-loop-high l = (l.high ≤ l.left) × ((d : Term) → l.high < l.left → mono_cmp l.mono (get_or l.terms l.high d).mono ≡ Less)
