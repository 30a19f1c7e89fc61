use Rattle.ps_rules.proofs.Replaces.{Replacing}
use Rattle.ps_rules.proofs.taking.replace_polys.Given as goal

abbrev pub invariant-loop-out : goal.invariant-loop-out
invariant-loop-out l = Replacing l.v l.poly l.fn.polys.items l.out-index l.out-items
