use Rattle.std.proofs.Common.{length}
use Rattle.ps_sum.proofs.Multiplies.{Pushing}
use Rattle.ps_sum.proofs.multiplying.+push_products.Given as goal

abbrev pub decreases-push_products : goal.decreases-push_products
decreases-push_products l = l.size

abbrev pub invariant-loop-mono : goal.invariant-loop-mono
invariant-loop-mono l = Pushing l.base l.monos l.size l.phase l.fn.out.items l.rest l.out.items

abbrev pub decreases-loop-mono : goal.decreases-loop-mono
decreases-loop-mono l = length l.rest
