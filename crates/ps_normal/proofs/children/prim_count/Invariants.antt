use Rattle.ps_normal.proofs.Pairs.{Counted}
use Rattle.ps_normal.proofs.children.prim_count.Given as goal

abbrev pub invariant-items : goal.invariant-items
invariant-items l = Counted l.item-items l.item-index l.count
