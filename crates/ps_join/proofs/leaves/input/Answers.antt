use Rattle.ps_join.proofs.Outputs.{alone_poly}
use Rattle.ps_join.proofs.leaves.input.Goals as goal

pub ordered-requires : goal.ordered-requires
ordered-requires c = alone_poly c.args.v _ _ _ c.requires c.in_ok-monos.ensures.items c.var.ensures c.in_ok-push.ensures.items
