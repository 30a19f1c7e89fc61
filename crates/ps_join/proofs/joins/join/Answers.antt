use Rattle.ps_join.proofs.Merging.{join_means, join_of_copy}
use Rattle.ps_join.proofs.joins.join.Goals as goal

pub returns-clause-denotes : goal.returns-clause-denotes
returns-clause-denotes c = join_means c.args.first.now c.args.second.now _ (join_of_copy _ c.args.first.now c.args.second.now _ c.in_ok-copy.ensures c.in_ok-sum.ensures.sum)
