use Rattle.ps_join.proofs.Merging.{join_means}
use Rattle.ps_join.proofs.joins.join_onto.Goals as goal

pub returns-in-Ok-merged-clause-denotes : goal.returns-in-Ok-merged-clause-denotes
returns-in-Ok-merged-clause-denotes c = join_means c.args.first c.args.second.now _ c.in-Ok-merged.ensures.sum
