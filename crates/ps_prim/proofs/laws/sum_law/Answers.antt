use Rattle.ps_prim.proofs.PlainSums.{plain_denotes, identity_denotes}
use Rattle.ps_prim.proofs.Leaves.{leaf_denotes}
use Rattle.ps_prim.proofs.Joins.{join_denotes}
use Rattle.ps_prim.proofs.laws.sum_law.Goals as goal

pub returns : goal.returns
returns c = record { plain = plain_denotes; identity = identity_denotes; leaf = leaf_denotes; join = join_denotes }
