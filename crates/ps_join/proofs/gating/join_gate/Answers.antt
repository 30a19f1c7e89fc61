use Rattle.std.proofs.Common.{subst}
use Rattle.ps_join.specs.Joining.{IsJoinOf}
use Rattle.ps_join.proofs.Merging.{join_means}
use Rattle.ps_join.proofs.gating.join_gate.Goals as goal

pub returns-in-Ok-clause-denotes : goal.returns-in-Ok-clause-denotes
returns-in-Ok-clause-denotes c = join_means c.args.first c.args.gate.now.sum.value c.in-Ok.sum (subst (λ x. IsJoinOf c.args.first x c.in-Ok.sum) c.deref.ensures c.in-Ok.ensures.sum)
