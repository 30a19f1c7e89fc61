use Rattle.std.proofs.Common.{ap, ◌∙◌, length}
use Rattle.ps_join.proofs.LeafSums.{inputs_wide, inputs_below, inputs_formed, empty_below, empty_formed, identity_sum, denotes_identity}
use Rattle.ps_join.proofs.leaves.identity.Goals as goal

pub small_sum-requires-clause-phase_below : goal.small_sum-requires-clause-phase_below
small_sum-requires-clause-phase_below c = λ v h. empty_below _ v c.zero.ensures

pub small_sum-requires-clause-outs_below : goal.small_sum-requires-clause-outs_below
small_sum-requires-clause-outs_below c = λ v h. inputs_below c.args.n 0 v _ c.in_ok-outs.ensures h

pub small_sum-requires-clause-width : goal.small_sum-requires-clause-width
small_sum-requires-clause-width c = inputs_wide c.args.n _ c.in_ok-outs.ensures

pub small_sum-requires-clause-formed : goal.small_sum-requires-clause-formed
small_sum-requires-clause-formed c = (empty_formed _ c.zero.ensures, inputs_formed c.args.n _ c.in_ok-outs.ensures c.requires.width.1)

pub returns-clause-sum : goal.returns-clause-sum
returns-clause-sum c = identity_sum c.args.n _ _ _ c.in_ok-outs.ensures c.zero.ensures c.small_sum.ensures.n c.small_sum.ensures.m c.small_sum.ensures.k c.small_sum.ensures.phase c.small_sum.ensures.outs

pub returns-clause-denotes : goal.returns-clause-denotes
returns-clause-denotes c = denotes_identity c.args.n c.small_sum.result (identity_sum c.args.n _ _ c.small_sum.result c.in_ok-outs.ensures c.zero.ensures c.small_sum.ensures.n c.small_sum.ensures.m c.small_sum.ensures.k c.small_sum.ensures.phase c.small_sum.ensures.outs)

pub returns-clause-wide : goal.returns-clause-wide
returns-clause-wide c = ap length c.small_sum.ensures.outs ∙ inputs_wide c.args.n _ c.in_ok-outs.ensures
