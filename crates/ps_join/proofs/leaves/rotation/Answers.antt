use Rattle.std.proofs.Common.{arith}
use Rattle.ps_join.proofs.LeafSums.{inputs_wide, changed_wide, changed_formed, rotation_sum, rotation_below, second_form}
use Rattle.ps_join.proofs.leaves.rotation.Goals as goal

pub index_mut-requires : goal.index_mut-requires
index_mut-requires c = omega (arith, inputs_wide c.args.n _ c.in_ok-outs.ensures, c.in_ok-outs.outs.ok.0)

pub small_sum-requires-clause-outs_below : goal.small_sum-requires-clause-outs_below
small_sum-requires-clause-outs_below c = λ v h. rotation_below c.args.n c.args.q v _ _ c.in_ok-outs.ensures c.in_ok-outs-2.ensures h

pub small_sum-requires-clause-width : goal.small_sum-requires-clause-width
small_sum-requires-clause-width c = changed_wide c.args.n c.args.q _ _ c.in_ok-outs.ensures

pub small_sum-requires-clause-formed : goal.small_sum-requires-clause-formed
small_sum-requires-clause-formed c = (c.in_ok-phase.ensures.form, changed_formed c.args.n c.args.q _ _ c.in_ok-outs.ensures c.requires.width.1 (second_form c.args.n _ c.requires.width.1 c.in_ok-outs-2.ensures))

pub returns : goal.returns
returns c = rotation_sum c.args.n c.args.theta c.args.phi c.args.lambda c.args.q _ _ _ _ c.requires.within c.requires.turns c.in_ok-outs.ensures c.in_ok-outs-2.ensures c.in_ok-phase.ensures.value
    c.small_sum.ensures.n c.small_sum.ensures.m c.small_sum.ensures.k c.small_sum.ensures.phase c.small_sum.ensures.outs
