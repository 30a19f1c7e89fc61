use Rattle.ps_join.proofs.LeafSums.{inputs_wide, inputs_below, inputs_formed, turn_sum, turn_below}
use Rattle.ps_join.proofs.leaves.turn.Goals as goal

pub small_sum-requires-clause-phase_below : goal.small_sum-requires-clause-phase_below
small_sum-requires-clause-phase_below c = λ v h. turn_below c.args.n c.args.q v _ _ _ _ c.requires.within c.var.ensures c.in_ok-vec.ensures.items (c.in_ok-phase.ensures.variables v) h

pub small_sum-requires-clause-outs_below : goal.small_sum-requires-clause-outs_below
small_sum-requires-clause-outs_below c = λ v h. inputs_below c.args.n 0 v _ c.in_ok-outs.ensures h

pub small_sum-requires-clause-width : goal.small_sum-requires-clause-width
small_sum-requires-clause-width c = inputs_wide c.args.n _ c.in_ok-outs.ensures

pub small_sum-requires-clause-formed : goal.small_sum-requires-clause-formed
small_sum-requires-clause-formed c = (c.in_ok-phase.ensures.form, inputs_formed c.args.n _ c.in_ok-outs.ensures c.requires.width.1)

pub returns : goal.returns
returns c = turn_sum c.args.n c.args.phi c.args.lambda c.args.q _ _ _ _ _ _ _ _ c.requires.within c.in_ok-outs.ensures c.var.ensures c.whole.ensures c.whole-2.ensures c.add.ensures c.in_ok-vec.ensures.items c.in_ok-phase.ensures.value
    c.small_sum.ensures.n c.small_sum.ensures.m c.small_sum.ensures.k c.small_sum.ensures.phase c.small_sum.ensures.outs
