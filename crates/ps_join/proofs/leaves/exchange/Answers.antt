use Rattle.std.proofs.Common.{arith}
use Rattle.ps_join.proofs.LeafSums.{inputs_wide, changed_wide, changed_formed, empty_below, empty_formed, exchange_sum, exchange_below}
use Rattle.ps_join.proofs.leaves.exchange.Goals as goal

pub small_sum-requires-clause-phase_below : goal.small_sum-requires-clause-phase_below
small_sum-requires-clause-phase_below c = λ v h. empty_below _ v c.zero.ensures

pub small_sum-requires-clause-outs_below : goal.small_sum-requires-clause-outs_below
small_sum-requires-clause-outs_below c = λ v h. exchange_below c.args.n c.args.c c.args.t v _ _ _ _ c.requires.within c.in_ok-outs.ensures c.index.ensures c.index-2.ensures (c.in_ok-sum.ensures.variables v) h

pub small_sum-requires-clause-width : goal.small_sum-requires-clause-width
small_sum-requires-clause-width c = changed_wide c.args.n c.args.t _ _ c.in_ok-outs.ensures

pub small_sum-requires-clause-formed : goal.small_sum-requires-clause-formed
small_sum-requires-clause-formed c = (empty_formed _ c.zero.ensures, changed_formed c.args.n c.args.t _ _ c.in_ok-outs.ensures c.requires.width.1 c.in_ok-sum.ensures.form)

pub index-requires : goal.index-requires
index-requires c = omega (arith, inputs_wide c.args.n _ c.in_ok-outs.ensures, c.in_ok-outs.outs.ok.0, c.requires.within.1)

pub index-requires-2 : goal.index-requires-2
index-requires-2 c = omega (arith, inputs_wide c.args.n _ c.in_ok-outs.ensures, c.in_ok-outs.outs.ok.0, c.requires.within.0)

pub index_mut-requires : goal.index_mut-requires
index_mut-requires c = omega (arith, inputs_wide c.args.n _ c.in_ok-outs.ensures, c.in_ok-outs.outs.ok.0, c.requires.within.1)

pub returns : goal.returns
returns c = exchange_sum c.args.n c.args.c c.args.t _ _ _ _ _ _ c.requires.within c.in_ok-outs.ensures c.index.ensures c.index-2.ensures c.in_ok-sum.ensures.value c.zero.ensures
    c.small_sum.ensures.n c.small_sum.ensures.m c.small_sum.ensures.k c.small_sum.ensures.phase c.small_sum.ensures.outs
