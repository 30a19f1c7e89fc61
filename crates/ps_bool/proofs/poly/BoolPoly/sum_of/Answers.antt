use Rattle.ps_bool.proofs.Cancelling.{gathered_form, gathered_value, gathered_variables}
use Rattle.ps_bool.proofs.poly.BoolPoly.sum_of.Goals as goal

pub invariant_of-result : goal.invariant_of-result
invariant_of-result c = gathered_form c.args.monos.items _ _ c.sort_unstable.ensures.sorted c.cancel_pairs.ensures.items c.cancel_pairs.ensures.sets

pub returns-clause-value : goal.returns-clause-value
returns-clause-value c = gathered_value _ _ _ c.sort_unstable.ensures.permutation c.cancel_pairs.ensures.items

pub returns-clause-variables : goal.returns-clause-variables
returns-clause-variables c = gathered_variables _ _ _ c.sort_unstable.ensures.permutation c.cancel_pairs.ensures.items

pub returns-clause-form : goal.returns-clause-form
returns-clause-form c = gathered_form c.args.monos.items _ _ c.sort_unstable.ensures.sorted c.cancel_pairs.ensures.items c.cancel_pairs.ensures.sets
