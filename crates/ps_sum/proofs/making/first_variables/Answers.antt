use Rattle.ps_sum.proofs.Withins.{first_none, first_next}
use Rattle.ps_sum.proofs.making.first_variables.Goals as goal

pub loop-v-init : goal.loop-v-init
loop-v-init c = first_none c.zero-bits.result c.zero-bits.ensures

pub loop-v-preserved : goal.loop-v-preserved
loop-v-preserved c = first_next c.loop-v.bits _ c.loop-v.v c.set.ensures.values c.loop-v.invariant
