use Rattle.ps_join.specs.Inputs.{inputs_from}
use Rattle.ps_join.proofs.Outputs.{inputs_push}
use Rattle.ps_join.proofs.leaves.inputs.Goals as goal

pub loop-v-init : goal.loop-v-init
unfolding inputs_from
loop-v-init c = c.in_ok-outs.ensures.items

pub loop-v-preserved : goal.loop-v-preserved
loop-v-preserved c = inputs_push c.loop-v.v c.loop-v.outs.items _ _ c.loop-v.invariant c.in_ok-input.ensures c.in_ok-push.ensures.items
