use Rattle.std.proofs.Common.{◌≡◌}
use Rattle.ps_join.specs.Inputs.{inputs_from}
use Rattle.ps_join.proofs.leaves.inputs.Given as goal

abbrev pub invariant-loop-v : goal.invariant-loop-v
invariant-loop-v l = l.outs.items ≡ inputs_from 0 l.v
