use Rattle.std.proofs.Common.{◌≡◌, take}
use Rattle.ps_join.proofs.joins.copied.Given as goal

abbrev pub invariant-loop-output : goal.invariant-loop-output
invariant-loop-output l = l.outs.items ≡ take l.output-index l.output-items
