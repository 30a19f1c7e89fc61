use Rattle.std.proofs.Common.{take, map, length}
use Rattle.ps_sum.specs.Counts.{raw_bool}
use Rattle.ps_rules.specs.Rules.{NoneAbove}
use Rattle.ps_rules.proofs.measuring.outs_above.Given as goal

abbrev pub invariant-loop-poly : goal.invariant-loop-poly
invariant-loop-poly l = NoneAbove (map (λ f. raw_bool l.v (length l.by) f) (take l.poly-index l.outs))
