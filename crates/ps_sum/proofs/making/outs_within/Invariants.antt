use Rattle.std.proofs.Common.{take}
use Rattle.ps_sum.specs.Forms.{AllPolys}
use Rattle.ps_sum.proofs.Withins.{OutsWithin}
use Rattle.ps_sum.proofs.making.outs_within.Given as goal

abbrev pub invariant-loop-poly : goal.invariant-loop-poly
invariant-loop-poly l = record { within : OutsWithin l.names (take l.poly-index l.poly-items); form : AllPolys (take l.poly-index l.poly-items) }
