use Rattle.std.proofs.Common.{take}
use Rattle.ps_rules.proofs.Gathers.{Spoken}
use Rattle.ps_rules.proofs.spoiling.spoken_in.Given as goal

abbrev pub invariant-loop-poly : goal.invariant-loop-poly
invariant-loop-poly l = Spoken (take l.poly-index l.outs) l.out
