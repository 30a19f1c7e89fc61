use Rattle.std.proofs.Common.{take}
use Rattle.ps_rules.proofs.Gathers.{Spoilt}
use Rattle.ps_rules.proofs.spoiling.spoilt.Given as goal

abbrev pub invariant-loop-term : goal.invariant-loop-term
invariant-loop-term l = Spoilt l.sum.outs (take l.term-index l.term-items) l.out
