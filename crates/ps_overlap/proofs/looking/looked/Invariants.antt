use Rattle.std.proofs.Common.{take}
use Rattle.ps_overlap.proofs.Halves.{LookedAll}
use Rattle.ps_overlap.proofs.looking.looked.Given as goal

abbrev pub invariant-loop-term : goal.invariant-loop-term
invariant-loop-term l = LookedAll l.n (take l.term-index l.terms) l.halves l.others
