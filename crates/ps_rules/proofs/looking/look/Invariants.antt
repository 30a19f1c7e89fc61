use Rattle.std.proofs.Common.{take}
use Rattle.ps_rules.specs.Sights.{Seen, EachSight}
use Rattle.ps_rules.proofs.looking.look.Given as goal

abbrev pub invariant-loop-term : goal.invariant-loop-term
invariant-loop-term l = EachSight (λ v s. Seen v l.sum.outs (take l.term-index l.term-items) s) l.base l.sights
