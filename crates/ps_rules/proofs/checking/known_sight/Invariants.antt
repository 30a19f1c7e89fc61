use Rattle.std.proofs.Common.{◌+◌, take}
use Rattle.ps_rules.specs.Sights.{Seen}
use Rattle.ps_rules.proofs.checking.known_sight.Given as goal

abbrev pub invariant-loop-term : goal.invariant-loop-term
invariant-loop-term l = Seen (l.sum.n + l.fn.y) l.sum.outs (take l.term-index l.term-items) l.sight
