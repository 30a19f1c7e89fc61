use Rattle.ps_bool.proofs.Values.{occurs_found, occurs_next, occurs_end}
use Rattle.ps_bool.proofs.poly.BoolPoly.contains.Goals as goal

pub returns-then-contains : goal.returns-then-contains
returns-then-contains c = rw (← c.self.view_is, ← c.deref-mono-items.ensures.value) (occurs_found _ _ _ _ _ c.loop-mono-test.true c.mono-item.is c.contains.ensures c.if-contains.true c.loop-mono.invariant)

pub loop-mono-preserved : goal.loop-mono-preserved
loop-mono-preserved c = occurs_next _ _ _ _ _ c.loop-mono-test.true c.mono-item.is c.contains.ensures c.if-contains.false c.loop-mono.invariant

pub returns : goal.returns
returns c = rw (← c.self.view_is, ← c.deref-mono-items.ensures.value) (occurs_end _ _ _ c.loop-mono-test.false c.loop-mono.invariant)
