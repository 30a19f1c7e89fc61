use Rattle.std.proofs.Common.{inl, inr, refl}
use Rattle.ps_phase.proofs.Adding.{pushed_if}
use Rattle.ps_phase.proofs.merging.push_term.Goals as goal

pub returns-in_ok-push-clause-items : goal.returns-in_ok-push-clause-items
returns-in_ok-push-clause-items c = pushed_if _ _ c.units.result _ _ c.units.ensures (inr (c.if-units-ne0.true, c.in_ok-push.ensures.items))

pub returns-else-units-ne0-clause-items : goal.returns-else-units-ne0-clause-items
returns-else-units-ne0-clause-items c = pushed_if _ _ c.units.result _ _ c.units.ensures (inl (c.if-units-ne0.false, refl))
