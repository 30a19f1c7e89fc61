use Rattle.std.proofs.Common.{arith, inl, inr, refl, ◌∙◌}
use Rattle.ps_bool.proofs.Replacing.{found_step, found_stop, found_end}
use Rattle.ps_bool.proofs.poly.BoolPoly.linear_in.Goals as goal
use Rattle.ps_bool.proofs.poly.BoolPoly.linear_in.Goals.{then-found-via-then-found, then-found-via-else-found+then-degree-ne1, then-contains+else-found+else-degree-ne1, else-contains}

pub returns-then-found : goal.returns-then-found
returns-then-found c = rw (← c.self.view_is, ← c.deref-mono-items.ensures.value)
    (found_stop _ _ c.loop-mono.mono-index c.mono-item.result c.args.v c.loop-mono.found c.contains.result refl c.loop-mono-test.true c.mono-item.is c.contains.ensures c.if-contains.true
    (elim c.then-found.branch [ then-found-via-then-found w ↦ inl w.if-found.true | then-found-via-else-found+then-degree-ne1 w ↦ inr (λ e. w.if-degree-ne1.true (w.degree.ensures ∙ e)) ]) c.loop-mono.invariant)

pub loop-mono-preserved : goal.loop-mono-preserved
loop-mono-preserved c = found_step _ c.loop-mono.mono-index c.mono-item.result c.args.v c.loop-mono.found c.if-contains.found c.contains.result c.loop-mono-test.true c.mono-item.is c.contains.ensures
    (elim c.if-contains.branch [ then-contains+else-found+else-degree-ne1 w ↦ inl (w.if-contains.true, (w.if-found.false, omega arith, w.found-is)) | else-contains w ↦ inr (w.if-contains.false, w.found-is) ]) c.loop-mono.invariant

pub returns : goal.returns
returns c = rw (← c.self.view_is, ← c.deref-mono-items.ensures.value) (found_end _ _ c.loop-mono.mono-index c.args.v c.loop-mono.found refl c.loop-mono-test.false c.loop-mono.invariant)
