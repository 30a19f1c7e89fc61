use Rattle.std.proofs.Common.{rules}
use Rattle.std.proofs.lemmas.Fn.{always_returns_same}
use Rattle.ps_phase.specs.declared.terms.Term.{Term}
use Rattle.ps_mono.specs.Sets.{mono_cmp}
use Rattle.ps_phase.proofs.Combining.{found_at, found_none}
use Rattle.ps_phase.proofs.poly.PhasePoly.coefficient.Goals as goal

pub returns-in-Ok : goal.returns-in-Ok
returns-in-Ok c = found_at c.args.mono.now _ _ _ c.in-Ok.place c.index.result.now c.self.view_is c.deref.ensures.value c.self.invariant c.in-Ok.ensures.bound c.index.ensures
    (c.in-Ok.ensures.position (λ (t : Term). mono_cmp t.mono c.args.mono.now) (always_returns_same _ _ _ (λ a r q k. search rules)))

pub returns-in-Err : goal.returns-in-Err
returns-in-Err c = found_none c.args.mono.now _ _ _ c.in-Err.field-0 c.of.result c.self.view_is c.deref.ensures.value c.self.invariant c.of.ensures
    (c.in-Err.ensures.position (λ (t : Term). mono_cmp t.mono c.args.mono.now) (always_returns_same _ _ _ (λ a r q k. search rules)))
