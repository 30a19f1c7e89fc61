use Rattle.std.proofs.Common.{rules}
use Rattle.std.proofs.lemmas.Fn.{always_returns_same}
use Rattle.ps_phase.specs.declared.terms.Term.{Term}
use Rattle.ps_mono.specs.Sets.{mono_cmp}
use Rattle.ps_phase.proofs.Combining.{place_of, none_at}
use Rattle.ps_phase.proofs.inplace.place.Goals as goal

pub returns-in-Ok : goal.returns-in-Ok
returns-in-Ok c = place_of c.args.mono.now c.args.terms.now c.in-Ok.place c.in-Ok.ensures.bound
    (c.in-Ok.ensures.position (λ (t : Term). mono_cmp t.mono c.args.mono.now) (always_returns_same _ _ _ (λ a r q k. search rules)))

pub returns-in-Err : goal.returns-in-Err
returns-in-Err c = none_at c.args.mono.now c.args.terms.now c.in-Err.field-0 c.requires
    (c.in-Err.ensures.position (λ (t : Term). mono_cmp t.mono c.args.mono.now) (always_returns_same _ _ _ (λ a r q k. search rules)))
