use Rattle.std.proofs.Common.{refl, subst, List}
use Rattle.ps_phase.specs.declared.terms.Term.{Term}
use Rattle.ps_phase.specs.Placing.{IsPlace}
use Rattle.ps_phase.proofs.Absorbing.{absorbed_one}
use Rattle.ps_phase.proofs.inplace.absorb_one.Goals as goal

pub returns : goal.returns
returns c = absorbed_one c.args.terms.now.items _ c.args.other.now c.index-term.result.now _ c.in-Some.place c.requires.form c.requires.fit
    (subst (λ (r : List Term). IsPlace c.args.other.now.mono r c.in-Some.place) c.deref.ensures.value c.in-Some.ensures) c.index-term.ensures refl c.add-phase.ensures refl
