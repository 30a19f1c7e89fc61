-- The one form of the parts of a path sum, and that it is a proposition.
use Rattle.std.specs.Prelude.{ℕ, ◌≡◌, List, [], ◌∷◌}
use Rattle.std.specs.Coded.{×_prop, Unit-prop, le_prop}
use Rattle.std.proofs.Props.{props}
use Rattle.std.specs.declared.cmp.Ordering.TheVariants.{Less}
use Rattle.ps_mono.specs.Sets.{mono_cmp}
use Rattle.ps_bool.specs.Polys.{Each, Before, Ascending, AllSets, IsPoly}
use Rattle.ps_phase.specs.declared.terms.Term.{Term}
use Rattle.ps_phase.specs.Phases.{IsTerm, TermBefore, IsPhasePoly}

-- each output is a polynomial in its one form
abbrev pub AllPolys : List (List (List ℕ)) → Type 0
AllPolys [] = Unit {0}
AllPolys (f ∷ fs) = IsPoly f × AllPolys fs

-- the phase and the outputs are in their one form
abbrev pub IsFormed : List Term → List (List (List ℕ)) → Type 0
IsFormed phase outs = IsPhasePoly phase × AllPolys outs

pub TermBefore-prop : (m : List ℕ) (ts : List Term) → IsProp (TermBefore m ts)
TermBefore-prop m [] = Unit-prop
TermBefore-prop m (t ∷ ts) = ×_prop (hlevel props) (TermBefore-prop m ts)

pub IsTerm-prop : (t : Term) → IsProp (IsTerm t)
IsTerm-prop t = hlevel (props, le_prop)

pub IsPhasePoly-prop : (ts : List Term) → IsProp (IsPhasePoly ts)
IsPhasePoly-prop [] = Unit-prop
IsPhasePoly-prop (t ∷ ts) =
    let head : IsProp (IsTerm t) = IsTerm-prop t in
    let before : IsProp (TermBefore t.mono ts) = TermBefore-prop t.mono ts in
    let rest : IsProp (IsPhasePoly ts) = IsPhasePoly-prop ts in
    hlevel props

pub Each-prop : (P : List ℕ → Type 0) → ((m : List ℕ) → IsProp (P m)) → (f : List (List ℕ)) → IsProp (Each P f)
Each-prop P p [] = Unit-prop
Each-prop P p (m ∷ f) = ×_prop (p m) (Each-prop P p f)

pub Before-prop : (m : List ℕ) (f : List (List ℕ)) → IsProp (Before m f)
Before-prop m f = Each-prop (λ k. mono_cmp m k ≡ Less) (λ k. hlevel props) f

pub Ascending-prop : (f : List (List ℕ)) → IsProp (Ascending f)
Ascending-prop [] = Unit-prop
Ascending-prop (m ∷ f) = ×_prop (Before-prop m f) (Ascending-prop f)

pub AllSets-prop : (f : List (List ℕ)) → IsProp (AllSets f)
AllSets-prop f = Each-prop _ (λ m. hlevel props) f

pub IsPoly-prop : (f : List (List ℕ)) → IsProp (IsPoly f)
IsPoly-prop f = hlevel (props, Ascending-prop, AllSets-prop)

pub AllPolys-prop : (fs : List (List (List ℕ))) → IsProp (AllPolys fs)
AllPolys-prop [] = Unit-prop
AllPolys-prop (f ∷ fs) = ×_prop (IsPoly-prop f) (AllPolys-prop fs)

pub IsFormed-prop : (phase : List Term) (outs : List (List (List ℕ))) → IsProp (IsFormed phase outs)
IsFormed-prop phase outs = ×_prop (IsPhasePoly-prop phase) (AllPolys-prop outs)
