-- What is settled before a step is taken.
use Rattle.std.specs.Prelude.{ℕ, ◌≡◌, ◌+◌, min, Bool, true, false, List, length}
use Rattle.ps_mono.specs.Truth.{with_value}
use Rattle.ps_bool.specs.Polys.{bool_value, occurs}
use Rattle.ps_phase.specs.declared.terms.Term.{Term}
use Rattle.ps_phase.specs.Adding.{terms_with, terms_without}
use Rattle.ps_phase.specs.Phases.{phase_occurs}
use Rattle.ps_sum.specs.declared.sums.PathSum.{PathSum}
use Rattle.ps_rules.specs.declared.parts.Parted.{Parted}
use Rattle.ps_rules.specs.declared.steps.Step.{Step}
use Rattle.ps_rules.specs.declared.steps.Step.TheVariants.{Elim, Hh, Omega}
use Rattle.ps_rules.specs.declared.faults.ApplyFault.{ApplyFault}
use Rattle.ps_rules.specs.declared.faults.ApplyFault.TheVariants.{NotARedex, Passed, Memory}
use Rattle.ps_rules.specs.Terms.{others}
use Rattle.ps_rules.specs.Rules.{Applies, IsStepPoly, FirstAbove, StepPasses, first_of}

-- the second variable of the step, where it has one, does not stand in q
abbrev pub IsSecondFree : PathSum → Step → List (List ℕ) → Type 0
IsSecondFree S (Elim y0) q = Unit {0}
IsSecondFree S (Hh y0 y1) q = occurs (S.n + y1) q ≡ false
IsSecondFree S (Omega y0) q = Unit {0}

-- q is the step's polynomial, which knows none of the step's variables, and else only what the phase knows
pub record IsQuotient (S : PathSum) (s : Step) (q : List (List ℕ)) : Type 0 where
  pub poly : IsStepPoly S s q
  pub first_free : occurs (S.n + first_of s) q ≡ false
  pub second_free : IsSecondFree S s q
  pub known : (u : ℕ) → phase_occurs u S.phase ≡ false → occurs u q ≡ false

-- the terms in which the polynomial comes: for Hh those with the second variable and without the first
abbrev pub IsInto : PathSum → Step → List Term → Type 0
IsInto S (Elim y0) ts = Unit {0}
IsInto S (Hh y0 y1) ts = ts ≡ terms_without (S.n + y0) (terms_with (S.n + y1) S.phase)
IsInto S (Omega y0) ts = Unit {0}

-- so many terms have neither variable of Hh
abbrev pub IsLeft : PathSum → Step → ℕ → Type 0
IsLeft S (Elim y0) k = Unit {0}
IsLeft S (Hh y0 y1) k = k ≡ length (terms_without (S.n + y1) (terms_without (S.n + y0) S.phase))
IsLeft S (Omega y0) k = Unit {0}

-- the terms sorted out by v and w, where m is the product of both
pub record IsParted (v w : ℕ) (m : List ℕ) (ts : List Term) (p : Parted) : Type 0 where
  pub value : (a : ℕ → Bool) → bool_value p.monos.items a ≡ bool_value (others v m ts) (with_value a v true)
  pub known : (u : ℕ) → occurs u (others v m ts) ≡ false → occurs u p.monos.items ≡ false
  pub free : occurs v p.monos.items ≡ false
  pub into : p.into.items ≡ terms_without v (terms_with w ts)
  pub left : p.left ≡ length (terms_without w (terms_without v ts))

-- c is the first count above the limit, as it is told
abbrev pub IsFirstTold : List ℕ → ℕ → Type 0
IsFirstTold xs c = (k : ℕ) × FirstAbove xs k × (c ≡ min k 1000000000000)

-- what is so where a step is refused
abbrev pub Refuses : PathSum → Step → ApplyFault → Type 0
Refuses S s NotARedex = Applies S s → ⊥
Refuses S s (Passed p) = Applies S s × StepPasses S s p
Refuses S s Memory = Unit {0}
