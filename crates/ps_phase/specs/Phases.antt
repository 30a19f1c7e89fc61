-- Phase polynomials as lists of terms, and what they are worth.
use Rattle.std.specs.Prelude.{ℕ, ◌≡◌, ◌≢◌, ◌+◌, ◌%◌, ◌<◌, Bool, false, ◌||◌, cond, List, [], ◌∷◌, nat_eq}
use Rattle.std.specs.declared.cmp.Ordering.TheVariants.{Less}
use Rattle.std.specs.Cmp.Lexicographic.{pointwise}
use Rattle.ps_phase.specs.declared.terms.Term.{Term}
use Rattle.ps_mono.specs.Sets.{mono_cmp, holds, stands, IsVarSet}
use Rattle.ps_mono.specs.Truth.{times}

-- the sum of the phases of the terms that hold, not reduced
unfoldable pub phase_value : List Term → (ℕ → Bool) → ℕ
phase_value [] a = 0
phase_value (t ∷ ts) a = times (holds t.mono a) t.phase + phase_value ts a

-- v stands in a term
unfoldable pub phase_occurs : ℕ → List Term → Bool
phase_occurs v [] = false
phase_occurs v (t ∷ ts) = stands v t.mono || phase_occurs v ts

-- the phase of the first term whose monomial is m, and 0 where there is none
unfoldable pub coefficient : List ℕ → List Term → ℕ
coefficient m [] = 0
coefficient m (t ∷ ts) = cond (pointwise nat_eq m t.mono) t.phase (coefficient m ts)

-- a set of variables with a phase that is no whole number of turns
pub record IsTerm (t : Term) : Type 0 where
  pub set : IsVarSet t.mono
  pub turns : t.phase ≢ 0
  pub small : t.phase < 4294967296

-- m comes before the monomial of each term
abbrev pub TermBefore : List ℕ → List Term → Type 0
TermBefore m [] = Unit {0}
TermBefore m (t ∷ ts) = (mono_cmp m t.mono ≡ Less) × TermBefore m ts

-- terms, and each monomial comes before all later ones
abbrev pub IsPhasePoly : List Term → Type 0
IsPhasePoly [] = Unit {0}
IsPhasePoly (t ∷ ts) = IsTerm t × TermBefore t.mono ts × IsPhasePoly ts

-- sets with phases of less than a turn, in any order
abbrev pub AllSmall : List Term → Type 0
AllSmall [] = Unit {0}
AllSmall (t ∷ ts) = IsVarSet t.mono × (t.phase < 4294967296) × AllSmall ts

-- two polynomials turn by as much, up to whole turns
abbrev pub SameTurns : List Term → List Term → Type 0
SameTurns f g = (a : ℕ → Bool) → phase_value f a % 4294967296 ≡ phase_value g a % 4294967296
