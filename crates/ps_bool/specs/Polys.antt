-- Boolean polynomials as lists of monomials, and monomials as ascending lists of variables.
use Rattle.std.specs.Prelude.{ℕ, ◌≡◌, Bool, false, ◌||◌, List, [], ◌∷◌}
use Rattle.std.specs.declared.cmp.Ordering.TheVariants.{Less}
use Rattle.ps_mono.specs.Sets.{mono_cmp, holds, stands, IsVarSet}
use Rattle.ps_mono.specs.Truth.{differ}

-- the value at an assignment: the parity of the monomials that hold
unfoldable pub bool_value : List (List ℕ) → (ℕ → Bool) → Bool
bool_value [] a = false
bool_value (m ∷ f) a = differ (holds m a) (bool_value f a)

-- v stands in a monomial
unfoldable pub occurs : ℕ → List (List ℕ) → Bool
occurs v [] = false
occurs v (m ∷ f) = stands v m || occurs v f

-- P holds of each monomial
abbrev pub Each : (List ℕ → Type 0) → List (List ℕ) → Type 0
Each P [] = Unit {0}
Each P (m ∷ f) = P m × Each P f

-- m comes before each monomial of f
abbrev pub Before : List ℕ → List (List ℕ) → Type 0
Before m f = Each (λ k. mono_cmp m k ≡ Less) f

-- each monomial comes before those behind it, so none stands twice
abbrev pub Ascending : List (List ℕ) → Type 0
Ascending [] = Unit {0}
Ascending (m ∷ f) = Before m f × Ascending f

-- each monomial is an ascending list of variables below 512
abbrev pub AllSets : List (List ℕ) → Type 0
AllSets f = Each IsVarSet f

-- the one form of a polynomial
pub record IsPoly (f : List (List ℕ)) : Type 0 where
  pub in_order : Ascending f
  pub sets : AllSets f
