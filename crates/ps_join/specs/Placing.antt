-- The one output that a sum changes, put among those of a sum before it.
use Rattle.std.specs.Prelude.{ℕ, ◌≡◌, ◌≢◌, ◌<◌, true, not, Bool, List, [], ◌∷◌, Option, Some, None, length, get_or, set}
use Rattle.ps_bool.specs.Polys.{bool_value, occurs, IsPoly}
use Rattle.ps_join.specs.declared.putting.Output.{Output}
use Rattle.ps_join.specs.declared.putting.Output.TheVariants.{Same, Flipped, Put}
use Rattle.ps_join.specs.Parts.{BoolPart}
use Rattle.ps_join.specs.Changing.{OneIs, OthersStay}

-- g is 1 where f is 0
pub record IsFlipOf (f g : List (List ℕ)) : Type 0 where
  pub form : IsPoly g
  pub value : (a : ℕ → Bool) → bool_value g a ≡ not (bool_value f a)
  pub variables : (v : ℕ) → occurs v g ≡ true → occurs v f ≡ true

-- the place of the output that changes
abbrev pub place_of : Output → Option ℕ
place_of Same = None
place_of (Flipped q) = Some q
place_of (Put q p) = Some q

-- its place is below the width
abbrev pub IsInside : ℕ → Output → Type 0
IsInside width Same = Unit {0}
IsInside width (Flipped q) = q < width
IsInside width (Put q p) = q < width

-- gs are the outputs fs but for output q
abbrev pub OthersSame : ℕ → List (List (List ℕ)) → List (List (List ℕ)) → Type 0
OthersSame q fs gs = (length gs ≡ length fs) × ((i : ℕ) → i ≢ q → get_or gs i [] ≡ get_or fs i [])

-- gs are the outputs fs with the changed one in its place
abbrev pub IsPut : List (List (List ℕ)) → Output → List (List (List ℕ)) → Type 0
IsPut fs Same gs = gs ≡ fs
IsPut fs (Flipped q) gs = (g : List (List ℕ)) × (IsFlipOf (get_or fs q []) g × (gs ≡ set fs q g))
IsPut fs (Put q p) gs = gs ≡ set fs q p

-- the output of the second's outputs gs that is not its input, behind the first's outputs fs; Same: each is its input
abbrev pub Becomes : ℕ → ℕ → ℕ → List (List (List ℕ)) → List (List (List ℕ)) → Output → Type 0
Becomes n m1 m2 fs gs Same = (i : ℕ) → i < length gs → get_or gs i [] ≡ (i ∷ []) ∷ []
Becomes n m1 m2 fs gs (Flipped q) = OneIs q gs ([] ∷ (q ∷ []) ∷ [])
Becomes n m1 m2 fs gs (Put q p) = (q < length gs) × (OthersStay q gs × BoolPart n m1 m2 fs (get_or gs q []) p)
