-- Sums that change at most one output, and what they come to behind others.
use Rattle.std.specs.Prelude.{ℕ, ◌≡◌, ◌≢◌, ◌<◌, ◌≤◌, false, List, [], ◌∷◌, length, get_or}
use Rattle.std.specs.Coded.{le_prop}
use Rattle.std.proofs.Props.{props}
use Rattle.ps_mono.specs.Sets.{stands}
use Rattle.ps_phase.specs.declared.terms.Term.{Term}
use Rattle.ps_phase.specs.Phases.{phase_occurs}
use Rattle.ps_join.specs.declared.changes.Change.{Change}
use Rattle.ps_join.specs.declared.changes.Change.TheVariants.{Stay, Path, Flip}

-- each output but output q is its input
abbrev pub OthersStay : ℕ → List (List (List ℕ)) → Type 0
OthersStay q gs = (i : ℕ) → i < length gs → i ≢ q → get_or gs i [] ≡ (i ∷ []) ∷ []

-- output q is g, and each other is its input
abbrev pub OneIs : ℕ → List (List (List ℕ)) → List (List ℕ) → Type 0
OneIs q gs g = (q < length gs) × ((get_or gs q [] ≡ g) × OthersStay q gs)

-- of the outputs gs of a sum on n qubits those change that are told
pub record IsChange (n : ℕ) (gs : List (List (List ℕ))) (c : Change) : Type 0 where
  pub stay : c ≡ Stay → (i : ℕ) → i < length gs → get_or gs i [] ≡ (i ∷ []) ∷ []
  pub path : (q y : ℕ) → c ≡ Path q y → OneIs q gs ((y ∷ []) ∷ []) × (n ≤ y)
  pub flip : (q : ℕ) → c ≡ Flip q → OneIs q gs ([] ∷ (q ∷ []) ∷ [])

pub IsChange-prop : (n : ℕ) (gs : List (List (List ℕ))) (c : Change) → IsProp (IsChange n gs c)
IsChange-prop n gs c = hlevel (props, le_prop)

-- output q, g, becomes what is told
pub record IsKind (n q : ℕ) (g : List (List ℕ)) (c : Change) : Type 0 where
  pub stay : c ≢ Stay
  pub path : (r y : ℕ) → c ≡ Path r y → (r ≡ q) × ((g ≡ (y ∷ []) ∷ []) × (n ≤ y))
  pub flip : (r : ℕ) → c ≡ Flip r → (r ≡ q) × (g ≡ [] ∷ (r ∷ []) ∷ [])

-- of the inputs below n at most q stands in m
abbrev pub NoOther : ℕ → ℕ → List ℕ → Type 0
NoOther q n m = (u : ℕ) → u < n → u ≢ q → stands u m ≡ false

-- and in a phase
abbrev pub OnlyInput : ℕ → ℕ → List Term → Type 0
OnlyInput n q p = (u : ℕ) → u < n → u ≢ q → phase_occurs u p ≡ false

-- each output is short
abbrev pub AllShort : List (List (List ℕ)) → Type 0
AllShort fs = (i : ℕ) → i < length fs → length (get_or fs i []) < 32768

-- no output has more monomials than so many
abbrev pub NoLonger : ℕ → List (List (List ℕ)) → Type 0
NoLonger most fs = (i : ℕ) → i < length fs → length (get_or fs i []) ≤ most
