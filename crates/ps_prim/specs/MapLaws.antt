-- What the words on maps have to do with one another.
use Rattle.std.specs.Prelude.{ℕ, ◌≡◌, List, [], ◌∷◌, length, All}
use Rattle.ps_prim.specs.declared.prims.Primitive.{Primitive as Prim}
use Rattle.ps_prim.specs.Amplitudes.{Truths}
use Rattle.ps_prim.specs.Maps.{SameMap, DiffersAt, SamePhase, PhaseDiffers}

-- lists that are one map differ at no input
abbrev pub SameNowhereDiffers : Type 0
SameNowhereDiffers = (n : ℕ) (A B : List Prim) (x : Truths) → length x ≡ n → SameMap n A B → ¬ (DiffersAt n A B x)

-- lists that are one map up to a phase are not told apart by inputs
abbrev pub PhaseNowhereDiffers : Type 0
PhaseNowhereDiffers = (n : ℕ) (A B : List Prim) (p : ℕ) (inputs : List Truths) → All (λ x. length x ≡ n) inputs → SamePhase n A B p → ¬ (PhaseDiffers n A B inputs)

-- one map is one map up to no phase, and the other way round
abbrev pub SameIsNoPhase : Type 0
SameIsNoPhase = (n : ℕ) (A B : List Prim) → SameMap n A B → SamePhase n A B 0

abbrev pub NoPhaseIsSame : Type 0
NoPhaseIsSame = (n : ℕ) (A B : List Prim) → SamePhase n A B 0 → SameMap n A B

-- an input at which no phase will do is one at which they differ
abbrev pub PhaseDiffersDiffers : Type 0
PhaseDiffersDiffers = (n : ℕ) (A B : List Prim) (x : Truths) → PhaseDiffers n A B (x ∷ []) → DiffersAt n A B x
