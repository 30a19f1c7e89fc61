-- When two lists of prims are one linear map on n qubits, and where they are not.
use Rattle.std.specs.Prelude.{ℕ, ◌≡◌, ◌≢◌, ◌<◌, ◌^◌, List, [], ◌∷◌, length}
use Rattle.std.specs.List.{Any}
use Rattle.std.proofs.Math.IntN.{ℤ, pos, ◌-ℤ◌, ◌*ℤ◌}
use Rattle.ps_prim.specs.declared.prims.Primitive.{Primitive as Prim}
use Rattle.ps_prim.specs.declared.prims.Primitive.TheVariants.{U, Cx}
use Rattle.ps_prim.specs.Amplitudes.{Truths, amplitude, turns}

-- the prim's qubits are below n, and those of a Cx different
abbrev pub IsWithin : ℕ → Prim → Type 0
IsWithin n (U theta phi lambda q) = q < n
IsWithin n (Cx c t) = (c < n) × (t < n) × (c ≢ t)

-- so are those of each prim
abbrev pub AllWithin : ℕ → List Prim → Type 0
AllWithin n [] = Unit {0}
AllWithin n (g ∷ gs) = IsWithin n g × AllWithin n gs

-- both have one amplitude at every output of the input x; each list doubles its amplitudes once for each of its U
abbrev pub SameAt : ℕ → List Prim → List Prim → Truths → Type 0
SameAt n A B x = (z : Truths) → length z ≡ n → (j : ℤ) → pos (2 ^ turns B) *ℤ amplitude A x z j ≡ pos (2 ^ turns A) *ℤ amplitude B x z j

-- one linear map on n qubits
abbrev pub SameMap : ℕ → List Prim → List Prim → Type 0
SameMap n A B = (x : Truths) → length x ≡ n → SameAt n A B x

-- some amplitude at the input x differs
abbrev pub DiffersAt : ℕ → List Prim → List Prim → Truths → Type 0
DiffersAt n A B x = (z : Truths) × (length z ≡ n) × ((j : ℤ) × (pos (2 ^ turns B) *ℤ amplitude A x z j ≢ pos (2 ^ turns A) *ℤ amplitude B x z j))

-- ---- up to a global phase of p parts of 2^32 of a turn
-- the amplitudes of B at the input x are those of A turned by p
abbrev pub SamePhaseAt : ℕ → List Prim → List Prim → ℕ → Truths → Type 0
SamePhaseAt n A B p x = (z : Truths) → length z ≡ n → (j : ℤ) → pos (2 ^ turns A) *ℤ amplitude B x z j ≡ pos (2 ^ turns B) *ℤ amplitude A x z (j -ℤ pos p)

-- B is the linear map of A turned by p
abbrev pub SamePhase : ℕ → List Prim → List Prim → ℕ → Type 0
SamePhase n A B p = (x : Truths) → length x ≡ n → SamePhaseAt n A B p x

-- some amplitude of B at the input x is not that of A turned by p
abbrev pub PhaseDiffersAt : ℕ → List Prim → List Prim → ℕ → Truths → Type 0
PhaseDiffersAt n A B p x = (z : Truths) × (length z ≡ n) × ((j : ℤ) × (pos (2 ^ turns A) *ℤ amplitude B x z j ≢ pos (2 ^ turns B) *ℤ amplitude A x z (j -ℤ pos p)))

-- by whatever A is turned, at one of these inputs some amplitude of B differs from it
abbrev pub PhaseDiffers : ℕ → List Prim → List Prim → List Truths → Type 0
PhaseDiffers n A B inputs = (p : ℕ) → Any (PhaseDiffersAt n A B p) inputs
