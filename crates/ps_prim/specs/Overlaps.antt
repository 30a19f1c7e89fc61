-- The overlap of two path sums: the closed sum of the inner product of their columns, and what its number shows.
use Rattle.std.specs.Prelude.{ℕ, ◌≡◌, ◌+◌, ◌%◌, List, [], length}
use Rattle.std.proofs.Math.IntN.{ℤ, pos, ◌+ℤ◌, ◌-ℤ◌}
use Rattle.ps_ring.specs.Numbers.{one, SameScaled}
use Rattle.ps_ring.specs.Sums.{PathValues, signed_count}
use Rattle.ps_ring.specs.Joins.{OverlapSum, IsOpen}
use Rattle.ps_prim.specs.declared.prims.Primitive.{Primitive as Prim}
use Rattle.ps_prim.specs.Amplitudes.{Truths, amplitude, turns}
use Rattle.ps_prim.specs.Maps.{AllWithin, SameAt, DiffersAt, SamePhaseAt, PhaseDiffersAt}
use Rattle.ps_prim.specs.Columns.{inner_over}
use Rattle.ps_prim.specs.Sums.{Denotes}

-- the number of the overlap is the inner product of the two sums' numbers over all outputs
abbrev pub OverlapIsInner : Type 0
OverlapIsInner = (n : ℕ) (S1 S2 S : PathValues) → OverlapSum n S1 S2 S → IsOpen n S1 → IsOpen n S2 → (x : Truths) → length x ≡ n
    → SameScaled S.k (signed_count S x []) (S1.k +ℤ S2.k) (inner_over n (signed_count S1 x) (signed_count S2 x))

-- and of sums that denote lists of prims that of their amplitudes
abbrev pub OverlapDenotes : Type 0
OverlapDenotes = (n : ℕ) (S1 S2 S : PathValues) (A B : List Prim) → OverlapSum n S1 S2 S → Denotes n S1 A → Denotes n S2 B → (x : Truths) → length x ≡ n
    → SameScaled S.k (signed_count S x []) (pos ((turns A + turns A) + (turns B + turns B))) (inner_over n (amplitude A x) (amplitude B x))

-- the closed sum stands for 1 at x
abbrev pub IsOne : PathValues → Truths → Type 0
IsOne S x = SameScaled S.k (signed_count S x []) (pos 0) one

-- an overlap that stands for 1 shows that the columns are equal
abbrev pub OverlapOne : Type 0
OverlapOne = (n : ℕ) (S1 S2 S : PathValues) (A B : List Prim) → OverlapSum n S1 S2 S → Denotes n S1 A → Denotes n S2 B → AllWithin n A → AllWithin n B → (x : Truths) → length x ≡ n
    → IsOne S x → SameAt n A B x

-- and one that does not shows that they are not
abbrev pub OverlapNotOne : Type 0
OverlapNotOne = (n : ℕ) (S1 S2 S : PathValues) (A B : List Prim) → OverlapSum n S1 S2 S → Denotes n S1 A → Denotes n S2 B → AllWithin n A → AllWithin n B → (x : Truths) → length x ≡ n
    → ¬ (IsOne S x) → DiffersAt n A B x

-- a phase over a power of the root of 2 is 1 only as itself
abbrev pub PhaseIsOne : Type 0
PhaseIsOne = (k : ℤ) (p : ℕ) → SameScaled k (λ j. one (j -ℤ pos p)) (pos 0) one → (k ≡ pos 0) × (p % 4294967296 ≡ 0)

-- the closed sum stands for the phase p at x
abbrev pub IsTurn : PathValues → Truths → ℕ → Type 0
IsTurn S x p = SameScaled S.k (signed_count S x []) (pos 0) (λ j. one (j -ℤ pos p))

-- an overlap that stands for a phase shows that the one column is the other turned by it
abbrev pub OverlapTurn : Type 0
OverlapTurn = (n : ℕ) (S1 S2 S : PathValues) (A B : List Prim) → OverlapSum n S1 S2 S → Denotes n S1 A → Denotes n S2 B → AllWithin n A → AllWithin n B → (x : Truths) → length x ≡ n
    → (p : ℕ) → IsTurn S x p → SamePhaseAt n A B p x

-- and one that does not shows that it is not
abbrev pub OverlapNoTurn : Type 0
OverlapNoTurn = (n : ℕ) (S1 S2 S : PathValues) (A B : List Prim) → OverlapSum n S1 S2 S → Denotes n S1 A → Denotes n S2 B → AllWithin n A → AllWithin n B → (x : Truths) → length x ≡ n
    → (p : ℕ) → ¬ (IsTurn S x p) → PhaseDiffersAt n A B p x

-- a phase over a power of the root of 2 is a phase only as itself
abbrev pub PhaseIsTurn : Type 0
PhaseIsTurn = (k : ℤ) (p q : ℕ) → SameScaled k (λ j. one (j -ℤ pos p)) (pos 0) (λ j. one (j -ℤ pos q)) → (k ≡ pos 0) × (p % 4294967296 ≡ q % 4294967296)
