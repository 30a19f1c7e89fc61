-- What a list of primitive gates does to a basis input: an amplitude for each output.
use Rattle.std.specs.Prelude.{ℕ, ◌+◌, ◌*◌, Bool, true, false, not, List, [], ◌∷◌, set}
use Rattle.std.proofs.Math.IntN.{ℤ, pos, ◌+ℤ◌, ◌-ℤ◌, neg_ℤ}
use Rattle.ps_ring.specs.Numbers.{Number, one, when}
pub use Rattle.ps_ring.specs.Truths.{Truths, bit}
unfoldable pub use Rattle.ps_ring.specs.Truths.{same_bits}
use Rattle.ps_prim.specs.declared.prims.Primitive.{Primitive as Prim}
use Rattle.ps_prim.specs.declared.prims.Primitive.TheVariants.{U, Cx}

-- an amplitude for each list of output bits
abbrev pub Column : Type 0
Column = Truths → Number

-- the two phases whose sum is the doubled entry of U at a row and a column,
-- with t the units of theta, and f and l twice the units of phi and lambda
unfoldable pub first_phase : ℤ → ℤ → ℤ → Bool → Bool → ℤ
first_phase t f l false false = t
first_phase t f l false true = l +ℤ t +ℤ pos 1073741824
first_phase t f l true false = f +ℤ t -ℤ pos 1073741824
first_phase t f l true true = f +ℤ l +ℤ t

unfoldable pub second_phase : ℤ → ℤ → ℤ → Bool → Bool → ℤ
second_phase t f l false false = neg_ℤ t
second_phase t f l false true = l -ℤ t -ℤ pos 1073741824
second_phase t f l true false = f -ℤ t +ℤ pos 1073741824
second_phase t f l true true = f +ℤ l -ℤ t

-- the doubled entry at row a and column b, times c
unfoldable pub entry : ℤ → ℤ → ℤ → Bool → Bool → Number → Number
entry t f l a b c j = c (j -ℤ first_phase t f l a b) +ℤ c (j -ℤ second_phase t f l a b)

-- bit t exchanged where b is true
unfoldable pub flipped : Bool → ℕ → Truths → Truths
flipped true t z = set z t (not (bit z t))
flipped false t z = z

-- bit t exchanged where bit c is 1
unfoldable pub exchanged : ℕ → ℕ → Truths → Truths
exchanged c t z = flipped (bit z c) t z

-- a column after one more prim; after U each amplitude stands doubled
unfoldable pub act : Prim → Column → Column
act (U theta phi lambda q) v z j =
    entry (pos theta) (pos (2 * phi)) (pos (2 * lambda)) (bit z q) false (v (set z q false)) j
    +ℤ entry (pos theta) (pos (2 * phi)) (pos (2 * lambda)) (bit z q) true (v (set z q true)) j
act (Cx c t) v z j = v (exchanged c t z) j

-- a column after a list of prims, the first of them first
unfoldable pub run : List Prim → Column → Column
run [] v = v
run (g ∷ gs) v = run gs (act g v)

-- the column that is 1 at x alone
unfoldable pub start : Truths → Column
start x z j = when (same_bits x z) (one j)

-- the amplitude of a list of prims at input x and output z, times 2 for each of its U
unfoldable pub amplitude : List Prim → Truths → Column
amplitude prims x = run prims (start x)

-- how many of the prims are U
unfoldable pub turns : List Prim → ℕ
turns [] = 0
turns (U theta phi lambda q ∷ gs) = turns gs + 1
turns (Cx c t ∷ gs) = turns gs
