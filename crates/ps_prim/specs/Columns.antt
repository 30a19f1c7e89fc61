-- Inner products of columns of amplitudes, and what lists of prims do to them.
use Rattle.std.specs.Prelude.{ℕ, ◌≡◌, ◌+◌, ◌^◌, List, length}
use Rattle.std.proofs.Math.IntN.{ℤ, pos, ◌*ℤ◌}
use Rattle.ps_ring.specs.Numbers.{Number, IsNumber, one}
use Rattle.ps_ring.specs.Inner.{inner}
use Rattle.ps_ring.specs.Sums.{total}
use Rattle.ps_prim.specs.declared.prims.Primitive.{Primitive as Prim}
use Rattle.ps_prim.specs.declared.prims.Primitive.TheVariants.{U, Cx}
use Rattle.ps_prim.specs.Amplitudes.{Truths, Column, act, amplitude, turns}
use Rattle.ps_prim.specs.Maps.{IsWithin, AllWithin, SameAt}

-- the sum of the inner products of v and w over all lists of n output bits
unfoldable pub inner_over : ℕ → Column → Column → Number
inner_over n v w j = total n (λ z. inner (v z) (w z) j)

-- by how much a prim multiplies the inner product of two columns
abbrev pub weight : Prim → ℕ
weight (U theta phi lambda q) = 4
weight (Cx c t) = 1

abbrev pub PrimKeepsInner : Type 0
PrimKeepsInner = (n : ℕ) (g : Prim) (v w : Column) → IsWithin n g → ((z : Truths) → IsNumber (v z)) → ((z : Truths) → IsNumber (w z)) → (j : ℤ)
    → inner_over n (act g v) (act g w) j ≡ pos (weight g) *ℤ inner_over n v w j

-- the inner product of two columns of lists of prims at the input x is 1, as far as it is scaled
abbrev pub InnerIsOne : ℕ → List Prim → List Prim → Truths → Type 0
InnerIsOne n A B x = (j : ℤ) → inner_over n (amplitude A x) (amplitude B x) j ≡ pos (2 ^ (turns A + turns B)) *ℤ one j

-- each column has inner product 1 with itself
abbrev pub OwnInnerIsOne : Type 0
OwnInnerIsOne = (n : ℕ) (A : List Prim) (x : Truths) → AllWithin n A → length x ≡ n → InnerIsOne n A A x

-- columns with inner product 1 are equal
abbrev pub OneIsSame : Type 0
OneIsSame = (n : ℕ) (A B : List Prim) (x : Truths) → AllWithin n A → AllWithin n B → length x ≡ n → InnerIsOne n A B x → SameAt n A B x

-- and equal columns have inner product 1
abbrev pub SameIsOne : Type 0
SameIsOne = (n : ℕ) (A B : List Prim) (x : Truths) → AllWithin n A → AllWithin n B → length x ≡ n → SameAt n A B x → InnerIsOne n A B x
