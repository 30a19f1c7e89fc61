-- The laws of numbers, of the root of 2, and of numbers over its powers.
use Rattle.std.specs.Prelude.{ℕ, suc, ◌≡◌, ◌+◌, ◌^◌, cond, not, Bool}
use Rattle.std.proofs.Math.IntN.{ℤ, pos, ◌+ℤ◌, ◌-ℤ◌, ◌*ℤ◌}
use Rattle.ps_ring.specs.Numbers.{Number, IsNumber, one, when, sqrt2, root2, SameScaled}

abbrev pub OneIsNumber : Type 0
OneIsNumber = IsNumber one

-- the root of 2 twice is doubling
abbrev pub RootTwice : Type 0
RootTwice = (c : Number) → IsNumber c → (j : ℤ) → sqrt2 (sqrt2 c) j ≡ c j +ℤ c j

-- an even power of the root is a power of 2
abbrev pub RootEven : Type 0
RootEven = (e : ℕ) (c : Number) → IsNumber c → (j : ℤ) → root2 (e + e) c j ≡ pos (2 ^ e) *ℤ c j

-- and an odd power is that times the root
abbrev pub RootOdd : Type 0
RootOdd = (e : ℕ) (c : Number) → IsNumber c → (j : ℤ) → root2 (suc (e + e)) c j ≡ pos (2 ^ e) *ℤ sqrt2 c j

-- ---- numbers over powers of the root
abbrev pub SameReflexive : Type 0
SameReflexive = (k : ℤ) (c : Number) → SameScaled k c k c

abbrev pub SameSymmetric : Type 0
SameSymmetric = (k k' : ℤ) (c c' : Number) → SameScaled k c k' c' → SameScaled k' c' k c

abbrev pub SameTransitive : Type 0
SameTransitive = (k k' k'' : ℤ) (c c' c'' : Number) → IsNumber c → IsNumber c'' → SameScaled k c k' c' → SameScaled k' c' k'' c'' → SameScaled k c k'' c''

-- any two powers with the right difference tell it
abbrev pub SameByPowers : Type 0
SameByPowers = (k k' : ℤ) (a b : ℕ) (c c' : Number) → IsNumber c → IsNumber c' → pos a +ℤ k ≡ pos b +ℤ k' → ((j : ℤ) → root2 a c j ≡ root2 b c' j) → SameScaled k c k' c'

-- and follow from it where they raise both at least to the greater exponent
abbrev pub SamePowers : Type 0
SamePowers = (k k' : ℤ) (a b : ℕ) (c c' : Number) → pos a +ℤ k ≡ pos b +ℤ k' → SameScaled k c k' c' → (j : ℤ) → root2 a c j ≡ root2 b c' j

-- ---- two terms of which the second is turned
-- 1 + 1 is the root of 2 twice
abbrev pub SumOfEqual : Type 0
SumOfEqual = (c : Number) → IsNumber c → (j : ℤ) → c j +ℤ c j ≡ root2 2 c j

-- 1 + 1 is 2, and 1 - 1 is 0
abbrev pub SumOfHalfTurn : Type 0
SumOfHalfTurn = (c : Number) → IsNumber c → (b : Bool) (j : ℤ) → c j +ℤ c (j -ℤ pos (cond b 2147483648 0)) ≡ when (not b) (pos 2 *ℤ c j)

-- 1 + i and 1 - i are the root of 2 times an eighth of a turn, forth and back
abbrev pub SumOfQuarterTurn : Type 0
SumOfQuarterTurn = (c : Number) → IsNumber c → (b : Bool) (j : ℤ) → c j +ℤ c (j -ℤ pos (1073741824 + cond b 2147483648 0)) ≡ sqrt2 c (j -ℤ (pos 536870912 -ℤ pos (cond b 1073741824 0)))
