-- The laws of inner products of numbers.
use Rattle.std.specs.Prelude.{◌≡◌}
use Rattle.std.proofs.Math.IntN.{ℤ, pos, ◌+ℤ◌, ◌-ℤ◌, ◌*ℤ◌}
use Rattle.ps_ring.specs.Numbers.{Number, IsNumber, one, sqrt2}
use Rattle.ps_ring.specs.Inner.{window, inner}

abbrev pub InnerIsNumber : Type 0
InnerIsNumber = (c d : Number) → IsNumber d → IsNumber (inner c d)

abbrev pub InnerAddsLeft : Type 0
InnerAddsLeft = (c c' d : Number) (j : ℤ) → inner (λ i. c i +ℤ c' i) d j ≡ inner c d j +ℤ inner c' d j

abbrev pub InnerAddsRight : Type 0
InnerAddsRight = (c d d' : Number) (j : ℤ) → inner c (λ i. d i +ℤ d' i) j ≡ inner c d j +ℤ inner c d' j

-- a phase on both sides changes nothing
abbrev pub InnerTurnedBoth : Type 0
InnerTurnedBoth = (c d : Number) → IsNumber c → IsNumber d → (p j : ℤ) → inner (λ i. c (i -ℤ p)) (λ i. d (i -ℤ p)) j ≡ inner c d j

-- a phase on the second turns the product by it
abbrev pub InnerTurnedRight : Type 0
InnerTurnedRight = (c d : Number) → IsNumber c → IsNumber d → (p j : ℤ) → inner c (λ i. d (i -ℤ p)) j ≡ inner c d (j -ℤ p)

-- the root of 2 on one side
abbrev pub InnerRootLeft : Type 0
InnerRootLeft = (c d : Number) → IsNumber c → IsNumber d → (j : ℤ) → inner (sqrt2 c) d j ≡ sqrt2 (inner c d) j

abbrev pub InnerRootRight : Type 0
InnerRootRight = (c d : Number) → IsNumber c → IsNumber d → (j : ℤ) → inner c (sqrt2 d) j ≡ sqrt2 (inner c d) j

-- 1 on the first side
abbrev pub InnerOfOne : Type 0
InnerOfOne = (d : Number) (j : ℤ) → inner one d j ≡ d j

-- with itself it is at 0 the sum of the squares
abbrev pub InnerSelf : Type 0
InnerSelf = (c : Number) → inner c c (pos 0) ≡ window 2147483648 (λ i. c i *ℤ c i)

-- so only of 0 is it 0 there
abbrev pub InnerNone : Type 0
InnerNone = (c : Number) → IsNumber c → inner c c (pos 0) ≡ pos 0 → (j : ℤ) → c j ≡ pos 0
