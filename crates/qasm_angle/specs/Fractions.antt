-- Dyadic fractions, and the exact results of operations on them.
use Rattle.std.specs.Prelude.{◌≡◌, ℕ, zero, suc, ◌+◌, ◌*◌, ◌^◌, ◌<◌, ◌≤◌, Bool, true, false, ℤ, pos, negsuc, neg_ℤ, ◌+ℤ◌, ◌*ℤ◌, Result, Ok, Err}
use Rattle.qasm_angle.specs.declared.types.Dyadic.{Dyadic}
use Rattle.qasm_angle.specs.declared.types.AngleFault.{AngleFault}
use Rattle.qasm_angle.specs.declared.types.AngleFault.TheVariants.{NotDyadic, AngleRange}

-- d is n / 2^k
abbrev pub Stands : Dyadic → ℤ → ℕ → Type 0
Stands d n k = d.num *ℤ pos (2 ^ k) ≡ n *ℤ pos (2 ^ d.shift)

-- the dyadic number that is n / 2^k, or AngleRange where none within the bounds is
abbrev pub Exactly : ℤ → ℕ → Result Dyadic AngleFault → Type 0
Exactly n k (Ok d) = Stands d n k
Exactly n k (Err AngleRange) = (d : Dyadic) → Stands d n k → ⊥
Exactly n k (Err f) = ⊥

-- n, negated where b is true
abbrev pub signed : Bool → ℕ → ℤ
signed true n = neg_ℤ (pos n)
signed false n = pos n

-- whether it is negative
abbrev pub below_zero : ℤ → Bool
below_zero (pos n) = false
below_zero (negsuc n) = true

-- the sum of two dyadic numbers
abbrev pub SumIs : Dyadic → Dyadic → Result Dyadic AngleFault → Type 0
SumIs a b r = Exactly (a.num *ℤ pos (2 ^ b.shift) +ℤ b.num *ℤ pos (2 ^ a.shift)) (a.shift + b.shift) r

-- their product
abbrev pub ProductIs : Dyadic → Dyadic → Result Dyadic AngleFault → Type 0
ProductIs a b r = Exactly (a.num *ℤ b.num) (a.shift + b.shift) r

-- n / 2^k times b / 2^q is a / 2^p
abbrev pub IsRatio : ℤ → ℕ → ℤ → ℕ → ℤ → ℕ → Type 0
IsRatio a p b q n k = n *ℤ b *ℤ pos (2 ^ p) ≡ a *ℤ pos (2 ^ (k + q))

-- a / 2^p divided by b / 2^q, which is not 0: NotDyadic where no dyadic fraction is the quotient, AngleRange where one is and none within the bounds
abbrev pub RatioIs : ℤ → ℕ → ℤ → ℕ → Result Dyadic AngleFault → Type 0
RatioIs a p b q (Ok d) = IsRatio a p b q d.num d.shift
RatioIs a p b q (Err NotDyadic) = (n : ℤ) (k : ℕ) → IsRatio a p b q n k → ⊥
RatioIs a p b q (Err AngleRange) = ((n : ℤ) × (k : ℕ) × IsRatio a p b q n k) × ((d : Dyadic) → IsRatio a p b q d.num d.shift → ⊥)
RatioIs a p b q (Err f) = ⊥

-- the quotient of two dyadic numbers, of which the second is not 0
abbrev pub QuotientIs : Dyadic → Dyadic → Result Dyadic AngleFault → Type 0
QuotientIs a b r = RatioIs a.num a.shift b.num b.shift r

-- z^n
abbrev pub to_power : ℤ → ℕ → ℤ
to_power z zero = pos 1
to_power z (suc n) = z *ℤ to_power z n

-- the n-th power of a dyadic number
abbrev pub PowerIs : Dyadic → ℕ → Result Dyadic AngleFault → Type 0
PowerIs a n r = Exactly (to_power a.num n) (a.shift * n) r

-- 1 divided by the n-th power of a dyadic number, which is not 0
abbrev pub InverseIs : Dyadic → ℕ → Result Dyadic AngleFault → Type 0
InverseIs a n r = RatioIs (pos 1) 0 (to_power a.num n) (a.shift * n) r

-- d / 10^k: its exact value, or NotDyadic where 5^k does not divide d
pub data DecimalIs (d k : ℕ) : Result Dyadic AngleFault → Type 0 where
  divided : {r : Result Dyadic AngleFault} (q : ℕ) → d ≡ q * 5 ^ k → Exactly (pos q) k r → DecimalIs d k r
  broken : ((q : ℕ) → d ≡ q * 5 ^ k → ⊥) → DecimalIs d k (Err NotDyadic)

-- the decimal number d·10^g: AngleRange where d is 10^18 or more or g is above 18
pub data NumberIs (d : ℕ) : ℤ → Result Dyadic AngleFault → Type 0 where
  many : {g : ℤ} → 1000000000000000000 ≤ d → NumberIs d g (Err AngleRange)
  large : {k : ℕ} → 18 < k → NumberIs d (pos k) (Err AngleRange)
  whole : {k : ℕ} {r : Result Dyadic AngleFault} → d < 1000000000000000000 → k ≤ 18 → Exactly (pos (d * 10 ^ k)) 0 r → NumberIs d (pos k) r
  decimal : {k : ℕ} {r : Result Dyadic AngleFault} → d < 1000000000000000000 → DecimalIs d (suc k) r → NumberIs d (negsuc k) r
