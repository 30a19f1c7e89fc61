-- Operations on pairs r + s·pi.
use Rattle.std.specs.Prelude.{◌≡◌, ◌≢◌, ℕ, suc, ◌≤◌, ℤ, pos, negsuc, nat_abs, neg_ℤ, Result, Ok, Err}
use Rattle.qasm_angle.specs.declared.types.Dyadic.{Dyadic}
use Rattle.qasm_angle.specs.declared.types.Pair.{Pair}
use Rattle.qasm_angle.specs.declared.types.AngleFault.{AngleFault}
use Rattle.qasm_angle.specs.declared.types.AngleFault.TheVariants.{NotDyadic, AngleRange, ByZero}
use Rattle.qasm_angle.specs.Fractions.{SumIs, ProductIs, QuotientIs, PowerIs, InverseIs}

-- both parts; NotDyadic where one is not dyadic, else AngleRange where one is out of bounds
abbrev pub paired : Result Dyadic AngleFault → Result Dyadic AngleFault → Result Pair AngleFault
paired (Ok r) (Ok s) = Ok (record { r = r; s = s })
paired (Err NotDyadic) s = Err NotDyadic
paired r (Err NotDyadic) = Err NotDyadic
paired r s = Err AngleRange

-- the pair of a part that R gives and a part that S gives
abbrev pub ByParts : (Result Dyadic AngleFault → Type 0) → (Result Dyadic AngleFault → Type 0) → Result Pair AngleFault → Type 0
ByParts R S z = (r : Result Dyadic AngleFault) × (s : Result Dyadic AngleFault) × R r × S s × (z ≡ paired r s)

-- the whole number n
abbrev pub IsWhole : ℤ → Dyadic → Type 0
IsWhole n d = (d.num ≡ n) × (d.shift ≡ 0)

-- the pair of a part that R gives, and no pi
abbrev pub OnReal : (Result Dyadic AngleFault → Type 0) → Result Pair AngleFault → Type 0
OnReal R z = ByParts R (λ s. (d : Dyadic) × IsWhole (pos 0) d × (s ≡ Ok d)) z

-- the number pi
abbrev pub IsPi : Pair → Type 0
IsPi x = IsWhole (pos 0) x.r × IsWhole (pos 1) x.s

-- the other sign
abbrev pub IsOpposite : Dyadic → Dyadic → Type 0
IsOpposite a b = (b.num ≡ neg_ℤ a.num) × (b.shift ≡ a.shift)

abbrev pub IsNegation : Pair → Pair → Type 0
IsNegation x z = IsOpposite x.r z.r × IsOpposite x.s z.s

abbrev pub IsSum : Pair → Pair → Result Pair AngleFault → Type 0
IsSum x y z = ByParts (SumIs x.r y.r) (SumIs x.s y.s) z

-- x - y is x + (-y)
abbrev pub IsDifference : Pair → Pair → Result Pair AngleFault → Type 0
IsDifference x y z = (w : Pair) × IsNegation y w × IsSum x w z

-- the product, of which one side at least has no pi
pub data IsProduct (x y : Pair) (z : Result Pair AngleFault) : Type 0 where
  by_real : y.s.num ≡ pos 0 → ByParts (ProductIs x.r y.r) (ProductIs x.s y.r) z → IsProduct x y z
  of_real : x.s.num ≡ pos 0 → y.s.num ≢ pos 0 → ByParts (ProductIs x.r y.r) (ProductIs x.r y.s) z → IsProduct x y z
  of_pi : x.s.num ≢ pos 0 → y.s.num ≢ pos 0 → z ≡ Err NotDyadic → IsProduct x y z

-- the quotient by a divisor without pi that is not 0
pub data IsQuotient (x y : Pair) (z : Result Pair AngleFault) : Type 0 where
  over_pi : y.s.num ≢ pos 0 → z ≡ Err NotDyadic → IsQuotient x y z
  over_zero : y.s.num ≡ pos 0 → y.r.num ≡ pos 0 → z ≡ Err ByZero → IsQuotient x y z
  over : y.s.num ≡ pos 0 → y.r.num ≢ pos 0 → ByParts (QuotientIs x.r y.r) (QuotientIs x.s y.r) z → IsQuotient x y z

-- a whole number from -64 to 64
abbrev pub IsExponent : Pair → ℤ → Type 0
IsExponent y n = (y.s.num ≡ pos 0) × IsWhole n y.r × (nat_abs n ≤ 64)

-- the power of a base without pi
pub data IsPower (x y : Pair) (z : Result Pair AngleFault) : Type 0 where
  pi_base : x.s.num ≢ pos 0 → z ≡ Err NotDyadic → IsPower x y z
  no_exponent : ((n : ℤ) → IsExponent y n → ⊥) → z ≡ Err NotDyadic → IsPower x y z
  to_positive : (n : ℕ) → x.s.num ≡ pos 0 → IsExponent y (pos n) → OnReal (PowerIs x.r n) z → IsPower x y z
  of_zero : (n : ℕ) → x.s.num ≡ pos 0 → IsExponent y (negsuc n) → x.r.num ≡ pos 0 → z ≡ Err ByZero → IsPower x y z
  to_negative : (n : ℕ) → x.s.num ≡ pos 0 → IsExponent y (negsuc n) → x.r.num ≢ pos 0 → OnReal (InverseIs x.r (suc n)) z → IsPower x y z
