-- Numbers without pi.
use Rattle.std.proofs.Common.{◌≡◌, ℕ, ◌<◌, ◌≤◌, suc, true, false, arith, refl, sym, ap, subst, Result, Ok, Err}
use Rattle.std.proofs.Common.{◌^◌}
use mir.Val.{of_z}
use mir.Syntax.{w64}
use Rattle.std.specs.Prelude.{ℤ, pos, negsuc, nat_abs}
use Rattle.qasm_angle.specs.declared.types.Dyadic.{Dyadic}
use Rattle.qasm_angle.specs.declared.types.Pair.{Pair}
use Rattle.qasm_angle.specs.declared.types.AngleFault.{AngleFault}
use Rattle.qasm_angle.specs.declared.types.AngleFault.TheVariants.{ByZero}
use Rattle.qasm_angle.specs.Fractions.{below_zero, PowerIs, InverseIs}
use Rattle.qasm_angle.specs.Pairs.{paired, OnReal, IsWhole, IsPower, to_positive, of_zero, to_negative}

pub on_real : (R : Result Dyadic AngleFault → Type 0) (r : Result Dyadic AngleFault) (z : Result Pair AngleFault) → R r → ((d : Dyadic) × IsWhole (pos 0) d × (z ≡ paired r (Ok d))) → OnReal R z
on_real R r z h (d, w, e) = (r, Ok d, h, (d, w, refl), e)

at_sign : (z : ℤ) (n : ℕ) → n ≡ nat_abs z → below_zero z ≡ false → z ≡ pos n
at_sign (pos k) n e b = ap pos (sym e)
at_sign (negsuc k) n e b = cc

below_sign : (z : ℤ) (n : ℕ) → n ≡ nat_abs z → below_zero z ≡ true → (k : ℕ) × (n ≡ suc k) × (z ≡ negsuc k)
below_sign (pos k) n e b = cc
below_sign (negsuc k) n e b = (k, e, refl)

module _ (x y : Pair) (real : x.s.num ≡ pos 0) (pi : y.s.num ≡ pos 0) (whole : y.r.shift ≡ 0) (n : ℕ) (size : n ≡ nat_abs y.r.num) (few : n ≤ 64) where
  pub power_positive : (z : Result Pair AngleFault) → below_zero y.r.num ≡ false → OnReal (PowerIs x.r n) z → IsPower x y z
  power_positive z b h = to_positive n real (pi, (at_sign y.r.num n size b, whole), few) h

  pub power_zero : below_zero y.r.num ≡ true → x.r.num ≡ pos 0 → IsPower x y (Err ByZero)
  power_zero b none = let s = below_sign y.r.num n size b in of_zero s.0 real (pi, (s.2, whole), let e = s.1 in omega arith) none refl

  pub power_negative : (z : Result Pair AngleFault) → below_zero y.r.num ≡ true → (x.r.num ≡ pos 0 → ⊥) → OnReal (InverseIs x.r n) z → IsPower x y z
  power_negative z b some h = let s = below_sign y.r.num n size b in to_negative s.0 real (pi, (s.2, whole), let e = s.1 in omega arith) some (subst (λ i. OnReal (InverseIs x.r i) z) s.1 h)

zero_bits : (z : ℤ) → nat_abs z < 2 ^ 62 → of_z w64 z ≡ 0 → z ≡ pos 0
zero_bits (pos n) h e = ap pos e
zero_bits (negsuc n) h e = absurd (omega arith)

pub num_zero : (d : Dyadic) → of_z w64 d.num ≡ 0 → d.num ≡ pos 0
num_zero d e = zero_bits d.num d.small e

pub num_some : (d : Dyadic) → (of_z w64 d.num ≡ 0 → ⊥) → d.num ≡ pos 0 → ⊥
num_some d h e = h (ap (of_z w64) e)
