-- Decimal numbers.
use Rattle.std.proofs.Common.{◌≡◌, ℕ, suc, zero, ◌+◌, ◌*◌, ◌/◌, ◌%◌, ◌^◌, ◌<◌, ◌≤◌, true, false, arith, sym, ◌∙◌, ap, subst, Result, Err}
use Rattle.std.specs.Prelude.{ℤ, pos, negsuc, nat_abs}
use lib.Signed.{lt_z}
use Rattle.std.proofs.lemmas.Nat.{mul-le, div-add-mod'}
use Rattle.std.proofs.Math.Nat.{pow-le-pow_right, mul-mod_left, zero-mul}
use Rattle.qasm_angle.specs.declared.types.Dyadic.{Dyadic}
use Rattle.qasm_angle.specs.declared.types.AngleFault.{AngleFault}
use Rattle.qasm_angle.specs.declared.types.AngleFault.TheVariants.{NotDyadic, AngleRange}
use Rattle.qasm_angle.specs.Fractions.{Exactly, DecimalIs, divided, broken, NumberIs, large, whole, decimal}
use Rattle.qasm_angle.proofs.Lowest.{not_under_zero}
use Rattle.qasm_angle.proofs.Raising.{zero_over}

pub decimal_zero : (d k : ℕ) (r : Result Dyadic AngleFault) → d ≡ 0 → Exactly (pos 0) 0 r → DecimalIs d k r
decimal_zero d k r e h = divided 0 (e ∙ sym (zero-mul (5 ^ k))) (zero_over k r h)

-- 5^26 is above 10^18
pub decimal_deep : (d k : ℕ) → d < 1000000000000000000 → (d ≡ 0 → ⊥) → 25 < k → DecimalIs d k (Err NotDyadic)
decimal_deep d k small some deep = broken (λ q e. no_factor q e)
  where
    no_factor : (q : ℕ) → d ≡ q * 5 ^ k → ⊥
    no_factor zero e = some (e ∙ zero-mul (5 ^ k))
    no_factor (suc q) e =
        let p : 5 ^ 26 ≤ 5 ^ k = pow-le-pow_right {n = 5} (omega arith) {i = 26} {j = k} (omega arith) in
        let m : 1 * 5 ^ k ≤ suc q * 5 ^ k = mul-le 1 (5 ^ k) (suc q) (5 ^ k) (omega arith) (omega arith) in
        let n : 1490116119384765625 ≤ 5 ^ k = p in
        absurd (omega arith)

pub decimal_broken : (d k f : ℕ) → f ≡ 5 ^ k → (d % f ≡ 0 → ⊥) → DecimalIs d k (Err NotDyadic)
decimal_broken d k f e h = broken (λ q g. h (ap (λ x. d % x) e ∙ ap (λ x. x % 5 ^ k) g ∙ mul-mod_left q (5 ^ k)))

pub decimal_divided : (d k f : ℕ) (r : Result Dyadic AngleFault) → f ≡ 5 ^ k → d % f ≡ 0 → Exactly (pos (d / f)) k r → DecimalIs d k r
decimal_divided d k f r e g h =
    let s : d / f * f + d % f ≡ d = div-add-mod' d f in
    let t : d ≡ d / f * f = omega arith in
    divided (d / f) (t ∙ ap (λ x. d / f * x) e) h

pub fives_small : (k : ℕ) → k ≤ 25 → 5 ^ k < 18446744073709551616
fives_small k h = let p : 5 ^ k ≤ 298023223876953125 = pow-le-pow_right {n = 5} (omega arith) {i = k} {j = 25} h in omega arith

module _ (d : ℕ) (t : ℤ) (size : ℕ) (r : Result Dyadic AngleFault) (small : d < 1000000000000000000) (f : size ≡ nat_abs t) where
  pub number_below : (z : ℤ) → t ≡ z → lt_z t (pos 0) ≡ true → DecimalIs d size r → NumberIs d z r
  number_below (negsuc k) e h g = decimal small (subst (λ x. DecimalIs d x r) (f ∙ ap nat_abs e) g)
  number_below (pos k) e h g = absurd (not_under_zero k (ap (λ z. lt_z z (pos 0)) (sym e) ∙ h))

  pub number_large : (z : ℤ) → t ≡ z → lt_z t (pos 0) ≡ false → 18 < size → NumberIs d z (Err AngleRange)
  number_large (pos k) e h g = large (subst (λ x. 18 < x) (f ∙ ap nat_abs e) g)
  number_large (negsuc k) e h g = let x : true ≡ false = ap (λ z. lt_z z (pos 0)) (sym e) ∙ h in cc

  pub number_whole : (z : ℤ) → t ≡ z → lt_z t (pos 0) ≡ false → size ≤ 18 → Exactly (pos (d * 10 ^ size)) 0 r → NumberIs d z r
  number_whole (pos k) e h g x = let q : size ≡ k = f ∙ ap nat_abs e in whole small (omega arith) (subst (λ y. Exactly (pos (d * 10 ^ y)) 0 r) q x)
  number_whole (negsuc k) e h g x = let y : true ≡ false = ap (λ z. lt_z z (pos 0)) (sym e) ∙ h in cc
