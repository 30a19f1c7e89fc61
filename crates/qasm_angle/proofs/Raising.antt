-- Powers of dyadic numbers.
use Rattle.std.proofs.Common.{◌≡◌, ℕ, suc, zero, ◌+◌, ◌*◌, ◌/◌, ◌%◌, ◌^◌, ◌<◌, ◌≤◌, ◌⊎◌, inl, inr, Bool, true, false, not, ◌&&◌, nat_eq, arith, refl, sym, ◌∙◌, ap, subst, Result, Ok, Err}
use Rattle.std.proofs.Math.IntN.{zero-*ℤ}
use Rattle.std.proofs.Common.{lit<}
use Rattle.std.specs.Prelude.{ℤ, pos, negsuc, nat_abs, ◌*ℤ◌}
use Rattle.std.proofs.lemmas.Bool.{cases_lt}
use Rattle.std.proofs.lemmas.Bool.Decides.{nat_tests}
use Rattle.std.proofs.lemmas.Nat.{pow-add, pow_pos, mul-pow, mul-le}
use Rattle.std.proofs.Math.Nat.{pow-zero, pow-suc, pow-le-pow_right, mod-eq_of_lt, mul-zero, zero-mul}
use Rattle.qasm_angle.specs.declared.types.Dyadic.{Dyadic}
use Rattle.qasm_angle.specs.declared.types.AngleFault.{AngleFault}
use Rattle.qasm_angle.specs.declared.types.AngleFault.TheVariants.{NotDyadic, AngleRange, NoParameter, Function, ByZero, Memory}
use Rattle.qasm_angle.specs.Fractions.{Stands, Exactly, to_power, signed, below_zero, InverseIs}
use Rattle.qasm_angle.proofs.Lowest.{cancel, abs_scaled, abs_signed, signed_self, out_of_bounds, beyond}
use Rattle.qasm_angle.proofs.Signs.{unlike, signed_mul, below_signed, positive}
use Rattle.qasm_angle.proofs.Ratios.{no_ratio, ratio_is}

-- whether an odd number of signs is negative
abbrev pub odd_times : Bool → ℕ → Bool
odd_times b n = b && nat_eq (n % 2) 1

next_odd : (n : ℕ) → not (nat_eq (n % 2) 1) ≡ nat_eq (suc n % 2) 1
next_odd n = grind (arith, nat_tests)

next_times : (b : Bool) (n : ℕ) → unlike b (odd_times b n) ≡ odd_times b (suc n)
next_times true n = next_odd n
next_times false n = refl

pub power_signs : (b : Bool) (m n : ℕ) → to_power (signed b m) n ≡ signed (odd_times b n) (m ^ n)
power_signs true m zero = ap pos (sym (pow-zero m))
power_signs false m zero = ap pos (sym (pow-zero m))
power_signs b m (suc n) =
    ap (λ z. signed b m *ℤ z) (power_signs b m n) ∙ signed_mul b (odd_times b n) m (m ^ n) ∙ ap (λ x. signed x (m * m ^ n)) (next_times b n)
    ∙ ap (signed (odd_times b (suc n))) (let e : m ^ suc n ≡ m ^ n * m = pow-suc m n in omega (arith, e))

pub power_of : (a : ℤ) (n : ℕ) → to_power a n ≡ signed (odd_times (below_zero a) n) (nat_abs a ^ n)
power_of a n = ap (λ z. to_power z n) (sym (signed_self a)) ∙ power_signs (below_zero a) (nat_abs a) n

pub power_size : (a : ℤ) (n : ℕ) → nat_abs (to_power a n) ≡ nat_abs a ^ n
power_size a n = ap nat_abs (power_of a n) ∙ abs_signed (odd_times (below_zero a) n) (nat_abs a ^ n)

power_power : (t n : ℕ) → (2 ^ t) ^ n ≡ 2 ^ (t * n)
power_power t zero = pow-zero (2 ^ t) ∙ ap (λ x. 2 ^ x) (sym (mul-zero t))
power_power t (suc n) =
    let e : t * n + t ≡ t * suc n = omega arith in
    pow-suc (2 ^ t) n ∙ ap (λ x. x * 2 ^ t) (power_power t n) ∙ sym (pow-add 2 (t * n) t) ∙ ap (λ x. 2 ^ x) e

-- the power of an odd part and twos
pub split_power : (m o t n : ℕ) → m ≡ o * 2 ^ t → m ^ n ≡ o ^ n * 2 ^ (t * n)
split_power m o t n e = ap (λ x. x ^ n) e ∙ mul-pow o (2 ^ t) n ∙ ap (λ x. o ^ n * x) (power_power t n)

odd_product : (x y : ℕ) → x % 2 ≡ 1 → y % 2 ≡ 1 → (x * y) % 2 ≡ 1
odd_product x y e f =
    let p : x ≡ 2 * (x / 2) + 1 = omega arith in
    let q : x * y ≡ (2 * (x / 2) + 1) * y = ap (λ z. z * y) p in
    omega (arith, q)

pub odd_power : (x n : ℕ) → x % 2 ≡ 1 → (x ^ n) % 2 ≡ 1
odd_power x zero e = ap (λ z. z % 2) (pow-zero x)
odd_power x (suc n) e = ap (λ z. z % 2) (pow-suc x n) ∙ odd_product (x ^ n) x (odd_power x n e) e

pub power_some : (x n : ℕ) → 0 < x → 0 < x ^ n
power_some x zero h = let e = pow-zero x in omega arith
power_some x (suc n) h = subst (λ z. 0 < z) (sym (pow-suc x n)) (positive (x ^ n) x (power_some x n h) h)

-- a power whose odd part or whose twos are too large
pub too_large : (a : Dyadic) (n o t : ℕ) → nat_abs a.num ≡ o * 2 ^ t → 0 < o → ((2 ^ 62 ≤ o ^ n) ⊎ (62 ≤ t * n)) → (d : Dyadic) → Stands d (to_power a.num n) (a.shift * n) → ⊥
too_large a n o t e some large =
    let size : nat_abs (to_power a.num n) ≡ nat_abs a.num ^ n = power_size a.num n in
    out_of_bounds (to_power a.num n) (a.shift * n) (nat_abs a.num ^ n) (a.shift * n)
    (record { by = 0; top = size ∙ omega arith; below = omega arith; lowest = λ h. odd_power (nat_abs a.num) n (a.lowest (some_factor a.shift n h)) }) (inl bound)
  where
    some_factor : (x y : ℕ) → 0 < x * y → 0 < x
    some_factor zero y h = let z : 0 * y ≡ 0 = zero-mul y in absurd (omega arith)
    some_factor (suc x) y h = omega arith

    bound : 2 ^ 62 ≤ nat_abs a.num ^ n
    bound = let s : nat_abs a.num ^ n ≡ o ^ n * 2 ^ (t * n) = split_power (nat_abs a.num) o t n e in elim large [
      | inl h ↦ (let g : 2 ^ 62 * 1 ≤ o ^ n * 2 ^ (t * n) = mul-le (2 ^ 62) 1 (o ^ n) (2 ^ (t * n)) h (pow_pos (t * n)) in omega arith)
      | inr h ↦ (let g : 1 * 2 ^ 62 ≤ o ^ n * 2 ^ (t * n) = mul-le 1 (2 ^ 62) (o ^ n) (2 ^ (t * n)) (power_some o n some) (pow-le-pow_right {n = 2} (omega arith) {i = 62} {j = t * n} h) in omega arith)
    ]

-- what a power without bounds is
pub power_is : (a : ℤ) (n o t p k : ℕ) (b : Bool) (r : Result Dyadic AngleFault) → b ≡ odd_times (below_zero a) n → nat_abs a ≡ o * 2 ^ t → p ≡ o ^ n → Exactly (signed b (p * 2 ^ (t * n))) k r → Exactly (to_power a n) k r
power_is a n o t p k b r f e g h =
    let s : p * 2 ^ (t * n) ≡ nat_abs a ^ n = ap (λ x. x * 2 ^ (t * n)) g ∙ sym (split_power (nat_abs a) o t n e) in
    subst (λ z. Exactly z k r) (ap (λ x. signed x (p * 2 ^ (t * n))) f ∙ ap (signed (odd_times (below_zero a) n)) s ∙ sym (power_of a n)) h

zero_from_size : (z : ℤ) → nat_abs z ≡ 0 → z ≡ pos 0
zero_from_size (pos n) e = ap pos e
zero_from_size (negsuc n) e = absurd (omega arith)

zero_shift : (a : Dyadic) → nat_abs a.num ≡ 0 → a.shift ≡ 0
zero_shift a e = elim (cases_lt 0 a.shift) [ inl h ↦ (let o : nat_abs a.num % 2 ≡ 1 = a.lowest h in absurd (omega arith)) | inr h ↦ omega arith ]

-- the power of 0
pub raised_zero : (a : Dyadic) (n top : ℕ) (r : Result Dyadic AngleFault) → top ≡ nat_abs a.num → top ≡ 0 → Exactly (to_power (pos 0) n) 0 r → Exactly (to_power a.num n) (a.shift * n) r
raised_zero a n top r e f h =
    let size : nat_abs a.num ≡ 0 = sym e ∙ f in
    let k : a.shift * n ≡ 0 = ap (λ x. x * n) (zero_shift a size) ∙ zero-mul n in
    subst (λ i. Exactly (to_power a.num n) i r) (sym k) (subst (λ z. Exactly (to_power z n) 0 r) (sym (zero_from_size a.num size)) h)

zero_power : (n : ℕ) → 0 < n → to_power (pos 0) n ≡ pos 0
zero_power zero h = absurd (omega arith)
zero_power (suc n) h = zero-*ℤ (to_power (pos 0) n)

zero_stands : (d : Dyadic) (k l : ℕ) → Stands d (pos 0) k → Stands d (pos 0) l
zero_stands d k l h =
    let size : nat_abs d.num * 2 ^ k ≡ 0 * 2 ^ d.shift = sym (abs_scaled d.num (2 ^ k)) ∙ ap nat_abs h in
    let e : d.num ≡ pos 0 = zero_from_size d.num (cancel (nat_abs d.num) 0 (2 ^ k) (pow_pos k) (size ∙ zero-mul (2 ^ d.shift) ∙ sym (zero-mul (2 ^ k)))) in
    ap (λ z. z *ℤ pos (2 ^ l)) e ∙ zero-*ℤ (pos (2 ^ l)) ∙ sym (zero-*ℤ (pos (2 ^ d.shift)))

-- zero over any power of two
pub zero_over : (k : ℕ) (r : Result Dyadic AngleFault) → Exactly (pos 0) 0 r → Exactly (pos 0) k r
zero_over k (Ok d) h = zero_stands d 0 k h
zero_over k (Err AngleRange) h = λ d s. h d (zero_stands d k 0 s)
zero_over k (Err NotDyadic) h = absurd h
zero_over k (Err NoParameter) h = absurd h
zero_over k (Err Function) h = absurd h
zero_over k (Err ByZero) h = absurd h
zero_over k (Err Memory) h = absurd h

pub power_of_zero : (n : ℕ) → (n ≡ 0 → ⊥) → to_power (pos 0) n ≡ pos 0
power_of_zero n h = zero_power n (omega arith)

-- 1 divided by a power whose odd part isn't 1
pub no_inverse : (a : Dyadic) (n o t : ℕ) → nat_abs a.num ≡ o * 2 ^ t → o % 2 ≡ 1 → (o ≡ 1 → ⊥) → 0 < n → InverseIs a n (Err NotDyadic)
no_inverse a n o t e odd more some =
    no_ratio (pos 1) (to_power a.num n) 0 (a.shift * n) (o ^ n) (t * n) (odd_power o n odd) (power_size a.num n ∙ split_power (nat_abs a.num) o t n e)
    (λ h. let f : 1 % (o ^ n) ≡ 1 = mod-eq_of_lt {n = 1} {m = o ^ n} (above o n (omega arith) some) in let g : 1 % (o ^ n) ≡ 0 = h in absurd (omega arith))
  where
    above : (o n : ℕ) → 1 < o → 0 < n → 1 < o ^ n
    above o zero h g = absurd (omega arith)
    above o (suc n) h g =
        let e : o ^ suc n ≡ o ^ n * o = pow-suc o n in
        let s : 0 < o ^ n = power_some o n (omega arith) in
        let m : 1 * 2 ≤ o ^ n * o = mul-le 1 2 (o ^ n) o s h in omega arith

one_power : (n : ℕ) → 1 ^ n ≡ 1
one_power zero = refl
one_power (suc n) = pow-suc 1 n ∙ ap (λ x. x * 1) (one_power n)

module _ (a : Dyadic) (n t : ℕ) (e : nat_abs a.num ≡ 1 * 2 ^ t) where
  size : nat_abs (to_power a.num n) ≡ 1 * 2 ^ (t * n)
  size = power_size a.num n ∙ split_power (nat_abs a.num) 1 t n e ∙ ap (λ x. x * 2 ^ (t * n)) (one_power n)

  sign : below_zero (to_power a.num n) ≡ odd_times (below_zero a.num) n
  sign = ap below_zero (power_of a.num n) ∙ below_signed (odd_times (below_zero a.num) n) (nat_abs a.num ^ n) (power_some (nat_abs a.num) n (let g = pow_pos t in omega (arith, e)))

  pub inverse_is : (b : Bool) (r : Result Dyadic AngleFault) → b ≡ odd_times (below_zero a.num) n → Exactly (signed b (2 ^ (a.shift * n))) (t * n) r → InverseIs a n r
  inverse_is b r f h =
      let q : 2 ^ (a.shift * n) ≡ 1 * 2 ^ (a.shift * n) = omega arith in
      let k : t * n ≡ 0 + t * n = omega arith in
      ratio_is (pos 1) (to_power a.num n) 0 (a.shift * n) 1 (t * n) 1 (lit< tt) refl size r
      (subst (λ i. Exactly (signed (unlike false (below_zero (to_power a.num n))) (1 * 2 ^ (a.shift * n))) i r) k
      (subst (λ z. Exactly z (t * n) r) (ap (λ x. signed x (2 ^ (a.shift * n))) (f ∙ sym sign) ∙ ap (signed (below_zero (to_power a.num n))) q) h))

  no_twos : (x : ℕ) → (1 * 2 ^ x) % 2 ≡ 1 → x ≡ 0
  no_twos zero h = refl
  no_twos (suc x) h = let p : 2 ^ suc x ≡ 2 ^ x * 2 = pow-suc 2 x in absurd (omega arith)

  pub inverse_large : (b : Bool) → 62 ≤ a.shift * n → InverseIs a n (Err AngleRange)
  inverse_large b h = inverse_is (odd_times (below_zero a.num) n) (Err AngleRange) refl
      (let odd = a.lowest (some_factor a.shift n (omega arith)) in
      let none : t ≡ 0 = no_twos t (ap (λ x. x % 2) (sym e) ∙ odd) in
      let gone : t * n ≡ 0 = ap (λ x. x * n) none ∙ zero-mul n in
      let p : 2 ^ 62 ≤ 2 ^ (a.shift * n) = pow-le-pow_right {n = 2} (omega arith) {i = 62} {j = a.shift * n} h in
      beyond (odd_times (below_zero a.num) n) (2 ^ (a.shift * n)) (t * n) (2 ^ (a.shift * n)) 0 (record { by = 0; top = omega arith; below = omega arith; lowest = λ z. absurd (omega arith) }) (inl p))
    where
      some_factor : (x y : ℕ) → 0 < x * y → 0 < x
      some_factor zero y h = let z : 0 * y ≡ 0 = zero-mul y in absurd (omega arith)
      some_factor (suc x) y h = omega arith
