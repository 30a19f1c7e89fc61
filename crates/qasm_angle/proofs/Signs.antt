-- Integers by sign and magnitude.
use Rattle.std.proofs.Common.{◌≡◌, ℕ, suc, zero, ◌*◌, ◌<◌, ◌⊎◌, inl, inr, Bool, true, false, not, arith, refl, sym, ◌∙◌, ap}
use mathlib.Core.Bool.{beq}
use lib.Signed.{lt_z}
use Rattle.std.specs.Prelude.{ℤ, pos, nat_abs, neg_ℤ, ◌*ℤ◌}
use Rattle.std.proofs.Math.Nat.{zero-mul, mul-zero}
use Rattle.std.proofs.lemmas.Nat.{mul-lt}
use Rattle.qasm_angle.specs.Fractions.{signed, below_zero}
use Rattle.qasm_angle.proofs.Lowest.{abs_signed, signed_self, below_zero_is}

-- whether two signs differ
abbrev pub unlike : Bool → Bool → Bool
unlike true b = not b
unlike false b = b

zero_signed : (b : Bool) → signed b 0 ≡ pos 0
zero_signed true = refl
zero_signed false = refl

neg_neg : (n : ℕ) → neg_ℤ (neg_ℤ (pos n)) ≡ pos n
neg_neg zero = refl
neg_neg (suc n) = refl

pub signed_mul : (a b : Bool) (m n : ℕ) → signed a m *ℤ signed b n ≡ signed (unlike a b) (m * n)
signed_mul false false m n = refl
signed_mul false true m zero = ap pos (mul-zero m) ∙ sym (ap (λ x. neg_ℤ (pos x)) (mul-zero m))
signed_mul false true m (suc n) = refl
signed_mul true false zero n = ap pos (zero-mul n) ∙ sym (ap (λ x. neg_ℤ (pos x)) (zero-mul n))
signed_mul true false (suc m) n = refl
signed_mul true true zero zero = refl
signed_mul true true zero (suc n) = ap (λ x. neg_ℤ (pos x)) (zero-mul (suc n)) ∙ sym (ap pos (zero-mul (suc n)))
signed_mul true true (suc m) zero = ap (λ x. neg_ℤ (pos x)) (mul-zero (suc m)) ∙ sym (ap pos (mul-zero (suc m)))
signed_mul true true (suc m) (suc n) = refl

-- equal integers have one magnitude, and one sign where they are not 0
pub same_signed : (u v : Bool) (m l : ℕ) → signed u m ≡ signed v l → (m ≡ l) × ((m ≡ 0) ⊎ (u ≡ v))
same_signed u v m l e = let d : m ≡ l = sym (abs_signed u m) ∙ ap nat_abs e ∙ abs_signed v l in (d, signs u v m l e d)
  where
    signs : (u v : Bool) (m l : ℕ) → signed u m ≡ signed v l → m ≡ l → (m ≡ 0) ⊎ (u ≡ v)
    signs true true m l e d = inr refl
    signs false false m l e d = inr refl
    signs true false zero l e d = inl refl
    signs true false (suc m) l e d = cc
    signs false true zero l e d = inl refl
    signs false true (suc m) zero e d = cc
    signs false true (suc m) (suc l) e d = cc

pub signed_same : (u v : Bool) (m l : ℕ) → m ≡ l → (m ≡ 0) ⊎ (u ≡ v) → signed u m ≡ signed v l
signed_same u v m l e (inr f) = ap (λ b. signed b m) f ∙ ap (signed v) e
signed_same u v m l e (inl f) = ap (signed u) f ∙ zero_signed u ∙ sym (zero_signed v) ∙ ap (signed v) (sym f ∙ e)

pub unlike_back : (a b c : Bool) → unlike a b ≡ c → a ≡ unlike c b
unlike_back true true c e = ap (λ x. unlike x true) e
unlike_back true false c e = ap (λ x. unlike x false) e
unlike_back false true c e = ap (λ x. unlike x true) e
unlike_back false false c e = ap (λ x. unlike x false) e

pub unlike_forth : (a b c : Bool) → a ≡ unlike c b → unlike a b ≡ c
unlike_forth a true true e = ap (λ x. unlike x true) e
unlike_forth a true false e = ap (λ x. unlike x true) e
unlike_forth a false true e = ap (λ x. unlike x false) e
unlike_forth a false false e = ap (λ x. unlike x false) e

unlike_false : (b : Bool) → unlike b false ≡ b
unlike_false true = refl
unlike_false false = refl

pub times_pos : (b : Bool) (m c : ℕ) → signed b m *ℤ pos c ≡ signed b (m * c)
times_pos b m c = signed_mul b false m c ∙ ap (λ x. signed x (m * c)) (unlike_false b)

pub scaled_side : (a : ℤ) (c : ℕ) → a *ℤ pos c ≡ signed (below_zero a) (nat_abs a * c)
scaled_side a c = ap (λ z. z *ℤ pos c) (sym (signed_self a)) ∙ times_pos (below_zero a) (nat_abs a) c

pub positive : (x y : ℕ) → 0 < x → 0 < y → 0 < x * y
positive x y f g = mul-lt 0 0 x y f g

unlike_is : (x y : Bool) → not (beq x y) ≡ unlike x y
unlike_is true true = refl
unlike_is true false = refl
unlike_is false true = refl
unlike_is false false = refl

-- what the code computes from two signs
pub signs_of : (x y u v : Bool) (m l : ℕ) → x ≡ u → y ≡ v → m ≡ l → signed (not (beq x y)) m ≡ signed (unlike u v) l
signs_of x y u v m l e f g = ap (λ b. signed b m) (unlike_is x y) ∙ ap (λ b. signed (unlike b y) m) e ∙ ap (λ b. signed (unlike u b) m) f ∙ ap (signed (unlike u v)) g

pub signed_total : (t z : ℤ) (u : ℕ) → u ≡ nat_abs t → t ≡ z → signed (lt_z t (pos 0)) u ≡ z
signed_total t z u e f = ap (signed (lt_z t (pos 0))) e ∙ ap (λ b. signed b (nat_abs t)) (below_zero_is t) ∙ signed_self t ∙ f

pub product_signs : (a b : ℤ) → signed (unlike (below_zero a) (below_zero b)) (nat_abs a * nat_abs b) ≡ a *ℤ b
product_signs a b = sym (signed_mul (below_zero a) (below_zero b) (nat_abs a) (nat_abs b)) ∙ ap (λ z. z *ℤ signed (below_zero b) (nat_abs b)) (signed_self a) ∙ ap (λ z. a *ℤ z) (signed_self b)

pub below_signed : (b : Bool) (m : ℕ) → 0 < m → below_zero (signed b m) ≡ b
below_signed true zero h = absurd (omega arith)
below_signed true (suc m) h = refl
below_signed false m h = refl
