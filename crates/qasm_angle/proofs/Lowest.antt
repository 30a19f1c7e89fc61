-- Fractions in lowest terms.
use Rattle.std.proofs.Common.{◌≡◌, ℕ, suc, zero, ◌+◌, ◌-◌, ◌*◌, ◌/◌, ◌%◌, ◌^◌, ◌<◌, ◌≤◌, ◌⊎◌, inl, inr, arith, refl, sym, ◌∙◌, ap, subst}
use Rattle.std.specs.Prelude.{ℤ, pos, negsuc, nat_abs, neg_ℤ, ◌*ℤ◌}
use Rattle.std.proofs.Common.{Bool, true, false, ltb}
use lib.Signed.{lt_z}
use Rattle.std.proofs.lemmas.Bool.{cases_lt}
use Rattle.std.proofs.lemmas.Bool.Decides.{nat_tests}
use Rattle.std.proofs.lemmas.Nat.{pow-add, pow_pos, mul-le}
use Rattle.std.proofs.Math.Nat.{mul-div_cancel, mul-mod_left, zero-mul, pow-le-pow_right}
use Rattle.qasm_angle.specs.declared.types.Dyadic.{Dyadic}
use Rattle.qasm_angle.specs.Lowest.{IsLowest, IsReduced}
use Rattle.qasm_angle.specs.Fractions.{Stands, signed, below_zero}

double : (j : ℕ) → 2 ^ (j + 1) ≡ 2 ^ j * 2
double j = pow-add 2 j 1

pub halved : (n m j : ℕ) → m % 2 ≡ 0 → n ≡ m * 2 ^ j → n ≡ m / 2 * 2 ^ (j + 1)
halved n m j h e =
    let q : m ≡ 2 * (m / 2) = omega arith in
    let p : m * 2 ^ j ≡ 2 * (m / 2) * 2 ^ j = ap (λ y. y * 2 ^ j) q in
    let r : m / 2 * 2 ^ (j + 1) ≡ m / 2 * (2 ^ j * 2) = ap (λ y. m / 2 * y) (double j) in
    omega (arith, p, r, e)

pub cancel : (a b c : ℕ) → 0 < c → a * c ≡ b * c → a ≡ b
cancel a b c h e = sym (mul-div_cancel a h) ∙ ap (λ x. x / c) e ∙ mul-div_cancel b h

-- not both are in lowest terms where one has a greater power below
apart : (m s n j : ℕ) → IsLowest n (s + (j + 1)) → m * 2 ^ (s + (j + 1)) ≡ n * 2 ^ s → ⊥
apart m s n j l h =
    let odd : n % 2 ≡ 1 = l (omega arith) in
    let p : m * 2 ^ (s + (j + 1)) ≡ m * (2 ^ s * (2 ^ j * 2)) = ap (λ y. m * y) (pow-add 2 s (j + 1) ∙ ap (λ y. 2 ^ s * y) (double j)) in
    let q : m * 2 ^ j * 2 * 2 ^ s ≡ n * 2 ^ s = omega (arith, p, h) in
    let r : m * 2 ^ j * 2 ≡ n = cancel (m * 2 ^ j * 2) n (2 ^ s) (pow_pos s) q in
    let z : n % 2 ≡ 0 = ap (λ y. y % 2) (sym r) ∙ mul-mod_left (m * 2 ^ j) 2 in
    absurd (omega arith)

pub apart_at : (m s n t : ℕ) → s < t → IsLowest n t → m * 2 ^ t ≡ n * 2 ^ s → ⊥
apart_at m s n t lt l h =
    let e : t ≡ s + (t - (s + 1) + 1) = omega arith in
    apart m s n (t - (s + 1)) (subst (IsLowest n) e l) (subst (λ x. m * 2 ^ x ≡ n * 2 ^ s) e h)

-- one fraction in lowest terms
pub low_same : (m s n t : ℕ) → IsLowest m s → IsLowest n t → m * 2 ^ t ≡ n * 2 ^ s → (m ≡ n) × (s ≡ t)
low_same m s n t l k h = elim (cases_lt s t) [
  | inl lt ↦ absurd (apart_at m s n t lt k h)
  | inr ge ↦ elim (cases_lt t s) [
    | inl lt ↦ absurd (apart_at n t m s lt l (sym h))
    | inr le ↦ (let e : s ≡ t = omega arith in (cancel m n (2 ^ t) (pow_pos t) (h ∙ ap (λ x. n * 2 ^ x) e), e))
  ]
]

pub reduced_mul : (n k m s : ℕ) → IsReduced n k m s → m * 2 ^ k ≡ n * 2 ^ s
reduced_mul n k m s r =
    let p : m * 2 ^ k ≡ m * (2 ^ s * 2 ^ r.by) = ap (λ x. m * x) (ap (λ x. 2 ^ x) r.below ∙ pow-add 2 s r.by) in
    let q : n * 2 ^ s ≡ m * 2 ^ r.by * 2 ^ s = ap (λ x. x * 2 ^ s) r.top in
    omega (arith, p, q)

-- what else is the fraction, in lowest terms, is what it was reduced to
pub reduced_only : (n k m s a t : ℕ) → IsReduced n k m s → IsLowest a t → a * 2 ^ k ≡ n * 2 ^ t → (a ≡ m) × (t ≡ s)
reduced_only n k m s a t r l h =
    let p : a * 2 ^ k ≡ a * (2 ^ s * 2 ^ r.by) = ap (λ x. a * x) (ap (λ x. 2 ^ x) r.below ∙ pow-add 2 s r.by) in
    let q : n * 2 ^ t ≡ m * 2 ^ r.by * 2 ^ t = ap (λ x. x * 2 ^ t) r.top in
    let e : a * 2 ^ s * 2 ^ r.by ≡ m * 2 ^ t * 2 ^ r.by = omega (arith, p, q, h) in
    low_same a t m s l r.lowest (cancel (a * 2 ^ s) (m * 2 ^ t) (2 ^ r.by) (pow_pos r.by) e)

abs_neg : (k : ℕ) → nat_abs (neg_ℤ (pos k)) ≡ k
abs_neg zero = refl
abs_neg (suc k) = refl

pub abs_scaled : (z : ℤ) (m : ℕ) → nat_abs (z *ℤ pos m) ≡ nat_abs z * m
abs_scaled (pos n) m = refl
abs_scaled (negsuc n) m = abs_neg (suc n * m)

neg_scaled : (m c : ℕ) → neg_ℤ (pos m) *ℤ pos c ≡ neg_ℤ (pos (m * c))
neg_scaled zero c = ap pos (zero-mul c) ∙ sym (ap (λ x. neg_ℤ (pos x)) (zero-mul c))
neg_scaled (suc m) c = refl

pub abs_signed : (b : Bool) (n : ℕ) → nat_abs (signed b n) ≡ n
abs_signed true n = abs_neg n
abs_signed false n = refl

-- no dyadic number within the bounds is the fraction
pub out_of_bounds : (n : ℤ) (k m s : ℕ) → IsReduced (nat_abs n) k m s → ((2 ^ 62 ≤ m) ⊎ (62 < s)) → (d : Dyadic) → Stands d n k → ⊥
out_of_bounds n k m s r out d h =
    let e : nat_abs d.num * 2 ^ k ≡ nat_abs n * 2 ^ d.shift = sym (abs_scaled d.num (2 ^ k)) ∙ ap nat_abs h ∙ abs_scaled n (2 ^ d.shift) in
    let same = reduced_only (nat_abs n) k m s (nat_abs d.num) d.shift r d.lowest e in
    let small = d.small in let few = d.few in
    elim out [ inl a ↦ omega (arith, same.0) | inr b ↦ omega (arith, same.1) ]

-- a fraction in lowest terms stands for what it was reduced from
pub reduced_stands : (b : Bool) (top k m s : ℕ) → IsReduced top k m s → signed b m *ℤ pos (2 ^ k) ≡ signed b top *ℤ pos (2 ^ s)
reduced_stands true top k m s r = neg_scaled m (2 ^ k) ∙ ap (λ y. neg_ℤ (pos y)) (reduced_mul top k m s r) ∙ sym (neg_scaled top (2 ^ s))
reduced_stands false top k m s r = ap pos (reduced_mul top k m s r)

pub beyond : (b : Bool) (top k m s : ℕ) → IsReduced top k m s → ((2 ^ 62 ≤ m) ⊎ (62 < s)) → (d : Dyadic) → Stands d (signed b top) k → ⊥
beyond b top k m s r = out_of_bounds (signed b top) k m s (subst (λ y. IsReduced y k m s) (sym (abs_signed b top)) r)

pub signed_self : (z : ℤ) → signed (below_zero z) (nat_abs z) ≡ z
signed_self (pos n) = refl
signed_self (negsuc n) = refl

pub not_under_zero : (n : ℕ) → ltb n 0 ≡ true → ⊥
not_under_zero n h = grind (arith, nat_tests)

pub below_zero_is : (z : ℤ) → lt_z z (pos 0) ≡ below_zero z
below_zero_is (negsuc n) = refl
below_zero_is (pos n) = off (ltb n 0) (not_under_zero n)
  where
    off : (b : Bool) → (b ≡ true → ⊥) → b ≡ false
    off true h = absurd (h refl)
    off false h = refl

pub few_twos : (odd twos : ℕ) → 0 < odd → odd * 2 ^ twos < 2 ^ 62 → twos < 62
few_twos odd twos some h = elim (cases_lt twos 62) [
  | inl lt ↦ lt
  | inr ge ↦ (
      let p : 2 ^ 62 ≤ 2 ^ twos = pow-le-pow_right {n = 2} (omega arith) {i = 62} {j = twos} ge in
      let q : 1 * 2 ^ twos ≤ odd * 2 ^ twos = mul-le 1 (2 ^ twos) odd (2 ^ twos) some (omega arith) in
      absurd (omega (arith, p, q)))
]
