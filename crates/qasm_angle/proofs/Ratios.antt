-- Quotients of dyadic numbers.
use Rattle.std.proofs.Common.{◌≡◌, ℕ, ◌+◌, ◌*◌, ◌%◌, ◌^◌, ◌<◌, ◌⊎◌, inl, inr, Bool, arith, refl, sym, ◌∙◌, ap, subst, Result, Ok, Err}
use Rattle.std.specs.Prelude.{ℤ, pos, nat_abs, ◌*ℤ◌}
use Rattle.std.proofs.lemmas.Nat.{pow-add, pow_pos}
use Rattle.std.proofs.Math.Nat.{mul-mod_left, zero-mul}
use Rattle.qasm_angle.specs.declared.types.Dyadic.{Dyadic}
use Rattle.qasm_angle.specs.declared.types.AngleFault.{AngleFault}
use Rattle.qasm_angle.specs.declared.types.AngleFault.TheVariants.{NotDyadic, AngleRange, NoParameter, Function, ByZero, Memory}
use Rattle.qasm_angle.specs.Fractions.{Exactly, IsRatio, RatioIs, signed, below_zero}
use Rattle.qasm_angle.proofs.Lowest.{cancel, signed_self}
use Rattle.qasm_angle.proofs.Signs.{unlike, signed_mul, same_signed, signed_same, unlike_back, unlike_forth, times_pos, scaled_side, positive}
use Rattle.qasm_angle.proofs.Odd.{quotient_divides}

-- a ratio by signs and magnitudes
left_side : (n b : ℤ) (p : ℕ) → n *ℤ b *ℤ pos (2 ^ p) ≡ signed (unlike (below_zero n) (below_zero b)) (nat_abs n * nat_abs b * 2 ^ p)
left_side n b p =
    let u = below_zero n in let v = below_zero b in
    ap (λ z. z *ℤ b *ℤ pos (2 ^ p)) (sym (signed_self n)) ∙ ap (λ z. signed u (nat_abs n) *ℤ z *ℤ pos (2 ^ p)) (sym (signed_self b))
    ∙ ap (λ z. z *ℤ pos (2 ^ p)) (signed_mul u v (nat_abs n) (nat_abs b)) ∙ times_pos (unlike u v) (nat_abs n * nat_abs b) (2 ^ p)

-- what an odd part of the divisor does not divide has no quotient
pub no_ratio : (a b : ℤ) (p q o t : ℕ) → o % 2 ≡ 1 → nat_abs b ≡ o * 2 ^ t → (nat_abs a % o ≡ 0 → ⊥) → (n : ℤ) (k : ℕ) → IsRatio a p b q n k → ⊥
no_ratio a b p q o t odd e off n k h =
    let m : nat_abs n * nat_abs b * 2 ^ p ≡ nat_abs a * 2 ^ (k + q) = (same_signed _ _ _ _ (sym (left_side n b p) ∙ h ∙ scaled_side a (2 ^ (k + q)))).0 in
    let d = quotient_divides (nat_abs n) k (nat_abs a) p (nat_abs b) q o t odd e m in
    let y = d.0 in
    let f : nat_abs a ≡ y * o = omega (arith, d.1) in
    off (ap (λ x. x % o) f ∙ mul-mod_left y o)

module _ (a b : ℤ) (p q o t y : ℕ) (some : 0 < o) (top : nat_abs a ≡ o * y) (below : nat_abs b ≡ o * 2 ^ t) where
  abbrev s : Bool
  s = unlike (below_zero a) (below_zero b)

  sizes : (n k : ℕ) → n * (o * 2 ^ t) * 2 ^ p ≡ o * y * 2 ^ (k + q) → n * 2 ^ (p + t) ≡ y * 2 ^ q * 2 ^ k
  sizes n k h =
      let f : n * 2 ^ (p + t) ≡ n * (2 ^ p * 2 ^ t) = ap (λ x. n * x) (pow-add 2 p t) in
      let g : o * y * 2 ^ (k + q) ≡ o * y * (2 ^ k * 2 ^ q) = ap (λ x. o * y * x) (pow-add 2 k q) in
      cancel (n * 2 ^ (p + t)) (y * 2 ^ q * 2 ^ k) o some (omega (arith, f, g, h, ap (λ x. x * o) f))

  sizes_back : (n k : ℕ) → n * 2 ^ (p + t) ≡ y * 2 ^ q * 2 ^ k → n * (o * 2 ^ t) * 2 ^ p ≡ o * y * 2 ^ (k + q)
  sizes_back n k h =
      let f : n * 2 ^ (p + t) ≡ n * (2 ^ p * 2 ^ t) = ap (λ x. n * x) (pow-add 2 p t) in
      let g : o * y * 2 ^ (k + q) ≡ o * y * (2 ^ k * 2 ^ q) = ap (λ x. o * y * x) (pow-add 2 k q) in
      omega (arith, f, g, ap (λ x. o * x) f, ap (λ x. o * x) h)

  no_size : (n : ℕ) → n * nat_abs b * 2 ^ p ≡ 0 → n ≡ 0
  no_size n h =
      let g : 0 < nat_abs b = subst (λ x. 0 < x) (sym below) (positive o (2 ^ t) some (pow_pos t)) in
      cancel n 0 (nat_abs b * 2 ^ p) (positive (nat_abs b) (2 ^ p) g (pow_pos p)) (omega (arith, h))

  to_stands : (n : ℤ) (k : ℕ) → IsRatio a p b q n k → n *ℤ pos (2 ^ (p + t)) ≡ signed s (y * 2 ^ q) *ℤ pos (2 ^ k)
  to_stands n k h =
      let u = below_zero n in let m = nat_abs n in
      let z = same_signed (unlike u (below_zero b)) (below_zero a) (m * nat_abs b * 2 ^ p) (nat_abs a * 2 ^ (k + q)) (sym (left_side n b p) ∙ h ∙ scaled_side a (2 ^ (k + q))) in
      let size : m * 2 ^ (p + t) ≡ y * 2 ^ q * 2 ^ k = sizes m k (ap (λ x. m * x * 2 ^ p) (sym below) ∙ z.0 ∙ ap (λ x. x * 2 ^ (k + q)) top) in
      let sign : (m * 2 ^ (p + t) ≡ 0) ⊎ (u ≡ s) = elim z.1 [ inl e ↦ inl (ap (λ x. x * 2 ^ (p + t)) (no_size m e) ∙ zero-mul (2 ^ (p + t))) | inr e ↦ inr (unlike_back u (below_zero b) (below_zero a) e) ] in
      scaled_side n (2 ^ (p + t)) ∙ signed_same u s (m * 2 ^ (p + t)) (y * 2 ^ q * 2 ^ k) size sign ∙ sym (times_pos s (y * 2 ^ q) (2 ^ k))

  to_ratio : (n : ℤ) (k : ℕ) → n *ℤ pos (2 ^ (p + t)) ≡ signed s (y * 2 ^ q) *ℤ pos (2 ^ k) → IsRatio a p b q n k
  to_ratio n k h =
      let u = below_zero n in let m = nat_abs n in
      let z = same_signed u s (m * 2 ^ (p + t)) (y * 2 ^ q * 2 ^ k) (sym (scaled_side n (2 ^ (p + t))) ∙ h ∙ times_pos s (y * 2 ^ q) (2 ^ k)) in
      let size : m * nat_abs b * 2 ^ p ≡ nat_abs a * 2 ^ (k + q) = ap (λ x. m * x * 2 ^ p) below ∙ sizes_back m k z.0 ∙ ap (λ x. x * 2 ^ (k + q)) (sym top) in
      let sign : (m * nat_abs b * 2 ^ p ≡ 0) ⊎ (unlike u (below_zero b) ≡ below_zero a) = elim z.1 [ inl e ↦ inl (gone m (cancel m 0 (2 ^ (p + t)) (pow_pos (p + t)) (e ∙ sym (zero-mul (2 ^ (p + t)))))) | inr e ↦ inr (unlike_forth u (below_zero b) (below_zero a) e) ] in
      left_side n b p ∙ signed_same (unlike u (below_zero b)) (below_zero a) (m * nat_abs b * 2 ^ p) (nat_abs a * 2 ^ (k + q)) size sign ∙ sym (scaled_side a (2 ^ (k + q)))
    where
      gone : (m : ℕ) → m ≡ 0 → m * nat_abs b * 2 ^ p ≡ 0
      gone m e = let f : m * nat_abs b ≡ 0 = ap (λ x. x * nat_abs b) e ∙ zero-mul (nat_abs b) in ap (λ x. x * 2 ^ p) f ∙ zero-mul (2 ^ p)

  pub ratio_is : (r : Result Dyadic AngleFault) → Exactly (signed s (y * 2 ^ q)) (p + t) r → RatioIs a p b q r
  ratio_is (Ok d) h = to_ratio d.num d.shift h
  ratio_is (Err AngleRange) h = ((signed s (y * 2 ^ q), p + t, to_ratio (signed s (y * 2 ^ q)) (p + t) refl), λ d k. h d (to_stands d.num d.shift k))
  ratio_is (Err NotDyadic) h = absurd h
  ratio_is (Err NoParameter) h = absurd h
  ratio_is (Err Function) h = absurd h
  ratio_is (Err ByZero) h = absurd h
  ratio_is (Err Memory) h = absurd h
