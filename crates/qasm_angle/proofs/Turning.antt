-- Angles of pairs.
use Rattle.std.proofs.Common.{◌≡◌, ℕ, ◌+◌, ◌-◌, ◌*◌, ◌/◌, ◌%◌, ◌^◌, ◌<◌, ◌≤◌, inl, inr, true, false, arith, sym, ◌∙◌, ap, subst, Ok}
use Rattle.std.specs.Prelude.{ℤ, pos, nat_abs, neg_ℤ, ◌+ℤ◌}
use Rattle.std.proofs.lemmas.Int.{ints}
use Rattle.std.proofs.lemmas.Bool.{cases_lt}
use Rattle.std.proofs.lemmas.Nat.{pow-add}
use Rattle.qasm_angle.specs.declared.types.Pair.{Pair}
use Rattle.qasm_angle.specs.Fractions.{signed, below_zero}
use Rattle.qasm_angle.specs.Angles.{IsUnits, IsAngle}
use Rattle.qasm_angle.proofs.Lowest.{apart_at, abs_scaled}
use Rattle.qasm_angle.proofs.Signs.{times_pos, scaled_side}

pub no_units : (x : Pair) → 30 < x.s.shift → (n : ℤ) → IsUnits x n → ⊥
no_units x deep n h =
    let e : nat_abs x.s.num * 2 ^ 30 ≡ nat_abs n * 2 ^ x.s.shift = sym (abs_scaled x.s.num (2 ^ 30)) ∙ ap nat_abs h ∙ abs_scaled n (2 ^ x.s.shift) in
    apart_at (nat_abs n) 30 (nat_abs x.s.num) x.s.shift deep x.s.lowest (sym e)

module _ (x : Pair) (big w : ℕ) (few : x.s.shift ≤ 30) (f : big ≡ nat_abs x.s.num) (g : w ≡ 2 ^ (30 - x.s.shift)) where
  abbrev pub turns : ℕ
  turns = big * w

  units : IsUnits x (signed (below_zero x.s.num) turns)
  units =
      let b = below_zero x.s.num in let k = x.s.shift in
      let p : 2 ^ 30 ≡ 2 ^ (30 - k) * 2 ^ k = ap (λ i. 2 ^ i) (let q : 30 ≡ 30 - k + k = omega arith in q) ∙ pow-add 2 (30 - k) k in
      let q : nat_abs x.s.num * 2 ^ 30 ≡ turns * 2 ^ k = ap (λ i. nat_abs x.s.num * i) p ∙ (let r : nat_abs x.s.num * (2 ^ (30 - k) * 2 ^ k) ≡ nat_abs x.s.num * 2 ^ (30 - k) * 2 ^ k = omega arith in r) ∙ ap (λ i. i * 2 ^ (30 - k) * 2 ^ k) (sym f) ∙ ap (λ i. big * i * 2 ^ k) (sym g) in
      scaled_side x.s.num (2 ^ 30) ∙ ap (signed b) q ∙ sym (times_pos b turns (2 ^ k))

  pub angle_positive : (u : ℕ) → x.r.num ≡ pos 0 → below_zero x.s.num ≡ false → u ≡ turns % 4294967296 → IsAngle x (Ok u)
  angle_positive u real b e =
      let z : IsUnits x (pos turns) = subst (λ s. IsUnits x (signed s turns)) b units in
      let d = turns / 4294967296 in
      let small : u < 4294967296 = omega arith in
      let k : pos turns ≡ pos u +ℤ pos (d * 4294967296) = omega (arith, ints) in
      (real, pos turns, z, (small, pos d, k))

  pub angle_negative : (u : ℕ) → x.r.num ≡ pos 0 → below_zero x.s.num ≡ true → u ≡ (4294967296 - turns % 4294967296) % 4294967296 → IsAngle x (Ok u)
  angle_negative u real b e =
      let z : IsUnits x (signed true turns) = subst (λ s. IsUnits x (signed s turns)) b units in
      let small : u < 4294967296 = omega arith in
      let (q, h) = whole in
      let k : neg_ℤ (pos turns) ≡ pos u +ℤ neg_ℤ (pos (q * 4294967296)) = omega (arith, ints, h) in
      (real, signed true turns, z, (small, signed true q, k ∙ ap (λ i. pos u +ℤ i) (sym (times_pos true q 4294967296))))
    where
      whole : (q : ℕ) × (turns + u ≡ q * 4294967296)
      whole = let d = turns / 4294967296 in elim (cases_lt 0 (turns % 4294967296)) [
        | inl h ↦ (d + 1, omega arith)
        | inr h ↦ (d, omega arith)
      ]
