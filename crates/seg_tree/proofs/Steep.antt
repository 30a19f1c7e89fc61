-- The height of a balanced tree against its leaves.
use Rattle.std.proofs.Common.{◌≡◌, ℕ, suc, ◌+◌, ◌*◌, ◌^◌, ◌≤◌, ◌⊎◌, inl, inr, max, sym, ap, subst, arith}
use Rattle.std.proofs.Math.Nat.{pow-suc, mul-add, add-mul, mul-le-mul_left, mul-le-mul_right}
use Rattle.seg_tree.specs.Trees.{Tree, leaf, branch, height}
use Rattle.seg_tree.specs.Measures.{IsBalanced, leaves}
use Rattle.seg_tree.proofs.Balance.{which_le}

square : (a b : ℕ) → (a + b) * (a + b) ≡ a * a + a * b + (b * a + b * b)
square a b = omega (arith, add-mul a b (a + b), mul-add a a b, mul-add b a b)

-- a product is not below the lesser square
between : (a b : ℕ) → (a * a ≤ a * b) ⊎ (b * b ≤ a * b)
between a b = elim (which_le a b) [
  | inl h ↦ inl (mul-le-mul_left {m = a} {n = b} a h)
  | inr h ↦ inr (mul-le-mul_right {m = b} {n = a} b (omega arith))
]

commutes : (a b : ℕ) → b * a ≡ a * b
commutes a b = omega arith

even_step : (p a b : ℕ) → p ≤ a * a → p ≤ b * b → p * 2 ≤ (a + b) * (a + b)
even_step p a b h k = omega (arith, square a b)

uneven_step : (p a b : ℕ) → p * 2 ≤ a * a → p ≤ b * b → p * 2 * 2 ≤ (a + b) * (a + b)
uneven_step p a b h k = elim (between a b) [
  | inl low ↦ omega (arith, square a b, commutes a b, low)
  | inr low ↦ omega (arith, square a b, commutes a b, low)
]

which_step : (h k : ℕ) → h ≤ k + 1 → k ≤ h + 1 → (h ≡ k) ⊎ ((h ≡ suc k) ⊎ (k ≡ suc h))
which_step h k a b = grind arith

module _ {A : Type 0} where
  step_even : (l r : Tree A) → height l ≡ height r → 2 ^ height l ≤ leaves l * leaves l → 2 ^ height r ≤ leaves r * leaves r → 2 ^ (max (height l) (height r) + 1) ≤ (leaves l + leaves r) * (leaves l + leaves r)
  step_even l r e h k =
      let top : max (height l) (height r) + 1 ≡ suc (height l) = omega arith in
      let same : 2 ^ height r ≡ 2 ^ height l = ap (λ n. 2 ^ n) (sym e) in
      let up : 2 ^ (max (height l) (height r) + 1) ≡ 2 ^ height l * 2 = subst (λ n. 2 ^ n ≡ 2 ^ height l * 2) (sym top) (pow-suc 2 (height l)) in
      omega (arith, up, even_step (2 ^ height l) (leaves l) (leaves r) h (omega (arith, same)))

  step_left : (l r : Tree A) → height l ≡ suc (height r) → 2 ^ height l ≤ leaves l * leaves l → 2 ^ height r ≤ leaves r * leaves r → 2 ^ (max (height l) (height r) + 1) ≤ (leaves l + leaves r) * (leaves l + leaves r)
  step_left l r e h k =
      let top : max (height l) (height r) + 1 ≡ suc (suc (height r)) = omega arith in
      let one : 2 ^ height l ≡ 2 ^ height r * 2 = subst (λ n. 2 ^ n ≡ 2 ^ height r * 2) (sym e) (pow-suc 2 (height r)) in
      let up : 2 ^ (max (height l) (height r) + 1) ≡ 2 ^ suc (height r) * 2 = subst (λ n. 2 ^ n ≡ 2 ^ suc (height r) * 2) (sym top) (pow-suc 2 (suc (height r))) in
      omega (arith, up, pow-suc 2 (height r), uneven_step (2 ^ height r) (leaves l) (leaves r) (omega (arith, one)) k)

  step_right : (l r : Tree A) → height r ≡ suc (height l) → 2 ^ height l ≤ leaves l * leaves l → 2 ^ height r ≤ leaves r * leaves r → 2 ^ (max (height l) (height r) + 1) ≤ (leaves l + leaves r) * (leaves l + leaves r)
  step_right l r e h k =
      let top : max (height l) (height r) + 1 ≡ suc (suc (height l)) = omega arith in
      let one : 2 ^ height r ≡ 2 ^ height l * 2 = subst (λ n. 2 ^ n ≡ 2 ^ height l * 2) (sym e) (pow-suc 2 (height l)) in
      let up : 2 ^ (max (height l) (height r) + 1) ≡ 2 ^ suc (height l) * 2 = subst (λ n. 2 ^ n ≡ 2 ^ suc (height l) * 2) (sym top) (pow-suc 2 (suc (height l))) in
      let turned : (leaves r + leaves l) * (leaves r + leaves l) ≡ (leaves l + leaves r) * (leaves l + leaves r) = ap (λ n. n * n) (omega arith) in
      omega (arith, up, pow-suc 2 (height l), turned, uneven_step (2 ^ height l) (leaves r) (leaves l) (omega (arith, one)) h)

  pub steep : (t : Tree A) → IsBalanced t → 2 ^ height t ≤ leaves t * leaves t
  steep (leaf n xs) b = omega arith
  steep (branch n l r) b = elim (which_step (height l) (height r) b.2 b.3) [
    | inl e ↦ step_even l r e (steep l b.0) (steep r b.1)
    | inr rest ↦ elim rest [
      | inl e ↦ step_left l r e (steep l b.0) (steep r b.1)
      | inr e ↦ step_right l r e (steep l b.0) (steep r b.1)
    ]
  ]
