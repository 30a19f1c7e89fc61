-- No tree of up to 65,536 items is higher than 32.
use Rattle.std.proofs.Common.{◌≡◌, ℕ, zero, suc, ◌+◌, ◌-◌, ◌*◌, ◌^◌, ◌<◌, ◌≤◌, ◌⊎◌, inl, inr, List, [], ◌∷◌, length, take, drop, ap, arith, length-take, length-drop}
use Rattle.std.proofs.Math.Nat.{pow-suc, mul-le-mul_left, mul-le-mul_right}
use Rattle.seg_tree.specs.Trees.{Tree, height, front_size, built, build}
use Rattle.seg_tree.specs.Measures.{leaves, height_maybe}
use Rattle.seg_tree.proofs.Runs.{short_or, short_built, long_built, front_size-below, front_size-above}
use Rattle.seg_tree.proofs.Built.{balanced-build}
use Rattle.seg_tree.proofs.Steep.{steep}

positive : (n : ℕ) → 0 < 2 ^ n
positive zero = omega arith
positive (suc n) = omega (arith, pow-suc 2 n, positive n)

raised : (m n : ℕ) → 2 ^ m ≤ 2 ^ (m + n)
raised m zero = let e : m + 0 ≡ m = omega arith in omega (arith, ap (λ k. 2 ^ k) e)
raised m (suc n) = let e : m + suc n ≡ suc (m + n) = omega arith in omega (arith, ap (λ k. 2 ^ k) e, pow-suc 2 (m + n), raised m n)

which : (h : ℕ) → (h ≤ 32) ⊎ (33 ≤ h)
which h = grind arith

square : (n : ℕ) → n ≤ 65536 → n * n ≤ 4294967296
square n h = omega (arith, mul-le-mul_left {m = n} {n = 65536} n h, mul-le-mul_right {m = n} {n = 65536} 65536 h)

pub low_of : (h n : ℕ) → 2 ^ h ≤ n * n → n ≤ 65536 → h ≤ 32
low_of h n s f = elim (which h) [
  | inl low ↦ low
  | inr high ↦
      let e : 33 + (h - 33) ≡ h = omega arith in
      absurd (omega (arith, raised 33 (h - 33), ap (λ k. 2 ^ k) e, square n f))
]

leaves-built : (f : ℕ) (xs : List ℕ) → 0 < length xs → length xs ≤ f → leaves (built f xs) ≤ length xs
leaves-built zero xs s h = omega arith
leaves-built (suc f) xs s h = elim (short_or xs) [
  | inl q ↦ let e : leaves (built (suc f) xs) ≡ 1 = ap leaves (short_built f xs q) in omega (arith, e)
  | inr x ↦
      let front : List ℕ = take (front_size (length xs)) xs in
      let back : List ℕ = drop (front_size (length xs)) xs in
      let e : leaves (built (suc f) xs) ≡ leaves (built f front) + leaves (built f back) = ap leaves (long_built f xs x) in
      let p : length front ≡ front_size (length xs) = omega (arith, length-take (front_size (length xs)) xs, front_size-below (length xs) x) in
      let q : length back ≡ length xs - front_size (length xs) = length-drop (front_size (length xs)) xs in
      let l : leaves (built f front) ≤ length front = leaves-built f front (omega (arith, p, front_size-above (length xs) x)) (omega (arith, p, front_size-below (length xs) x)) in
      let r : leaves (built f back) ≤ length back = leaves-built f back (omega (arith, q, front_size-below (length xs) x)) (omega (arith, q, front_size-above (length xs) x)) in
      omega (arith, e, p, q, l, r, front_size-below (length xs) x)
]

pub low-build : (xs : List ℕ) → length xs ≤ 65536 → height_maybe (build xs) ≤ 32
unfolding build
low-build [] h = omega arith
low-build (x ∷ xs) h =
    let t : Tree ℕ = built (length (x ∷ xs)) (x ∷ xs) in
    low_of (height t) (leaves t) (steep t (balanced-build (x ∷ xs))) (omega (arith, leaves-built (length (x ∷ xs)) (x ∷ xs) (omega arith) (omega arith)))
