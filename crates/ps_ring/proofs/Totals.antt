-- Sums over all lists of truth values.
use Rattle.std.proofs.Common.{◌≡◌, ℕ, zero, suc, ◌+◌, refl, ap, ap₂, sym, ◌∙◌, arith, Bool, true, false, ◌≤◌, [], ◌∷◌, ◌++◌, length, zero-add, suc-add}
use Rattle.std.proofs.Math.IntN.{ℤ, pos, ◌+ℤ◌, neg_ℤ, ◌*ℤ◌}
use Rattle.std.proofs.lemmas.Int.{ints}
use Rattle.ps_ring.specs.Numbers.{when}
use Rattle.ps_ring.specs.Truths.{Truths, same_bits}
use Rattle.ps_ring.specs.Sums.{total, insert_at}
use Rattle.ps_ring.proofs.Products.{sum_mul}

pub total_ext : (m : ℕ) (F G : Truths → ℤ) → ((y : Truths) → length y ≡ m → F y ≡ G y) → total m F ≡ total m G
unfolding total
total_ext zero F G h = h [] refl
total_ext (suc m) F G h =
    let a = total_ext m (λ ys. F (false ∷ ys)) (λ ys. G (false ∷ ys)) (λ y e. h (false ∷ y) (ap suc e)) in
    let b = total_ext m (λ ys. F (true ∷ ys)) (λ ys. G (true ∷ ys)) (λ y e. h (true ∷ y) (ap suc e)) in
    omega (arith, ints)

pub total_add : (m : ℕ) (F G : Truths → ℤ) → total m (λ y. F y +ℤ G y) ≡ total m F +ℤ total m G
unfolding total
total_add zero F G = refl
total_add (suc m) F G =
    let a = total_add m (λ ys. F (false ∷ ys)) (λ ys. G (false ∷ ys)) in
    let b = total_add m (λ ys. F (true ∷ ys)) (λ ys. G (true ∷ ys)) in
    omega (arith, ints)

pub total_neg : (m : ℕ) (F : Truths → ℤ) → total m (λ y. neg_ℤ (F y)) ≡ neg_ℤ (total m F)
unfolding total
total_neg zero F = refl
total_neg (suc m) F =
    let a = total_neg m (λ ys. F (false ∷ ys)) in
    let b = total_neg m (λ ys. F (true ∷ ys)) in
    omega (arith, ints)

-- the variable at place i set last
pub total_pull : (m i : ℕ) → i ≤ m → (F : Truths → ℤ) → total (suc m) F ≡ total m (λ y. F (insert_at i false y) +ℤ F (insert_at i true y))
unfolding total insert_at
total_pull m zero h F = sym (total_add m (λ y. F (false ∷ y)) (λ y. F (true ∷ y)))
total_pull zero (suc i) h F = absurd (omega arith)
total_pull (suc m) (suc i) h F =
    let a = total_pull m i (omega arith) (λ ys. F (false ∷ ys)) in
    let b = total_pull m i (omega arith) (λ ys. F (true ∷ ys)) in
    omega (arith, ints)

pub total_append : (m n : ℕ) (F : Truths → ℤ) → total (m + n) F ≡ total m (λ y. total n (λ w. F (y ++ w)))
unfolding total
total_append zero n F = ap (λ k. total k F) (zero-add n)
total_append (suc m) n F =
    let s = ap (λ k. total k F) (suc-add m n) in
    let a = total_append m n (λ ys. F (false ∷ ys)) in
    let b = total_append m n (λ ys. F (true ∷ ys)) in
    omega (arith, ints)

-- a path variable that nothing knows doubles the sum
pub total_idle : (m i : ℕ) → i ≤ m → (F G : Truths → ℤ) → ((y : Truths) (b : Bool) → length y ≡ m → F (insert_at i b y) ≡ G y) → total (suc m) F ≡ total m G +ℤ total m G
total_idle m i h F G e =
    total_pull m i h F ∙ total_ext m _ (λ y. G y +ℤ G y) (λ y l. ap₂ (λ a b. a +ℤ b) (e y false l) (e y true l)) ∙ total_add m G G

-- two variables set last
pub total_pull_two : (m i k : ℕ) → i ≤ suc m → k ≤ m → (F : Truths → ℤ) → total (suc (suc m)) F
    ≡ total m (λ y. (F (insert_at i false (insert_at k false y)) +ℤ F (insert_at i true (insert_at k false y))) +ℤ (F (insert_at i false (insert_at k true y)) +ℤ F (insert_at i true (insert_at k true y))))
total_pull_two m i k h l F = total_pull (suc m) i h F ∙ total_pull m k l (λ w. F (insert_at i false w) +ℤ F (insert_at i true w))

pub total_times : (m : ℕ) (k : ℤ) (F : Truths → ℤ) → total m (λ y. k *ℤ F y) ≡ k *ℤ total m F
unfolding total
total_times zero k F = refl
total_times (suc m) k F =
    ap₂ (λ r s. r +ℤ s) (total_times m k (λ ys. F (false ∷ ys))) (total_times m k (λ ys. F (true ∷ ys)))
    ∙ sym (sum_mul k (total m (λ ys. F (false ∷ ys))) (total m (λ ys. F (true ∷ ys))))

pub total_swap : (m n : ℕ) (F : Truths → Truths → ℤ) → total m (λ y. total n (F y)) ≡ total n (λ z. total m (λ y. F y z))
unfolding total
total_swap zero n F = refl
total_swap (suc m) n F = ap₂ (λ a b. a +ℤ b) (total_swap m n (λ y. F (false ∷ y))) (total_swap m n (λ y. F (true ∷ y))) ∙ sym (total_add n _ _)

pub total_zero : (m : ℕ) → total m (λ y. pos 0) ≡ pos 0
unfolding total
total_zero zero = refl
total_zero (suc m) = ap₂ (λ a b. a +ℤ b) (total_zero m) (total_zero m)

pub total_at : (x : Truths) (F : Truths → ℤ) → total (length x) (λ z. when (same_bits x z) (F z)) ≡ F x
unfolding total same_bits when
total_at [] F = refl
total_at (true ∷ x) F = let a = total_at x (λ z. F (true ∷ z)) in let b = total_zero (length x) in omega (arith, ints)
total_at (false ∷ x) F = let a = total_at x (λ z. F (false ∷ z)) in let b = total_zero (length x) in omega (arith, ints)
