-- Sums over all lists of truth values, and what a sum over paths counts.
use Rattle.std.specs.Prelude.{ℕ, zero, suc, Bool, true, false, [], ◌∷◌}
use Rattle.std.proofs.Math.IntN.{ℤ, pos, ◌+ℤ◌, ◌-ℤ◌}
use Rattle.ps_ring.specs.Numbers.{Number, one, when}
use Rattle.ps_ring.specs.Truths.{Truths, same_bits}

-- the sum of F over all lists of m truth values, one variable after another set to false and to true
unfoldable pub total : ℕ → (Truths → ℤ) → ℤ
total zero F = F []
total (suc m) F = total m (λ ys. F (false ∷ ys)) +ℤ total m (λ ys. F (true ∷ ys))

-- the value b put in at place i
unfoldable pub insert_at : ℕ → Bool → Truths → Truths
insert_at zero b ys = b ∷ ys
insert_at (suc i) b [] = b ∷ []
insert_at (suc i) b (y ∷ ys) = y ∷ insert_at i b ys

-- a path sum by its values: the number of path variables, the scale, and at the inputs x and the path variables y
-- the phase in units of 2^-32 of a turn, which is not reduced, and the outputs
pub record PathValues : Type 0 where
  pub m : ℕ
  pub k : ℤ
  pub phase : Truths → Truths → ℕ
  pub outs : Truths → Truths → Truths

-- how many paths from x end in z with phase j, less those with half a turn more;
-- the sum stands for this number over the k-th power of the root of 2
unfoldable pub signed_count : PathValues → Truths → Truths → Number
signed_count S x z j = total S.m (λ y. when (same_bits (S.outs x y) z) (one (j -ℤ pos (S.phase x y))))
