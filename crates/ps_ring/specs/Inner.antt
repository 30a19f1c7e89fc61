-- The inner product of numbers: of the first's conjugate with the second.
use Rattle.std.specs.Prelude.{ℕ, zero, suc}
use Rattle.std.proofs.Math.IntN.{ℤ, pos, ◌+ℤ◌, ◌*ℤ◌}
use Rattle.ps_ring.specs.Numbers.{Number}

-- the sum of f at 0 up to n
unfoldable pub window : ℕ → (ℤ → ℤ) → ℤ
window zero f = pos 0
window (suc n) f = window n f +ℤ f (pos n)

-- at j, the sum of c i times d (i + j) over i below half a turn
unfoldable pub inner : Number → Number → Number
inner c d j = window 2147483648 (λ i. c i *ℤ d (i +ℤ j))
