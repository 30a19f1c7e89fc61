-- Cyclotomic integers of order 2^32 as families of integers, and numbers over powers of the root of 2.
use Rattle.std.specs.Prelude.{ℕ, zero, suc, ◌≡◌, cond, ◌%◌, ◌+◌, ◌-◌, nat_eq, Bool, true, false}
use Rattle.std.proofs.Math.IntN.{ℤ, pos, negsuc, ◌+ℤ◌, ◌-ℤ◌, neg_ℤ, nat_abs}

-- c stands for the sum, over j from 0 to 2^31 - 1, of c j times the j-th power of a root of unity of order 2^32
abbrev pub Number : Type 0
Number = ℤ → ℤ

-- half a turn changes the sign
abbrev pub IsNumber : Number → Type 0
IsNumber c = (j : ℤ) → c (j +ℤ pos 2147483648) ≡ neg_ℤ (c j)

-- the number 1 at the residue r of 2^32
unfoldable pub unit_at : ℕ → ℤ
unit_at r = cond (nat_eq r 0) (pos 1) (cond (nat_eq r 2147483648) (negsuc 0) (pos 0))

-- the number 1: 1 at 0, -1 at half a turn, and 0 elsewhere
unfoldable pub one : Number
one j = unit_at (nat_abs j % 4294967296)

-- v where b is true, else 0
unfoldable pub when : Bool → ℤ → ℤ
when true v = v
when false v = pos 0

-- times the root of 2, which is an eighth of a turn plus an eighth of a turn back
unfoldable pub sqrt2 : Number → Number
sqrt2 c j = c (j -ℤ pos 536870912) +ℤ c (j +ℤ pos 536870912)

-- times the e-th power of the root of 2
unfoldable pub root2 : ℕ → Number → Number
root2 zero c = c
root2 (suc e) c = sqrt2 (root2 e c)

-- how far the second is above the first, and 0 where it is not
unfoldable pub above : ℤ → ℤ → ℕ
above (pos a) (pos b) = b - a
above (pos a) (negsuc b) = 0
above (negsuc a) (pos b) = b + suc a
above (negsuc a) (negsuc b) = a - b

-- c over the k-th power of the root of 2 is c' over the k'-th: raised to the greater of both they agree everywhere
abbrev pub SameScaled : ℤ → Number → ℤ → Number → Type 0
SameScaled k c k' c' = (j : ℤ) → root2 (above k k') c j ≡ root2 (above k' k) c' j
