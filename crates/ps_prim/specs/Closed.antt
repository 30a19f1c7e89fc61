-- Closed path sums: when they stand for 0, and when those without path variables stand for 1, or for a phase.
use Rattle.std.specs.Prelude.{ℕ, suc, ◌≡◌, ◌≤◌, ◌+◌, ◌%◌, true, false, [], length, cond, ◌&&◌, Bool, ◌++◌}
use Rattle.std.proofs.Math.IntN.{ℤ, pos}
use Rattle.ps_ring.specs.Sums.{insert_at, PathValues, signed_count}
use Rattle.ps_ring.specs.Readings.{Assignment, read_sum, Ignores}
use Rattle.ps_prim.specs.Amplitudes.{Truths, bit}
use Rattle.ps_prim.specs.Overlaps.{IsOne, IsTurn}

-- at x the path variable at place i turns the phase by half a turn, whatever the other m path variables are,
-- and no output knows it
pub record VanishesAt (S : PathValues) (x : Truths) (m i : ℕ) : Type 0 where
  pub m_is : S.m ≡ suc m
  pub at : i ≤ m
  pub flips : (y : Truths) → length y ≡ m → S.phase x (insert_at i true y) % 4294967296 ≡ (S.phase x (insert_at i false y) + 2147483648) % 4294967296
  pub idle : (y : Truths) → length y ≡ m → S.outs x (insert_at i true y) ≡ S.outs x (insert_at i false y)

-- P is R and half a turn where path variable i is 1 and Q is, which at x it is
pub record VanishReading (n m i : ℕ) (P R : Assignment → ℕ) (O : Assignment → Truths) (Q : Assignment → Bool) (x : Truths) : Type 0 where
  pub at : i ≤ m
  pub rest_free : Ignores ℕ (n + i) R
  pub value_free : Ignores Bool (n + i) Q
  pub outs_free : Ignores Truths (n + i) O
  pub phase_was : (a : Assignment) → P a % 4294967296 ≡ (R a + cond (a (n + i) && Q a) 2147483648 0) % 4294967296
  pub holds : (y : Truths) → length y ≡ m → Q (bit (x ++ insert_at i false y)) ≡ true

abbrev pub VanishRead : Type 0
VanishRead = (n m i : ℕ) (k : ℤ) (P R : Assignment → ℕ) (O : Assignment → Truths) (Q : Assignment → Bool) (x : Truths) → length x ≡ n → VanishReading n m i P R O Q x → VanishesAt (read_sum (suc m) k P O) x m i

-- where a variable vanishes the sum is 0
abbrev pub VanishingIsZero : Type 0
VanishingIsZero = (S : PathValues) (x : Truths) (m i : ℕ) → VanishesAt S x m i → (z : Truths) (j : ℤ) → signed_count S x z j ≡ pos 0

-- and so not 1
abbrev pub ZeroIsNotOne : Type 0
ZeroIsNotOne = (S : PathValues) (x : Truths) → ((j : ℤ) → signed_count S x [] j ≡ pos 0) → ¬ (IsOne S x)

-- without path variables the sum is 1 just where its scale is 0 and its phase is no turn
abbrev pub PlainIsOne : Type 0
PlainIsOne = (S : PathValues) (x : Truths) → S.m ≡ 0 → S.outs x [] ≡ [] → S.k ≡ pos 0 → S.phase x [] % 4294967296 ≡ 0 → IsOne S x

abbrev pub OneIsPlain : Type 0
OneIsPlain = (S : PathValues) (x : Truths) → S.m ≡ 0 → S.outs x [] ≡ [] → IsOne S x → (S.k ≡ pos 0) × (S.phase x [] % 4294967296 ≡ 0)

-- 0 is no phase
abbrev pub ZeroIsNoTurn : Type 0
ZeroIsNoTurn = (S : PathValues) (x : Truths) (p : ℕ) → ((j : ℤ) → signed_count S x [] j ≡ pos 0) → ¬ (IsTurn S x p)

-- without path variables the sum is a phase just where its scale is 0, and it is its own
abbrev pub PlainIsTurn : Type 0
PlainIsTurn = (S : PathValues) (x : Truths) (p : ℕ) → S.m ≡ 0 → S.outs x [] ≡ [] → S.k ≡ pos 0 → S.phase x [] % 4294967296 ≡ p % 4294967296 → IsTurn S x p

abbrev pub TurnIsPlain : Type 0
TurnIsPlain = (S : PathValues) (x : Truths) (p : ℕ) → S.m ≡ 0 → S.outs x [] ≡ [] → IsTurn S x p → (S.k ≡ pos 0) × (S.phase x [] % 4294967296 ≡ p % 4294967296)
