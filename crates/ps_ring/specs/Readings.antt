-- Path sums whose phase and outputs are read at an assignment of numbered variables, as those of polynomials are:
-- the inputs come first, and then the path variables. When such sums are a step, a join or an overlap of others.
use Rattle.std.specs.Prelude.{ℕ, zero, suc, ◌≡◌, ◌≢◌, ◌<◌, ◌≤◌, ◌+◌, ◌*◌, ◌%◌, cond, ◌&&◌, nat_lt, Bool, [], ◌∷◌, ◌++◌, length, set}
use mathlib.Core.Bool.{xor}
use Rattle.std.proofs.Math.IntN.{ℤ}
use Rattle.ps_ring.specs.Truths.{Truths, bit}
use Rattle.ps_ring.specs.Sums.{PathValues}
use Rattle.ps_ring.specs.Joins.{pairing}

abbrev pub Assignment : Type 0
Assignment = ℕ → Bool

-- the path sum with m path variables, scale k, phase P and outputs O
abbrev pub read_sum : ℕ → ℤ → (Assignment → ℕ) → (Assignment → Truths) → PathValues
read_sum m k P O = record { m = m; k = k; phase = λ x y. P (bit (x ++ y)); outs = λ x y. O (bit (x ++ y)) }

-- F has one value at assignments that agree but at v
abbrev pub Ignores : (X : Type 0) → ℕ → (Assignment → X) → Type 0
Ignores X v F = (a b : Assignment) → ((u : ℕ) → u ≢ v → a u ≡ b u) → F a ≡ F b

-- F has one value at assignments that agree below n
abbrev pub IsUnder : (X : Type 0) → ℕ → (Assignment → X) → Type 0
IsUnder X n F = (a b : Assignment) → ((u : ℕ) → u < n → a u ≡ b u) → F a ≡ F b

-- the values of n variables from lo on
unfoldable pub taken : ℕ → ℕ → Assignment → Truths
taken lo zero a = []
taken lo (suc n) a = a lo ∷ taken (suc lo) n a

-- the old name of variable u, where v is gone and the names have closed up
unfoldable pub opened : ℕ → ℕ → ℕ
opened v u = cond (nat_lt u v) u (u + 1)

-- the assignment without v, the names closed up
abbrev pub closed_up : ℕ → Assignment → Assignment
closed_up v a u = a (opened v u)

-- P' and O' are P and O without path variable i, which neither knows
pub record ElimReading (n m i : ℕ) (P P' : Assignment → ℕ) (O O' : Assignment → Truths) : Type 0 where
  pub at : i ≤ m
  pub phase_is : (a : Assignment) → P a % 4294967296 ≡ P' (closed_up (n + i) a) % 4294967296
  pub outs_is : (a : Assignment) → O a ≡ O' (closed_up (n + i) a)

-- P is R and half a turn where path variable i is 1 and variable v1 is not Q; P' and O' are R and O with Q for v1,
-- without both variables. Of the variables other than path variable i, v1 is path variable r
pub record HhReading (n m i r v1 : ℕ) (P R P' : Assignment → ℕ) (O O' : Assignment → Truths) (Q : Assignment → Bool) : Type 0 where
  pub at : i ≤ suc m
  pub next : r ≤ m
  pub second : opened (n + i) (n + r) ≡ v1
  pub rest_free : Ignores ℕ (n + i) R
  pub value_free : Ignores Bool (n + i) Q
  pub value_other : Ignores Bool v1 Q
  pub phase_was : (a : Assignment) → P a % 4294967296 ≡ (R a + cond (a (n + i) && xor (a v1) (Q a)) 2147483648 0) % 4294967296
  pub phase_is : (a : Assignment) → a v1 ≡ Q a → P' (closed_up (n + r) (closed_up (n + i) a)) % 4294967296 ≡ R a % 4294967296
  pub outs_free : Ignores Truths (n + i) O
  pub outs_is : (a : Assignment) → a v1 ≡ Q a → O' (closed_up (n + r) (closed_up (n + i) a)) ≡ O a

-- P is R and, where path variable i is 1, a quarter turn and half a turn more where Q
pub record OmegaReading (n m i : ℕ) (P R P' : Assignment → ℕ) (O O' : Assignment → Truths) (Q : Assignment → Bool) : Type 0 where
  pub at : i ≤ m
  pub rest_free : Ignores ℕ (n + i) R
  pub value_free : Ignores Bool (n + i) Q
  pub phase_was : (a : Assignment) → P a % 4294967296 ≡ (R a + cond (a (n + i)) (1073741824 + cond (Q a) 2147483648 0) 0) % 4294967296
  pub phase_is : (a : Assignment) → P' (closed_up (n + i) a) % 4294967296 ≡ (R a + 536870912 + cond (Q a) 3221225472 0) % 4294967296
  pub outs_is : (a : Assignment) → O a ≡ O' (closed_up (n + i) a)

-- the phase F and the outputs f of the inputs alone
pub record PlainReading (n : ℕ) (f : Truths → Truths) (F : Truths → ℕ) (P : Assignment → ℕ) (O : Assignment → Truths) : Type 0 where
  pub phase_is : (a : Assignment) → P a % 4294967296 ≡ F (taken 0 n a) % 4294967296
  pub outs_is : (a : Assignment) → O a ≡ f (taken 0 n a)

-- one U, with the path variables n and n + 1
pub record TurnedReading (n theta phi lambda q : ℕ) (P : Assignment → ℕ) (O : Assignment → Truths) : Type 0 where
  pub phase_is : (a : Assignment) → (P a + theta) % 4294967296
      ≡ (cond (a q) (2 * lambda + 3221225472) 0 + cond (a q && a n) 2147483648 0 + cond (a n) (2 * theta) 0 + cond (a n && a (suc n)) 2147483648 0 + cond (a (suc n)) (2 * phi + 1073741824) 0) % 4294967296
  pub outs_is : (a : Assignment) → O a ≡ set (taken 0 n a) q (a (suc n))

-- the name in a join of variable v of the second sum: an input has a name of its own behind all others,
-- and the path variables come after those of the first
unfoldable pub second_name : ℕ → ℕ → ℕ → ℕ → ℕ
second_name n m1 m2 v = cond (nat_lt v n) (n + (m1 + m2) + v) (v + m1)

-- where the own names of the second's inputs have the values of the first's outputs,
-- P and O are P1 and the second's P2, and the second's O2; and they know the names of the join alone
pub record JoinReading (n m1 m2 : ℕ) (P1 P2 P : Assignment → ℕ) (O1 O2 O : Assignment → Truths) : Type 0 where
  pub width : (a : Assignment) → length (O1 a) ≡ n
  pub first_phase : IsUnder ℕ (n + m1) P1
  pub first_outs : IsUnder Truths (n + m1) O1
  pub second_phase : IsUnder ℕ (n + m2) P2
  pub second_outs : IsUnder Truths (n + m2) O2
  pub phase_under : IsUnder ℕ (n + (m1 + m2)) P
  pub outs_under : IsUnder Truths (n + (m1 + m2)) O
  pub phase_is : (a : Assignment) → ((u : ℕ) → u < n → a (n + (m1 + m2) + u) ≡ bit (O1 a) u) → P a % 4294967296 ≡ (P1 a + P2 (λ v. a (second_name n m1 m2 v))) % 4294967296
  pub outs_is : (a : Assignment) → ((u : ℕ) → u < n → a (n + (m1 + m2) + u) ≡ bit (O1 a) u) → O a ≡ O2 (λ v. a (second_name n m1 m2 v))

-- the name in an overlap of variable v of the second sum: its inputs are those of the first
unfoldable pub moved_name : ℕ → ℕ → ℕ → ℕ
moved_name n m1 v = cond (nat_lt v n) v (v + m1)

-- P is P2 less P1, and the pairing of the outputs with n variables behind all others; there are no outputs
pub record OverlapReading (n m1 m2 : ℕ) (P1 P2 P : Assignment → ℕ) (O1 O2 O : Assignment → Truths) : Type 0 where
  pub first_phase : IsUnder ℕ (n + m1) P1
  pub first_outs : IsUnder Truths (n + m1) O1
  pub second_phase : IsUnder ℕ (n + m2) P2
  pub second_outs : IsUnder Truths (n + m2) O2
  pub phase_is : (a : Assignment) → (P a + P1 a) % 4294967296
      ≡ (P2 (λ v. a (moved_name n m1 v)) + pairing (taken (n + (m1 + m2)) n a) (O1 a) (O2 (λ v. a (moved_name n m1 v)))) % 4294967296
  pub outs_is : (a : Assignment) → O a ≡ []
