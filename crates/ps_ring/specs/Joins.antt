-- The sums of the composition by values: of no gate, of one gate, of two sums in a row, and the overlap of two.
use Rattle.std.specs.Prelude.{ℕ, ◌≡◌, ◌+◌, ◌*◌, ◌%◌, cond, ◌&&◌, Bool, [], ◌∷◌, ◌++◌, length, set}
use mathlib.Core.Bool.{xor}
use Rattle.std.proofs.Math.IntN.{pos, ◌+ℤ◌}
use Rattle.ps_ring.specs.Truths.{Truths, bit}
use Rattle.ps_ring.specs.Sums.{PathValues}

-- a sum without path variables: the outputs f x with the phase P x
pub record PlainSum (n : ℕ) (f : Truths → Truths) (P : Truths → ℕ) (S : PathValues) : Type 0 where
  pub m_is : S.m ≡ 0
  pub k_is : S.k ≡ pos 0
  pub phase_is : (x : Truths) → length x ≡ n → S.phase x [] % 4294967296 ≡ P x % 4294967296
  pub outs_is : (x : Truths) → length x ≡ n → S.outs x [] ≡ f x

-- the sum of no gate
abbrev pub IdentitySum : ℕ → PathValues → Type 0
IdentitySum n S = PlainSum n (λ x. x) (λ x. 0) S

-- the sum of one U with two path variables a and b, of which b is its output
pub record TurnedSum (n theta phi lambda q : ℕ) (S : PathValues) : Type 0 where
  pub m_is : S.m ≡ 2
  pub k_is : S.k ≡ pos 2
  pub phase_is : (x : Truths) (a b : Bool) → length x ≡ n → (S.phase x (a ∷ b ∷ []) + theta) % 4294967296
      ≡ (cond (bit x q) (2 * lambda + 3221225472) 0 + cond (bit x q && a) 2147483648 0 + cond a (2 * theta) 0 + cond (a && b) 2147483648 0 + cond b (2 * phi + 1073741824) 0) % 4294967296
  pub outs_is : (x : Truths) (a b : Bool) → length x ≡ n → S.outs x (a ∷ b ∷ []) ≡ set x q b

-- S is S1 followed by S2: its path variables are those of S1 and then those of S2
pub record JoinedSum (n : ℕ) (S1 S2 S : PathValues) : Type 0 where
  pub m_is : S.m ≡ S1.m + S2.m
  pub k_is : S.k ≡ S1.k +ℤ S2.k
  pub phase_is : (x y w : Truths) → length x ≡ n → length y ≡ S1.m → length w ≡ S2.m
      → S.phase x (y ++ w) % 4294967296 ≡ (S1.phase x y + S2.phase (S1.outs x y) w) % 4294967296
  pub outs_is : (x y w : Truths) → length x ≡ n → length y ≡ S1.m → length w ≡ S2.m → S.outs x (y ++ w) ≡ S2.outs (S1.outs x y) w

-- half a turn for each place at which w is true and f and g differ
unfoldable pub pairing : Truths → Truths → Truths → ℕ
pairing [] f g = 0
pairing (b ∷ w) [] g = 0
pairing (b ∷ w) (x ∷ f) [] = 0
pairing (b ∷ w) (x ∷ f) (y ∷ g) = cond (b && xor x y) 2147483648 0 + pairing w f g

-- S is the overlap of S1 and S2: it has their path variables and one for each output, and no outputs;
-- its phase is S2's less S1's, and the pairing of their outputs
pub record OverlapSum (n : ℕ) (S1 S2 S : PathValues) : Type 0 where
  pub m_is : S.m ≡ S1.m + (S2.m + n)
  pub k_is : S.k ≡ S1.k +ℤ S2.k +ℤ pos (n + n)
  pub phase_is : (x y1 y2 w : Truths) → length x ≡ n → length y1 ≡ S1.m → length y2 ≡ S2.m → length w ≡ n
      → (S.phase x (y1 ++ (y2 ++ w)) + S1.phase x y1) % 4294967296 ≡ (S2.phase x y2 + pairing w (S1.outs x y1) (S2.outs x y2)) % 4294967296
  pub outs_is : (x y : Truths) → length x ≡ n → length y ≡ S.m → S.outs x y ≡ []

-- at n inputs the sum has n outputs
abbrev pub IsOpen : ℕ → PathValues → Type 0
IsOpen n S = (x y : Truths) → length x ≡ n → length y ≡ S.m → length (S.outs x y) ≡ n
