-- The rewrite steps by values, and that each keeps the number of a sum at every input and output.
use Rattle.std.specs.Prelude.{ℕ, suc, ◌≡◌, ◌≤◌, ◌+◌, ◌%◌, cond, Bool, true, false, length}
use mathlib.Core.Bool.{xor}
use Rattle.std.proofs.Math.IntN.{pos, ◌+ℤ◌}
use Rattle.ps_ring.specs.Numbers.{SameScaled}
use Rattle.ps_ring.specs.Truths.{Truths}
use Rattle.ps_ring.specs.Sums.{insert_at, PathValues, signed_count}

-- S' is S without the path variable at place i, which neither S's phase nor its outputs know
pub record ElimStep (n : ℕ) (S S' : PathValues) (i : ℕ) : Type 0 where
  pub at : i ≤ S'.m
  pub m_is : S.m ≡ suc S'.m
  pub k_is : S.k ≡ S'.k +ℤ pos 2
  pub phase_is : (x y : Truths) (b : Bool) → length x ≡ n → length y ≡ S'.m → S.phase x (insert_at i b y) % 4294967296 ≡ S'.phase x y % 4294967296
  pub outs_is : (x y : Truths) (b : Bool) → length x ≡ n → length y ≡ S'.m → S.outs x (insert_at i b y) ≡ S'.outs x y

-- S' is S without the path variable at place i, and without the one at place r of the others, which becomes Q:
-- the first turns the phase by half a turn where the second is not Q
pub record HhStep (n : ℕ) (S S' : PathValues) (i r : ℕ) (Q : Truths → Truths → Bool) : Type 0 where
  pub at : i ≤ suc S'.m
  pub next : r ≤ S'.m
  pub m_is : S.m ≡ suc (suc S'.m)
  pub k_is : S.k ≡ S'.k +ℤ pos 2
  pub flips : (x y : Truths) (v : Bool) → length x ≡ n → length y ≡ S'.m
      → S.phase x (insert_at i true (insert_at r v y)) % 4294967296 ≡ (S.phase x (insert_at i false (insert_at r v y)) + cond (xor v (Q x y)) 2147483648 0) % 4294967296
  pub phase_is : (x y : Truths) → length x ≡ n → length y ≡ S'.m → S.phase x (insert_at i false (insert_at r (Q x y) y)) % 4294967296 ≡ S'.phase x y % 4294967296
  pub idle : (x w : Truths) → length x ≡ n → length w ≡ suc S'.m → S.outs x (insert_at i true w) ≡ S.outs x (insert_at i false w)
  pub outs_is : (x y : Truths) → length x ≡ n → length y ≡ S'.m → S.outs x (insert_at i false (insert_at r (Q x y) y)) ≡ S'.outs x y

-- S' is S without the path variable at place i, which turns the phase by a quarter turn, and by half a turn more where Q
pub record OmegaStep (n : ℕ) (S S' : PathValues) (i : ℕ) (Q : Truths → Truths → Bool) : Type 0 where
  pub at : i ≤ S'.m
  pub m_is : S.m ≡ suc S'.m
  pub k_is : S.k ≡ S'.k +ℤ pos 1
  pub turned : (x y : Truths) → length x ≡ n → length y ≡ S'.m
      → S.phase x (insert_at i true y) % 4294967296 ≡ (S.phase x (insert_at i false y) + 1073741824 + cond (Q x y) 2147483648 0) % 4294967296
  pub phase_is : (x y : Truths) → length x ≡ n → length y ≡ S'.m
      → S'.phase x y % 4294967296 ≡ (S.phase x (insert_at i false y) + 536870912 + cond (Q x y) 3221225472 0) % 4294967296
  pub outs_is : (x y : Truths) (b : Bool) → length x ≡ n → length y ≡ S'.m → S.outs x (insert_at i b y) ≡ S'.outs x y

-- both sums stand for the same number
abbrev pub SameNumber : PathValues → PathValues → Truths → Truths → Type 0
SameNumber S S' x z = SameScaled S.k (signed_count S x z) S'.k (signed_count S' x z)

abbrev pub ElimKeeps : Type 0
ElimKeeps = (n : ℕ) (S S' : PathValues) (i : ℕ) → ElimStep n S S' i → (x z : Truths) → length x ≡ n → SameNumber S S' x z

abbrev pub HhKeeps : Type 0
HhKeeps = (n : ℕ) (S S' : PathValues) (i r : ℕ) (Q : Truths → Truths → Bool) → HhStep n S S' i r Q → (x z : Truths) → length x ≡ n → SameNumber S S' x z

abbrev pub OmegaKeeps : Type 0
OmegaKeeps = (n : ℕ) (S S' : PathValues) (i : ℕ) (Q : Truths → Truths → Bool) → OmegaStep n S S' i Q → (x z : Truths) → length x ≡ n → SameNumber S S' x z
