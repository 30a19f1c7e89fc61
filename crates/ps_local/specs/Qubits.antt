-- The qubits of an item as the bits of a number.
use Rattle.std.specs.Prelude.{ℕ, ◌≡◌, ◌⊎◌, List}
use Rattle.std.specs.Int.{bit_at}
use Rattle.ps_prim.specs.declared.prims.Primitive.{Primitive as Prim}
use Rattle.ps_cut.specs.Orders.{IsOn, IsOnSome}

-- the bits of the mask that are 1 are the qubits of the list
pub record IsMask (mask : ℕ) (A : List Prim) : Type 0 where
  pub only : (k : ℕ) → bit_at mask k ≡ 1 → IsOnSome k A
  pub all : (k : ℕ) → IsOnSome k A → bit_at mask k ≡ 1

-- the mask has the qubits of one prim more
pub record IsOneMore (mask : ℕ) (g : Prim) (more : ℕ) : Type 0 where
  pub only : (k : ℕ) → bit_at more k ≡ 1 → (bit_at mask k ≡ 1) ⊎ IsOn k g
  pub before : (k : ℕ) → bit_at mask k ≡ 1 → bit_at more k ≡ 1
  pub added : (k : ℕ) → IsOn k g → bit_at more k ≡ 1
