-- The sums of the composition denote what they stand for.
use Rattle.std.specs.Prelude.{ℕ, List, [], ◌∷◌, ◌++◌}
use Rattle.ps_ring.specs.Sums.{PathValues}
use Rattle.ps_prim.specs.declared.prims.Primitive.{Primitive as Prim}
use Rattle.ps_prim.specs.Amplitudes.{Truths}
use Rattle.ps_prim.specs.Maps.{IsWithin}
use Rattle.ps_prim.specs.Plain.{IsPlain}
use Rattle.ps_prim.specs.Sums.{Denotes, LeafSum}
use Rattle.ps_ring.specs.Joins.{PlainSum, IdentitySum, JoinedSum}

-- a sum without path variables denotes each list that permutes and turns the basis inputs in this way
abbrev pub PlainDenotes : Type 0
PlainDenotes = (n : ℕ) (A : List Prim) (f : Truths → Truths) (P : Truths → ℕ) (S : PathValues) → IsPlain n A f P → PlainSum n f P S → Denotes n S A

abbrev pub IdentityDenotes : Type 0
IdentityDenotes = (n : ℕ) (S : PathValues) → IdentitySum n S → Denotes n S []

abbrev pub LeafDenotes : Type 0
LeafDenotes = (n : ℕ) (g : Prim) (S : PathValues) → IsWithin n g → LeafSum n g S → Denotes n S (g ∷ [])

abbrev pub JoinDenotes : Type 0
JoinDenotes = (n : ℕ) (S1 S2 S : PathValues) (A1 A2 : List Prim) → JoinedSum n S1 S2 S → Denotes n S1 A1 → Denotes n S2 A2 → Denotes n S (A1 ++ A2)
