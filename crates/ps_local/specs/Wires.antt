-- A list of items of which some have come out, and how far each qubit was looked for.
use Rattle.std.specs.Prelude.{ℕ, ◌≡◌, ◌<◌, ◌≤◌, Bool, true, false, List, [], ◌∷◌, length, get_or}
use Rattle.std.specs.Int.{bit_at}
use Rattle.ps_prim.specs.declared.prims.Primitive.{Primitive as Prim}
use Rattle.ps_local.specs.Qubits.{IsMask}

-- the items that have not come out, in order
unfoldable pub kept : List Bool → List (List Prim) → List (List Prim)
kept [] xs = []
kept (b ∷ bs) [] = []
kept (true ∷ bs) (x ∷ xs) = kept bs xs
kept (false ∷ bs) (x ∷ xs) = x ∷ kept bs xs

-- no item before the place is on the qubit but those that have come out
abbrev pub IsClear : List ℕ → List Bool → ℕ → ℕ → Type 0
IsClear masks out qubit place = (k : ℕ) → k < place → get_or out k true ≡ false → bit_at (get_or masks k 0) qubit ≡ 0

-- each of the 64 qubits was looked for up to its place in the list
abbrev pub AreClear : List ℕ → List Bool → List ℕ → Type 0
AreClear masks out next = (qubit : ℕ) → qubit < 64 → IsClear masks out qubit (get_or next qubit 0)

abbrev pub AreInside : List ℕ → List ℕ → Type 0
AreInside masks next = (qubit : ℕ) → qubit < 64 → get_or next qubit 0 ≤ length masks

-- the masks are those of the items
abbrev pub AreMasks : List ℕ → List (List Prim) → Type 0
AreMasks masks K = (k : ℕ) → k < length K → IsMask (get_or masks k 0) (get_or K k [])
