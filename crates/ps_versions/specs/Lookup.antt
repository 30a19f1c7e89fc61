-- Looking up circuits and versions.
use Rattle.std.specs.Prelude.{ℕ, zero, suc, ◌-◌, nat_eq, List, [], ◌∷◌, map, position, Option, Some, None, slice_get}
use Rattle.std.specs.Cmp.Lexicographic.{pointwise}
use Rattle.ps_versions.specs.Held.{Version, Circuit}

abbrev pub names_of : List Circuit → List (List ℕ)
names_of cs = map (λ c. c.name) cs

-- where the circuit of this name stands
unfoldable pub place_of : List Circuit → List ℕ → Option ℕ
place_of cs name = position (pointwise nat_eq name) (names_of cs)

abbrev pub circuit_in : List Circuit → Option ℕ → Option Circuit
circuit_in cs None = None
circuit_in cs (Some i) = slice_get cs i

-- the circuit of this name
abbrev pub circuit_at : List Circuit → List ℕ → Option Circuit
circuit_at cs name = circuit_in cs (place_of cs name)

-- the version of this number, from 1
abbrev pub version_in : Option Circuit → ℕ → Option Version
version_in None number = None
version_in (Some c) zero = None
version_in (Some c) (suc k) = slice_get c.versions k

abbrev pub version_at : List Circuit → List ℕ → ℕ → Option Version
version_at cs name number = version_in (circuit_at cs name) number

-- the root of a version's tree
abbrev pub root_of : Option Version → Option ℕ
root_of None = None
root_of (Some v) = v.root

-- the item at a place changed
abbrev pub change_at : {A : Type 0} → List A → ℕ → (A → A) → List A
change_at [] i f = []
change_at (x ∷ xs) zero f = f x ∷ xs
change_at (x ∷ xs) (suc i) f = x ∷ change_at xs i f

abbrev pub with_version : ℕ → Version → Circuit → Circuit
with_version number v c = record c { versions = change_at c.versions (number - 1) (λ _. v) }

abbrev pub replaced_in : List Circuit → Option ℕ → ℕ → Version → List Circuit
replaced_in cs None number v = cs
replaced_in cs (Some i) number v = change_at cs i (with_version number v)

-- the version of this number, from 1, of the circuit of this name replaced
abbrev pub replaced : List Circuit → List ℕ → ℕ → Version → List Circuit
replaced cs name number v = replaced_in cs (place_of cs name) number v
