-- What is seen of the fields.
use Rattle.std.specs.Prelude.{ℕ, ◌≡◌, ◌<◌, ◌≤◌, ◌-◌, ◌^◌, Bool, true, List, [], ◌∷◌, Option, Some, None, length, slice_get, is_some}
use Rattle.std.specs.List.{count_by}
use Rattle.seg_tree.specs.Trees.{Tree}
use Rattle.seg_tree.specs.Table.{tree}
use Rattle.ps_versions.specs.Held.{Held, Version, Circuit}
use Rattle.ps_versions.specs.Lives.{IsLife}
use Rattle.ps_versions.specs.Records.{record_at, IsOnce}
use Rattle.ps_versions.specs.Questions.{is_passed, below_have_sums}
use Rattle.ps_versions.specs.declared.data.Edition.{Edition}
use Rattle.ps_versions.specs.declared.data.Course.{Course}
use Rattle.ps_versions.specs.declared.data.Stored.{Stored}
use Rattle.ps_versions.specs.declared.versions.Versions.TheInside.{Inside}

abbrev pub version_of : Edition → Version
version_of e = record { root = e.root; retired = e.retired; ended = e.ended; pins = e.pins }

abbrev pub versions_of : List Edition → List Version
versions_of [] = []
versions_of (e ∷ es) = version_of e ∷ versions_of es

abbrev pub circuit_of : List ℕ → Course → Circuit
circuit_of name c = record { name = name; qubits = c.qubits; opened = c.opened; versions = versions_of c.editions.items }

abbrev pub circuits_of : List (List ℕ) → List Course → List Circuit
circuits_of (n ∷ ns) (c ∷ cs) = circuit_of n c ∷ circuits_of ns cs
circuits_of ns cs = []

-- the last version is live
abbrev pub EndsLive : List Edition → Type 0
EndsLive es = (e : Edition) → slice_get es (length es - 1) ≡ Some e → e.retired ≡ None

module _ {R : Type 0} where
  abbrev pub kept_of : List (Option (Stored R)) → List (Option (ℕ × R))
  kept_of [] = []
  kept_of (None ∷ rs) = None ∷ kept_of rs
  kept_of (Some r ∷ rs) = Some (r.entry, r.kept) ∷ kept_of rs

  abbrev pub seen : Inside R → Held R
  seen a = record { circuits = circuits_of a.names.keys a.courses.items; nodes = a.nodes; kept = kept_of a.records.items }

  -- where something is kept, the segments below have sums
  abbrev pub IsFilled : (R → Bool) → List (Tree ℕ) → List (Option (ℕ × R)) → Type 0
  IsFilled passed nodes kept = (k : ℕ) → is_some (record_at kept k) ≡ true → below_have_sums kept passed (tree nodes k) ≡ true

  pub record IsSound (passed : R → Bool) (a : Inside R) : Type 0 where
    pub named : length a.names.keys ≡ length a.courses.items
    pub recorded : length a.records.items ≡ length a.nodes
    pub numbered : (i : ℕ) (c : Course) → slice_get a.courses.items i ≡ Some c → length c.editions.items < 2 ^ 32
    pub once : (i j : ℕ) (c : Course) (e : Edition) → slice_get a.courses.items i ≡ Some c → slice_get c.editions.items j ≡ Some e → IsOnce a.nodes e.root
    pub lives : (i j : ℕ) (c : Course) (e : Edition) → slice_get a.courses.items i ≡ Some c → slice_get c.editions.items j ≡ Some e → IsLife (version_of e)
    pub few : length a.courses.items ≤ 256
    pub begun : (i : ℕ) (c : Course) → slice_get a.courses.items i ≡ Some c → 0 < length c.editions.items
    pub live : (i : ℕ) (c : Course) → slice_get a.courses.items i ≡ Some c → EndsLive c.editions.items
    pub filled : IsFilled passed a.nodes (kept_of a.records.items)
    pub counted : a.passed ≡ count_by (is_passed passed) (kept_of a.records.items)
