-- What a splice does.
use Rattle.std.specs.Prelude.{ℕ, ◌≡◌, ◌≤◌, ◌+◌, ◌-◌, ◌*◌, max, List, [], ◌∷◌, ◌++◌, take, drop, Option, Some, None, length, replicate}
use Rattle.seg_tree.specs.Trees.{Tree, build, splice, run_maybe}
use Rattle.seg_tree.specs.Measures.{height_maybe}
use Rattle.seg_tree.specs.Table.{root_tree}
use Rattle.seg_tree.specs.Growth.{PlantsMaybe}
use Rattle.ps_versions.specs.Held.{Held, Version, Circuit}
use Rattle.ps_versions.specs.Lookup.{circuit_in, place_of, version_in, version_at, root_of, change_at}
use Rattle.ps_versions.specs.Opened.{fresh_version}
use Rattle.ps_versions.specs.Questions.{missing_in}

-- the number of a circuit's latest version, and the root of that version's tree
abbrev pub latest_of : Option Circuit → ℕ
latest_of None = 0
latest_of (Some c) = length c.versions

abbrev pub latest_root : Option Circuit → Option ℕ
latest_root None = None
latest_root (Some c) = root_of (version_in (Some c) (length c.versions))

-- the circuit with more versions
abbrev pub with_more : List Version → Circuit → Circuit
with_more vs c = record c { versions = c.versions ++ vs }

abbrev pub more_in : List Circuit → Option ℕ → List Version → List Circuit
more_in cs None vs = cs
more_in cs (Some i) vs = change_at cs i (with_more vs)

-- the tree of the latest version of the circuit at a place among the circuits
abbrev pub latest_tree : {R : Type 0} → Held R → Option ℕ → Option (Tree ℕ)
latest_tree h at = root_tree h.nodes (latest_root (circuit_in h.circuits at))

-- The circuit has one version more. Its items are those of the version before with the range replaced, and its tree is the spliced tree of that version; its new nodes keep nothing.
-- H is the greater height of the tree of the version before and of the tree built of the items. The missing number of the new version is at most
-- that of the version before, and 64 * (H + 1), and 2 for each item.
pub record SplicesAt {R : Type 0} (old new : Held R) (at : Option ℕ) (from to : ℕ) (items : List ℕ) (number : ℕ) : Type 0 where
  pub root : Option ℕ
  pub run : run_maybe (root_tree new.nodes root) ≡ take from (run_maybe (latest_tree old at)) ++ items ++ drop to (run_maybe (latest_tree old at))
  pub planted : PlantsMaybe old.nodes new.nodes (splice (latest_tree old at) from to items) root
  pub circuits : new.circuits ≡ more_in old.circuits at (fresh_version root ∷ [])
  pub kept : new.kept ≡ old.kept ++ replicate (length new.nodes - length old.nodes) None
  pub numbered : number ≡ latest_of (circuit_in old.circuits at) + 1
  pub bound : missing_in new.kept (root_tree new.nodes root) ≤ missing_in old.kept (latest_tree old at) + 64 * (max (height_maybe (latest_tree old at)) (height_maybe (build items)) + 1) + 2 * length items

-- the same of the circuit of a name, where the new version is found by its number
pub record Splices {R : Type 0} (old new : Held R) (name : List ℕ) (from to : ℕ) (items : List ℕ) (number : ℕ) : Type 0 where
  pub at : SplicesAt old new (place_of old.circuits name) from to items number
  pub version : version_at new.circuits name number ≡ Some (fresh_version at.root)
