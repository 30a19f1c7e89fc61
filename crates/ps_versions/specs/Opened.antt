-- What opening a circuit does.
use Rattle.std.specs.Prelude.{ℕ, ◌≡◌, ◌-◌, List, [], ◌∷◌, ◌++◌, Option, Some, None, length, replicate}
use Rattle.seg_tree.specs.Trees.{build, run_maybe}
use Rattle.seg_tree.specs.Table.{root_tree}
use Rattle.seg_tree.specs.Growth.{PlantsMaybe}
use Rattle.ps_versions.specs.Held.{Held, Version}
use Rattle.ps_versions.specs.Lookup.{version_at}

-- a version that nothing has befallen
abbrev pub fresh_version : Option ℕ → Version
fresh_version root = record { root = root; retired = None; ended = None; pins = 0 }

-- One circuit more, the first version of which has the items, and their built tree; its new nodes keep nothing.
pub record Opens {R : Type 0} (old new : Held R) (name : List ℕ) (qubits : ℕ) (items : List ℕ) (entry : ℕ) : Type 0 where
  pub root : Option ℕ
  pub run : run_maybe (root_tree new.nodes root) ≡ items
  pub planted : PlantsMaybe old.nodes new.nodes (build items) root
  pub circuits : new.circuits ≡ old.circuits ++ record { name = name; qubits = qubits; opened = entry; versions = fresh_version root ∷ [] } ∷ []
  pub version : version_at new.circuits name 1 ≡ Some (fresh_version root)
  pub kept : new.kept ≡ old.kept ++ replicate (length new.nodes - length old.nodes) None
