-- The circuits that the fields of the service stand for.
use Rattle.std.specs.Prelude.{ℕ, ◌≡◌, List, [], ◌∷◌, map, Option, Some, None, slice_index_or}
use Rattle.std.specs.declared.sync.Arc.{Arc}
use Rattle.std.specs.declared.alloc.Global.{Global}
use Rattle.seg_tree.specs.Trees.{Tree, run, run_maybe}
use Rattle.seg_tree.specs.Table.{tree, root_tree}
use Rattle.qasm_expand.specs.declared.tables.Table.{Table}
use Rattle.qasm_expand.specs.Circuits.{TableOf}
use Rattle.qasm_expand.specs.Reading.{table_in}
use Rattle.ps_prim.specs.declared.items.Item.{Item as AnItem}
use Rattle.ps_reach.specs.Runs.{prims_of}
use Rattle.ps_versions.specs.Held as held
use Rattle.ps_journal.specs.Mapped.{mapped_maybe}
use Rattle.ps_journal.specs.State.{Item, Version, Circuit, Published}
use Rattle.ps_views.specs.declared.filed.Filed.{Filed}

-- the items and the gate tables, without what shares them
abbrev pub items_in : List (Arc AnItem Global) → List Item
items_in items = map prims_of items

abbrev pub tables_in : List (Arc Table Global) → List TableOf
tables_in tables = map (λ a. table_in a.value) tables

-- the item of a number
abbrev pub item_at : List Item → ℕ → Item
item_at items k = slice_index_or items k []

module _ (items : List Item) where
  -- the items of these numbers, and those of a node's tree
  abbrev pub run_of_leaf : List ℕ → List Item
  run_of_leaf numbers = map (item_at items) numbers

  abbrev pub run_at : List (Tree ℕ) → ℕ → List Item
  run_at nodes k = run_of_leaf (run (tree nodes k))

  -- the tree of a root, with items in place of their numbers
  abbrev pub tree_of : List (Tree ℕ) → Option ℕ → Option (Tree Item)
  tree_of nodes root = mapped_maybe (item_at items) (root_tree nodes root)

  abbrev pub version_of : List (Tree ℕ) → held.Version → Version
  version_of nodes v = record { items = run_maybe (tree_of nodes v.root); tree = tree_of nodes v.root; retired = v.retired; ended = v.ended }

  abbrev pub circuit_of : List (Tree ℕ) → TableOf → held.Circuit → Circuit
  circuit_of nodes table c = record { name = c.name; opened = c.opened; qubits = c.qubits; table = table; versions = map (version_of nodes) c.versions }

  -- each circuit has its gate table
  abbrev pub circuits_of : List (Tree ℕ) → List TableOf → List held.Circuit → List Circuit
  circuits_of nodes [] cs = []
  circuits_of nodes (table ∷ tables) [] = []
  circuits_of nodes (table ∷ tables) (c ∷ cs) = circuit_of nodes table c ∷ circuits_of nodes tables cs

-- what a node keeps, as it was published
abbrev pub published_of : ℕ → Option (ℕ × Filed) → Option Published
published_of k None = None
published_of k (Some r) = Some (record { segment = k; entry = r.0; kept = r.1.shared.value })
