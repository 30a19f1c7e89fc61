-- The items of the version at a place.
use Rattle.std.specs.Prelude.{ℕ, List}
use Rattle.seg_tree.specs.Trees.{run_maybe}
use Rattle.seg_tree.specs.Table.{root_tree}
use Rattle.ps_script.specs.declared.name.Place.{Place}
use Rattle.ps_versions.specs.Lookup.{root_of}
use Rattle.ps_journal.specs.State.{Item}
use Rattle.ps_views.specs.Views.{run_of_leaf}
use Rattle.ps_views.specs.Fields.{Fields, held_at}
use Rattle.ps_views.specs.Living.{LivesAt}

abbrev pub contents_at : Fields → Place → List Item
contents_at f p = run_of_leaf f.items (run_maybe (root_tree f.versions.nodes (root_of (held_at f.versions p))))

-- a live version is at the place
pub record IsLiveHere (f : Fields) (p : Place) : Type 0 where
  pub qubits : ℕ
  pub lives : LivesAt f p qubits
