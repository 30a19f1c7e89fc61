-- Which segments have these items.
use Rattle.std.specs.Prelude.{ℕ, ◌≡◌, List, Contains}
use Rattle.seg_tree.specs.Trees.{Tree, run}
use Rattle.ps_versions.specs.Questions.{segments}
use Rattle.ps_journal.specs.State.{Item}
use Rattle.ps_views.specs.Views.{run_of_leaf}

-- a segment of the tree has these items
pub record HasRun (items : List Item) (t : Tree ℕ) (those : List Item) : Type 0 where
  pub segment : Tree ℕ
  pub within : Contains (segments t) segment
  pub same : those ≡ run_of_leaf items (run segment)
