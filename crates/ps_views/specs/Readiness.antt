-- A ready segment of a version of the tables.
use Rattle.std.specs.Prelude.{ℕ, ◌≡◌, ◌<◌, length, true, Some}
use Rattle.seg_tree.specs.Table.{tree}
use Rattle.ps_versions.specs.Held.{Version}
use Rattle.ps_versions.specs.Lives.{is_kept}
use Rattle.ps_versions.specs.Questions.{is_ready}
use Rattle.ps_versions.specs.Reached.{is_segment}
use Rattle.ps_versions.specs.declared.data.Ready.{Ready}
use Rattle.ps_views.specs.Fields.{Fields, held_at, passed}

-- the node is a segment of the version at the place, which is kept; it keeps nothing, and its sides, where it has them, have sums
pub record IsReadyAt (f : Fields) (r : Ready) : Type 0 where
  pub version : Version
  pub held : held_at f.versions r.place ≡ Some version
  pub kept : is_kept version ≡ true
  pub there : r.node < length f.versions.nodes
  pub segment : is_segment f.versions (Some version) r.node ≡ true
  pub ready : is_ready f.versions.kept passed (tree f.versions.nodes r.node) ≡ true
