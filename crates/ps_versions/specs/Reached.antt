-- Which nodes are segments of a version, and which of them a kept version reaches.
use Rattle.std.specs.Prelude.{ℕ, ◌≡◌, Bool, ◌&&◌, true, List, Option, Some}
use Rattle.std.specs.List.{list_any}
use Rattle.seg_tree.specs.Trees.{Tree, name_of}
use Rattle.seg_tree.specs.Table.{root_tree}
use Rattle.ps_versions.specs.Held.{Held, Version, Circuit}
use Rattle.ps_versions.specs.Lookup.{root_of}
use Rattle.ps_versions.specs.Lives.{is_kept}
use Rattle.ps_versions.specs.Records.{record_at}
use Rattle.ps_versions.specs.Walks.{has_name}
use Rattle.ps_versions.specs.Questions.{segments_maybe}

-- a segment of the tree has this name
abbrev pub stands : ℕ → Option (Tree ℕ) → Bool
stands k t = list_any (λ s. has_name k (name_of s)) (segments_maybe t)

module _ {R : Type 0} where
  -- the node is a segment of the version
  abbrev pub is_segment : Held R → Option Version → ℕ → Bool
  is_segment h v k = stands k (root_tree h.nodes (root_of v))

  -- the node is a segment of a kept version
  abbrev pub is_reached : Held R → ℕ → Bool
  is_reached h k = list_any (λ (c : Circuit). list_any (λ (v : Version). is_kept v && is_segment h (Some v) k) c.versions) h.circuits

-- at each node that a kept version reaches, the record is what it was
pub record KeepsReached {R : Type 0} (old new : Held R) : Type 0 where
  pub same : (k : ℕ) → is_reached new k ≡ true → record_at new.kept k ≡ record_at old.kept k
