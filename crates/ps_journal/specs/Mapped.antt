-- A tree with other items in place of its own.
use Rattle.std.specs.Prelude.{ℕ, map, Option, Some, None}
use Rattle.seg_tree.specs.Trees.{Tree, leaf, branch}

module _ {A B : Type 0} (f : A → B) where
  abbrev pub mapped : Tree A → Tree B
  mapped (leaf name items) = leaf name (map f items)
  mapped (branch name left right) = branch name (mapped left) (mapped right)

  abbrev pub mapped_maybe : Option (Tree A) → Option (Tree B)
  mapped_maybe None = None
  mapped_maybe (Some t) = Some (mapped t)
