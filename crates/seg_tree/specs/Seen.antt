-- What a look at a node shows.
use Rattle.std.specs.Prelude.{ℕ, ◌≡◌, ◌<◌, ◌≤◌, List, length, Some}
use Rattle.seg_tree.specs.Trees.{Tree, leaf, branch, name_of}
use Rattle.seg_tree.specs.Table.{tree}
use Rattle.seg_tree.specs.declared.node.Seen.{Seen}
use Rattle.seg_tree.specs.declared.node.Seen.TheVariants as seen

-- the node's tree is this leaf of 1 to 8 items, or the branch of the trees of these two older nodes, which have
-- their places as their names
abbrev pub Shows : List (Tree ℕ) → ℕ → Seen → Type 0
Shows ts k (seen.Leaf items) = (tree ts k ≡ leaf (Some k) items.now) × (0 < length items.now) × (length items.now ≤ 8)
Shows ts k (seen.Branch left right) =
    (tree ts k ≡ branch (Some k) (tree ts left) (tree ts right)) × (left < k) × (right < k) × (name_of (tree ts left) ≡ Some left) × (name_of (tree ts right) ≡ Some right)
