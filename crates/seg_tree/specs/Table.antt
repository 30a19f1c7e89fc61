-- The trees that a table of nodes stands for. Each node's name is its place in the table.
use Rattle.std.specs.Prelude.{ℕ, ◌+◌, ◌≡◌, ◌<◌, ◌≤◌, max, List, [], ◌∷◌, ◌++◌, length, slice_get, slice_index_or, Option, Some, None}
use Rattle.seg_tree.specs.Trees.{Tree, leaf, branch, nothing, run, height}
use Rattle.seg_tree.specs.Measures.{IsWhole}
use Rattle.seg_tree.specs.declared.drafts.Slot.{Slot}
use Rattle.seg_tree.specs.declared.drafts.Slot.TheVariants.{Leaf, Branch}

-- the tree of node k
abbrev pub tree : List (Tree ℕ) → ℕ → Tree ℕ
tree trees k = slice_index_or trees k nothing

-- the tree of a root, where there is one
abbrev pub root_tree : List (Tree ℕ) → Option ℕ → Option (Tree ℕ)
root_tree trees None = None
root_tree trees (Some k) = Some (tree trees k)

-- the root is a node of the table, where there is one
abbrev pub IsRoot : List (Tree ℕ) → Option ℕ → Type 0
IsRoot trees None = Unit {0}
IsRoot trees (Some k) = k < length trees

abbrev pub IsWholeRoot : List (Tree ℕ) → Option ℕ → Type 0
IsWholeRoot trees None = Unit {0}
IsWholeRoot trees (Some k) = IsWhole k (tree trees k)

-- the tree of one more node
abbrev pub planted : List (Tree ℕ) → Slot → Tree ℕ
planted trees (Leaf items) = leaf (Some (length trees)) items.items
planted trees (Branch left right len high) = branch (Some (length trees)) (tree trees left) (tree trees right)

abbrev pub grown : List (Tree ℕ) → List Slot → List (Tree ℕ)
grown trees [] = trees
grown trees (slot ∷ slots) = grown (trees ++ planted trees slot ∷ []) slots

-- the tree of each node, in order
unfoldable pub forest : List Slot → List (Tree ℕ)
forest slots = grown [] slots

-- the slot may stand at place k
abbrev pub Stands : List (Tree ℕ) → ℕ → Slot → Type 0
Stands trees k (Leaf items) = (0 < length items.items) × (length items.items ≤ 8)
Stands trees k (Branch left right len high) =
    (left < k) × (right < k)
    × (len ≡ length (run (tree trees left)) + length (run (tree trees right)))
    × (high ≡ max (height (tree trees left)) (height (tree trees right)) + 1)
    × (height (tree trees left) ≤ height (tree trees right) + 1)
    × (height (tree trees right) ≤ height (tree trees left) + 1)
    × (high < len)
    × (len ≤ 65536)

pub record IsSound (slots : List Slot) : Type 0 where
  pub each : (k : ℕ) (s : Slot) → slice_get slots k ≡ Some s → Stands (forest slots) k s
