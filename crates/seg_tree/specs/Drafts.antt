-- The tree that a draft stands for over a table.
use Rattle.std.specs.Prelude.{ℕ, ◌+◌, ◌≡◌, ◌<◌, ◌≤◌, max, List, Option, Some, None, length}
use Rattle.seg_tree.specs.Trees.{Tree, leaf, branch, name_of, left_of, right_of, run, height}
use Rattle.seg_tree.specs.Table.{tree}
use Rattle.seg_tree.specs.declared.drafts.Slot.{Slot}
use Rattle.seg_tree.specs.declared.drafts.Slot.TheVariants as slot
use Rattle.seg_tree.specs.declared.drafts.Draft.{Draft, Old, Leaf, Branch'}
use Rattle.seg_tree.specs.declared.drafts.Opened.{Opened}
use Rattle.seg_tree.specs.declared.drafts.Opened.TheVariants as opened

abbrev pub draft_tree : List (Tree ℕ) → Draft → Tree ℕ
draft_tree ts (Old k) = tree ts k
draft_tree ts (Leaf items) = leaf None items.items
draft_tree ts (Branch' p left q right len high) = branch None (draft_tree ts left) (draft_tree ts right)

-- what the draft says of itself is so
abbrev pub IsGood : List (Tree ℕ) → Draft → Type 0
IsGood ts (Old k) = (k < length ts) × (name_of (tree ts k) ≡ Some k)
IsGood ts (Leaf items) = (0 < length items.items) × (length items.items ≤ 8)
IsGood ts (Branch' p left q right len high) =
    IsGood ts left × IsGood ts right
    × (len ≡ length (run (draft_tree ts left)) + length (run (draft_tree ts right)))
    × (high ≡ max (height (draft_tree ts left)) (height (draft_tree ts right)) + 1)
    × (high < len)

-- the draft is of this tree, and what it says of itself is so
abbrev pub IsDraft : List (Tree ℕ) → Tree ℕ → Draft → Type 0
IsDraft ts t draft = (draft_tree ts draft ≡ t) × IsGood ts draft

abbrev pub maybe_tree : List (Tree ℕ) → Option Draft → Option (Tree ℕ)
maybe_tree ts None = None
maybe_tree ts (Some draft) = Some (draft_tree ts draft)

abbrev pub IsGoodMaybe : List (Tree ℕ) → Option Draft → Type 0
IsGoodMaybe ts None = Unit {0}
IsGoodMaybe ts (Some draft) = IsGood ts draft

abbrev pub IsMaybe : List (Tree ℕ) → Option (Tree ℕ) → Option Draft → Type 0
IsMaybe ts t draft = (maybe_tree ts draft ≡ t) × IsGoodMaybe ts draft

abbrev pub ArePair : List (Tree ℕ) → Option (Tree ℕ) × Option (Tree ℕ) → Option Draft × Option Draft → Type 0
ArePair ts t p = IsMaybe ts t.0 p.0 × IsMaybe ts t.1 p.1

-- the same tree, and its sides where it has them
abbrev pub OpensTo : List (Tree ℕ) → Tree ℕ → Opened → Type 0
OpensTo ts t (opened.Leaf draft) = (draft_tree ts draft ≡ t) × IsGood ts draft × (height t ≡ 0) × (length (run t) ≤ 8)
OpensTo ts t (opened.Branch left right) = (draft_tree ts left ≡ left_of t) × (draft_tree ts right ≡ right_of t) × (0 < height t) × IsGood ts left × IsGood ts right

-- what a node of the table says is so of its tree
abbrev pub Describes : List (Tree ℕ) → ℕ → Slot → Type 0
Describes ts k (slot.Leaf items) = (tree ts k ≡ leaf (Some k) items.items) × (0 < length items.items) × (length items.items ≤ 8)
Describes ts k (slot.Branch left right len high) =
    (tree ts k ≡ branch (Some k) (tree ts left) (tree ts right))
    × (left < k) × (right < k)
    × (len ≡ length (run (tree ts left)) + length (run (tree ts right)))
    × (high ≡ max (height (tree ts left)) (height (tree ts right)) + 1)
    × (height (tree ts left) ≤ height (tree ts right) + 1)
    × (height (tree ts right) ≤ height (tree ts left) + 1)
    × (high < len)
    × (len ≤ 65536)
    × (name_of (tree ts left) ≡ Some left)
    × (name_of (tree ts right) ≡ Some right)

-- how many nodes the draft has of its own
abbrev pub weight : Draft → ℕ
weight (Old k) = 0
weight (Leaf items) = 1
weight (Branch' p left q right len high) = weight left + weight right + 1
