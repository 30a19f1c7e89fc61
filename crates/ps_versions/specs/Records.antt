-- What nodes keep.
use Rattle.std.specs.Prelude.{ℕ, ◌≡◌, ◌≤◌, Bool, true, false, List, Option, Some, None, slice_index_or}
use Rattle.seg_tree.specs.Trees.{Tree, leaf, branch, name_of}
use Rattle.seg_tree.specs.Measures.{uses_maybe}
use Rattle.seg_tree.specs.Table.{root_tree, IsRoot}

module _ {R : Type 0} where
  -- what the node keeps, with the entry that stored it
  abbrev pub record_at : List (Option (ℕ × R)) → ℕ → Option (ℕ × R)
  record_at kept k = slice_index_or kept k None

  -- the node keeps something that is not passed
  abbrev pub HasSumIn : (R → Bool) → Option (ℕ × R) → Type 0
  HasSumIn passed None = ⊥
  HasSumIn passed (Some r) = passed r.1 ≡ false

  -- what is kept says that a limit was passed
  abbrev pub IsPassedIn : (R → Bool) → Option (ℕ × R) → Type 0
  IsPassedIn passed None = ⊥
  IsPassedIn passed (Some r) = passed r.1 ≡ true

  abbrev pub HasSumAt : (R → Bool) → List (Option (ℕ × R)) → Option ℕ → Type 0
  HasSumAt passed kept None = ⊥
  HasSumAt passed kept (Some k) = HasSumIn passed (record_at kept k)

  -- both sides of a branch keep something that is not passed
  abbrev pub ChildrenHaveSums : (R → Bool) → List (Option (ℕ × R)) → Tree ℕ → Type 0
  ChildrenHaveSums passed kept (leaf name items) = Unit {0}
  ChildrenHaveSums passed kept (branch name left right) = HasSumAt passed kept (name_of left) × HasSumAt passed kept (name_of right)

-- the root is in the table, and no node stands twice in its tree
pub record IsOnce (nodes : List (Tree ℕ)) (r : Option ℕ) : Type 0 where
  pub there : IsRoot nodes r
  pub once : (k : ℕ) → uses_maybe k (root_tree nodes r) ≤ 1
