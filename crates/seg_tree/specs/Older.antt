-- How the trees of a table are made of one another.
use Rattle.std.specs.Prelude.{ℕ, ◌≡◌, ◌<◌, List, length, Option, Some, None}
use Rattle.seg_tree.specs.Trees.{Tree, branch, name_of}
use Rattle.seg_tree.specs.Table.{tree}

-- the number that names a tree
abbrev pub number_in : Option ℕ → ℕ
number_in None = 0
number_in (Some k) = k

abbrev pub number_of : Tree ℕ → ℕ
number_of t = number_in (name_of t)

-- the tree is that of an older node than k
pub record IsOlder (ts : List (Tree ℕ)) (k : ℕ) (t : Tree ℕ) : Type 0 where
  pub below : number_of t < k
  pub same : tree ts (number_of t) ≡ t

-- each node's tree has its place as its name, and the sides of a branch are trees of older nodes
pub record IsForest (ts : List (Tree ℕ)) : Type 0 where
  pub named : (k : ℕ) → k < length ts → name_of (tree ts k) ≡ Some k
  pub left : (k : ℕ) (n : Option ℕ) (l r : Tree ℕ) → k < length ts → tree ts k ≡ branch n l r → IsOlder ts k l
  pub right : (k : ℕ) (n : Option ℕ) (l r : Tree ℕ) → k < length ts → tree ts k ≡ branch n l r → IsOlder ts k r
