-- What the shapes of built and joined trees come to.
use Rattle.std.specs.Prelude.{ℕ, ◌+◌, ◌≡◌, ◌<◌, ◌≤◌, ◌⊎◌, List, take, drop, ◌++◌, length, Some, None}
use Rattle.seg_tree.specs.Trees.{Tree, leaf, left_of, right_of, run, height, fork, balance, join, build, front_size}

-- Two trees joined. Two leaves with at most 8 items together become one leaf; heights that differ by at most 1 give a branch;
-- and otherwise the join goes down the near side of the higher tree, which is then balanced.
pub record IsJoin (a b : Tree ℕ) : Type 0 where
  pub small : height a ≡ 0 → height b ≡ 0 → length (run a) + length (run b) ≤ 8 → join a b ≡ leaf None (run a ++ run b)
  pub even : height a ≤ height b + 1 → height b ≤ height a + 1 → (0 < height a + height b) ⊎ (8 < length (run a) + length (run b)) → join a b ≡ fork a b
  pub right : height b + 1 < height a → join a b ≡ balance (left_of a) (join (right_of a) b)
  pub left : height a + 1 < height b → join a b ≡ balance (join a (left_of b)) (right_of b)

-- a tree of items: up to 8 are one leaf, and of c leaves of 8 the left side has the first (c + 1) / 2
pub record IsBuild (items : List ℕ) : Type 0 where
  pub few : 0 < length items → length items ≤ 8 → build items ≡ Some (leaf None items)
  pub many : 8 < length items → (l r : Tree ℕ) → build (take (front_size (length items)) items) ≡ Some l → build (drop (front_size (length items)) items) ≡ Some r → build items ≡ Some (fork l r)
