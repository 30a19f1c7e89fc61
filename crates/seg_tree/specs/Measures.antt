-- What is counted in a tree, and when it is balanced.
use Rattle.std.specs.Prelude.{ℕ, ◌+◌, ◌≡◌, ◌<◌, ◌≤◌, cond, eqb, Option, Some, None, length}
use Rattle.seg_tree.specs.Trees.{Tree, leaf, branch, run, height}

-- the heights of two children differ by at most 1
abbrev pub IsBalanced : {A : Type 0} → Tree A → Type 0
IsBalanced (leaf name items) = Unit {0}
IsBalanced (branch name left right) = IsBalanced left × IsBalanced right × (height left ≤ height right + 1) × (height right ≤ height left + 1)

abbrev pub IsBalancedMaybe : {A : Type 0} → Option (Tree A) → Type 0
IsBalancedMaybe None = Unit {0}
IsBalancedMaybe (Some t) = IsBalanced t

abbrev pub height_maybe : {A : Type 0} → Option (Tree A) → ℕ
height_maybe None = 0
height_maybe (Some t) = height t

-- how many leaves there are
abbrev pub leaves : {A : Type 0} → Tree A → ℕ
leaves (leaf name items) = 1
leaves (branch name left right) = leaves left + leaves right

-- 1 for the name k
abbrev pub is_name : ℕ → Option ℕ → ℕ
is_name k None = 0
is_name k (Some n) = cond (eqb n k) 1 0

-- how often the node named k stands in the tree
abbrev pub uses : {A : Type 0} → ℕ → Tree A → ℕ
uses k (leaf name items) = is_name k name
uses k (branch name left right) = is_name k name + uses k left + uses k right

abbrev pub uses_maybe : {A : Type 0} → ℕ → Option (Tree A) → ℕ
uses_maybe k None = 0
uses_maybe k (Some t) = uses k t

-- how many nodes have no name, wherever they stand
abbrev pub fresh : {A : Type 0} → Tree A → ℕ
fresh (leaf None items) = 1
fresh (leaf (Some n) items) = 0
fresh (branch None l r) = fresh l + fresh r + 1
fresh (branch (Some n) l r) = fresh l + fresh r

abbrev pub fresh_maybe : {A : Type 0} → Option (Tree A) → ℕ
fresh_maybe None = 0
fresh_maybe (Some t) = fresh t

-- what holds of the tree of node k of a table
pub record IsWhole (k : ℕ) (t : Tree ℕ) : Type 0 where
  pub balanced : IsBalanced t
  pub short : length (run t) ≤ 65536
  pub filled : leaves t ≤ length (run t)
  pub known : fresh t ≡ 0
  pub below : (m : ℕ) → k < m → uses m t ≡ 0
