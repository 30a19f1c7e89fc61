-- How a table grows, and where the nodes of a result come from.
use Rattle.std.specs.Prelude.{ℕ, ◌+◌, ◌≡◌, ◌<◌, ◌≤◌, ◌++◌, List, length, Option, Some, None}
use Rattle.seg_tree.specs.Trees.{Tree, made, named}
use Rattle.seg_tree.specs.Table.{tree, root_tree, IsRoot}

-- the old trees stand where they stood
pub record Keeps (old new : List (Tree ℕ)) : Type 0 where
  pub longer : length old ≤ length new
  pub same : (k : ℕ) → k < length old → tree new k ≡ tree old k

-- the new table is the old one with more nodes behind
pub record Extends (old new : List (Tree ℕ)) : Type 0 where
  pub more : List (Tree ℕ)
  pub is : new ≡ old ++ more

-- the new nodes of t are in the table, named in post-order from the first free place on, and its root is k
pub record Plants (old new : List (Tree ℕ)) (t : Tree ℕ) (k : ℕ) : Type 0 where
  pub kept : Keeps old new
  pub count : length new ≡ length old + made t
  pub within : k < length new
  pub at : tree new k ≡ named (length old) t

abbrev pub made_maybe : Option (Tree ℕ) → ℕ
made_maybe None = 0
made_maybe (Some t) = made t

abbrev pub named_maybe : ℕ → Option (Tree ℕ) → Option (Tree ℕ)
named_maybe n None = None
named_maybe n (Some t) = Some (named n t)

-- the same of a tree that may be empty: r is its root, where it has one
pub record PlantsMaybe (old new : List (Tree ℕ)) (t : Option (Tree ℕ)) (r : Option ℕ) : Type 0 where
  pub kept : Keeps old new
  pub count : length new ≡ length old + made_maybe t
  pub within : IsRoot new r
  pub at : root_tree new r ≡ named_maybe (length old) t

-- the same of two trees, the new nodes of the first before those of the second
pub record PlantsPair (old new : List (Tree ℕ)) (t : Option (Tree ℕ) × Option (Tree ℕ)) (r : Option ℕ × Option ℕ) : Type 0 where
  pub kept : Keeps old new
  pub count : length new ≡ length old + made_maybe t.0 + made_maybe t.1
  pub front_within : IsRoot new r.0
  pub back_within : IsRoot new r.1
  pub front : root_tree new r.0 ≡ named_maybe (length old) t.0
  pub back : root_tree new r.1 ≡ named_maybe (length old + made_maybe t.0) t.1

-- The nodes of a result are the new ones, from old up to new, each once, and nodes of what was given, each at most as often as it stood there.
-- The two functions say how often a name stands in what was given, and in the result.
pub record Passes (old new : ℕ) (given result : ℕ → ℕ) : Type 0 where
  pub old_ones : (k : ℕ) → k < old → result k ≤ given k
  pub new_ones : (k : ℕ) → old ≤ k → k < new → result k ≡ 1
  pub no_others : (k : ℕ) → new ≤ k → result k ≡ 0
