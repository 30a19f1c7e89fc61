-- How far a walk over the segments of a tree has come.
use Rattle.std.specs.Prelude.{ℕ, Bool, true, false, cond, eqb, List, [], ◌∷◌, Option, Some, None}
use Rattle.seg_tree.specs.Trees.{Tree, name_of}
use Rattle.ps_versions.specs.declared.walks.Walk.{Walk}
use Rattle.ps_versions.specs.declared.walks.Walk.TheVariants.{Seeking, Looking, Found}

-- the node has this name
abbrev pub has_name : ℕ → Option ℕ → Bool
has_name k None = false
has_name k (Some m) = eqb m k

-- a segment that is ready is found
abbrev pub found : Bool → Option ℕ → Walk
found true (Some k) = Found k
found true None = Looking
found false name = Looking

-- one segment further
abbrev pub visited : (Tree ℕ → Bool) → Walk → Tree ℕ → Walk
visited ready (Seeking k) t = cond (has_name k (name_of t)) Looking (Seeking k)
visited ready Looking t = found (ready t) (name_of t)
visited ready (Found k) t = Found k

-- over all of these segments
abbrev pub walked : (Tree ℕ → Bool) → Walk → List (Tree ℕ) → Walk
walked ready walk [] = walk
walked ready walk (t ∷ ts) = walked ready (visited ready walk t) ts

abbrev pub is_found : Walk → Bool
is_found (Seeking k) = false
is_found Looking = false
is_found (Found k) = true

-- where a walk begins: behind a segment, or at the first one
abbrev pub start : Option ℕ → Walk
start None = Looking
start (Some k) = Seeking k

-- what a walk has found
abbrev pub outcome : Walk → Option ℕ
outcome (Seeking k) = None
outcome Looking = None
outcome (Found k) = Some k
