-- What is asked of a version: its segments, how many keep nothing, whether it is settled, and which segments are ready.
use Rattle.std.specs.Prelude.{ℕ, ◌≡◌, ◌<◌, length, Bool, true, false, cond, ◌&&◌, ◌||◌, not, is_none, List, [], ◌∷◌, ◌++◌, Option, Some, None}
use Rattle.std.specs.List.{list_any, list_all, count_by}
use Rattle.seg_tree.specs.Trees.{Tree, leaf, branch, name_of}
use Rattle.seg_tree.specs.Table.{tree, root_tree}
use Rattle.ps_versions.specs.Held.{Held, Version}
use Rattle.ps_versions.specs.Lookup.{root_of}
use Rattle.ps_versions.specs.Records.{record_at, ChildrenHaveSums}
use Rattle.ps_versions.specs.Walks.{has_name}
use Rattle.ps_versions.specs.declared.walks.Walk.{Walk}
use Rattle.ps_versions.specs.declared.walks.Walk.TheVariants.{Seeking, Looking, Found}

-- the segments of a tree, the sides of each before it
abbrev pub segments : Tree ℕ → List (Tree ℕ)
segments (leaf name items) = leaf name items ∷ []
segments (branch name left right) = segments left ++ (segments right ++ branch name left right ∷ [])

abbrev pub segments_maybe : Option (Tree ℕ) → List (Tree ℕ)
segments_maybe None = []
segments_maybe (Some t) = segments t

-- the segments below the root of a tree
abbrev pub below : Tree ℕ → List (Tree ℕ)
below (leaf name items) = []
below (branch name left right) = segments left ++ segments right

-- whether what is kept has a sum, and whether it passed a limit
abbrev pub is_sum : {R : Type 0} → (R → Bool) → Option (ℕ × R) → Bool
is_sum passed None = false
is_sum passed (Some r) = not (passed r.1)

abbrev pub is_passed : {R : Type 0} → (R → Bool) → Option (ℕ × R) → Bool
is_passed passed None = false
is_passed passed (Some r) = passed r.1

module _ {R : Type 0} (kept : List (Option (ℕ × R))) where
  -- what the segment keeps
  abbrev pub kept_by : Option ℕ → Option (ℕ × R)
  kept_by None = None
  kept_by (Some k) = record_at kept k

  -- the segment keeps nothing; a tree without a name is no segment
  abbrev pub lacks_by : Option ℕ → Bool
  lacks_by None = false
  lacks_by (Some k) = is_none (record_at kept k)

  abbrev pub lacks : Tree ℕ → Bool
  lacks t = lacks_by (name_of t)

  -- how many segments keep nothing
  abbrev pub missing_in : Option (Tree ℕ) → ℕ
  missing_in t = count_by lacks (segments_maybe t)

  module _ (passed : R → Bool) where
    abbrev pub has_sum : Tree ℕ → Bool
    has_sum t = is_sum passed (kept_by (name_of t))

    abbrev pub has_passed : Tree ℕ → Bool
    has_passed t = is_passed passed (kept_by (name_of t))

    -- all segments below the root of the tree have sums
    abbrev pub below_have_sums : Tree ℕ → Bool
    below_have_sums t = list_all has_sum (below t)

    -- there is no tree, or its root has a sum, or one of its segments passed a limit
    abbrev pub settled_in : Option (Tree ℕ) → Bool
    settled_in None = true
    settled_in (Some t) = has_sum t || list_any has_passed (segments t)

    -- both sides of a branch have sums
    abbrev pub sides_have_sums : Tree ℕ → Bool
    sides_have_sums (leaf name items) = true
    sides_have_sums (branch name left right) = has_sum left && has_sum right

    -- it keeps nothing, and its sides, where it has them, have sums
    abbrev pub is_ready : Tree ℕ → Bool
    is_ready t = lacks t && sides_have_sums t

-- the name of the first segment that passes a test
abbrev pub first_of : Bool → Option ℕ → Option ℕ → Option ℕ
first_of true (Some k) rest = Some k
first_of true None rest = rest
first_of false name rest = rest

abbrev pub first_named : (Tree ℕ → Bool) → List (Tree ℕ) → Option ℕ
first_named test [] = None
first_named test (t ∷ ts) = first_of (test t) (name_of t) (first_named test ts)

-- the segments behind one, or all of them
abbrev pub behind : Option ℕ → List (Tree ℕ) → List (Tree ℕ)
behind None ts = ts
behind (Some k) [] = []
behind (Some k) (t ∷ ts) = cond (has_name k (name_of t)) ts (behind (Some k) ts)

module _ {R : Type 0} where
  -- the missing number of a version, where it is there
  abbrev pub missing : Held R → Option Version → Option ℕ
  missing h None = None
  missing h (Some v) = Some (missing_in h.kept (root_tree h.nodes v.root))

  abbrev pub is_settled : (R → Bool) → Held R → Option Version → Bool
  is_settled passed h v = settled_in h.kept passed (root_tree h.nodes (root_of v))

  -- the first segment that is ready in the order of the segments, or the next one behind a segment
  abbrev pub ready_from : (R → Bool) → Held R → Option Version → Option ℕ → Option ℕ
  ready_from passed h v after = first_named (is_ready h.kept passed) (behind after (segments_maybe (root_tree h.nodes (root_of v))))

  -- the first segment at which a limit was passed
  abbrev pub first_passed : (R → Bool) → Held R → Option Version → Option ℕ
  first_passed passed h v = first_named (has_passed h.kept passed) (segments_maybe (root_tree h.nodes (root_of v)))

-- a node of the table that keeps nothing, and the sides of which, where it has them, keep sums: something may be stored at it
pub record IsStorable {R : Type 0} (passed : R → Bool) (h : Held R) (k : ℕ) : Type 0 where
  pub there : k < length h.nodes
  pub free : record_at h.kept k ≡ None
  pub ready : ChildrenHaveSums passed h.kept (tree h.nodes k)

-- what a walk has found is so
abbrev pub FindsStorable : {R : Type 0} → (R → Bool) → Held R → Walk → Type 0
FindsStorable passed h (Seeking k) = Unit {0}
FindsStorable passed h Looking = Unit {0}
FindsStorable passed h (Found k) = IsStorable passed h k
