-- The segments of a version, and what is known of them: missing, ready, settled.
use Rattle.std.specs.Prelude.{ℕ, ◌+◌, Bool, true, false, cond, not, ◌&&◌, ◌||◌, eqb, is_none, List, [], ◌∷◌, ◌++◌, Option, Some, None, count_by}
use Rattle.std.specs.List.{list_any, find}
use Rattle.seg_tree.specs.Trees.{Tree, leaf, branch, name_of, named, made}
use Rattle.ps_reach.specs.declared.record.Record.{Record}
use Rattle.ps_reach.specs.declared.evidence.Body.{Body}
use Rattle.ps_reach.specs.declared.evidence.Body.TheVariants.{Sum, Passed}
use Rattle.ps_journal.specs.State.{Item, Published}

-- the segments of a tree, the two sides of each before it
abbrev pub segments : {A : Type 0} → Tree A → List (Tree A)
segments (leaf name items) = leaf name items ∷ []
segments (branch name left right) = segments left ++ (segments right ++ branch name left right ∷ [])

abbrev pub segments_of : {A : Type 0} → Option (Tree A) → List (Tree A)
segments_of None = []
segments_of (Some s) = segments s

-- ---- new trees
-- the nodes of a tree that have no name get the names from n on, the two sides of each before it
abbrev pub with_names : {A : Type 0} → ℕ → Option (Tree A) → Option (Tree A)
with_names n None = None
with_names n (Some s) = Some (named n s)

-- how many they are
abbrev pub new_names : {A : Type 0} → Option (Tree A) → ℕ
new_names None = 0
new_names (Some s) = made s

-- ---- what was published
abbrev pub has_passed_limit : Body → Bool
has_passed_limit (Sum s) = false
has_passed_limit (Passed e) = true

-- a record has a sum, or tells that a limit was passed
abbrev pub is_passed : Record → Bool
is_passed r = has_passed_limit r.body

abbrev pub with_sum : Option Published → Bool
with_sum None = false
with_sum (Some p) = not (is_passed p.kept)

abbrev pub with_limit : Option Published → Bool
with_limit None = false
with_limit (Some p) = is_passed p.kept

module _ (published : List Published) where
  -- what was published for the segment of a name
  abbrev pub published_at : ℕ → Option Published
  published_at k = find (λ p. eqb p.segment k) published

  abbrev pub published_named : Option ℕ → Option Published
  published_named None = None
  published_named (Some k) = published_at k

  abbrev pub published_for : Tree Item → Option Published
  published_for s = published_named (name_of s)

  abbrev pub lacks : Tree Item → Bool
  lacks s = is_none (published_for s)

  abbrev pub has_sum : Tree Item → Bool
  has_sum s = with_sum (published_for s)

  abbrev pub has_passed : Tree Item → Bool
  has_passed s = with_limit (published_for s)

  -- ---- what is asked of a version's tree
  -- how many of its segments have no record
  abbrev pub missing : Option (Tree Item) → ℕ
  missing tree = count_by lacks (segments_of tree)

  -- it has no segment, or its root has a sum, or a limit was passed at one of its segments
  abbrev pub is_settled : Option (Tree Item) → Bool
  is_settled None = true
  is_settled (Some s) = has_sum s || list_any has_passed (segments s)

  -- the segment has no record, and it is a leaf or both its sides have sums
  abbrev pub is_ready : Tree Item → Bool
  is_ready (leaf name items) = lacks (leaf name items)
  is_ready (branch name left right) = lacks (branch name left right) && (has_sum left && has_sum right)
