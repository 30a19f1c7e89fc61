-- How many segments of a tree have no record, where a splice makes a tree of it.
use Rattle.std.proofs.Common.{◌≡◌, ◌+◌, ◌-◌, ◌*◌, ◌<◌, ◌≤◌, ℕ, zero, suc, max, Bool, true, false, cond, List, [], ◌∷◌, ◌++◌, length, take, drop, refl, ap, ◌∙◌, arith}
use Rattle.std.specs.Prelude.{Option, Some, None, is_none, count_by}
use Rattle.std.proofs.lemmas.Bool.Decides.{nat_tests}
use Rattle.std.proofs.lemmas.List.Sums.{sum_by-append}
use Rattle.seg_tree.specs.Trees.{Tree, leaf, branch, left_of, right_of, run, run_maybe, height, rotate_left, rotate_right, balance, adjoin, graft_right, graft_left, join, concat, split, split_maybe, front_size, built, build, splice, made, named}
use Rattle.seg_tree.specs.Measures.{fresh, fresh_maybe, height_maybe, IsBalancedMaybe}
use Rattle.seg_tree.proofs.Fresh.{fresh-splice}
use Rattle.seg_tree.proofs.Built.{balanced-build, fresh-build}
use Rattle.ps_journal.specs.State.{Item, Published}
use Rattle.ps_journal.specs.Segments.{segments, with_names, published_at, lacks, missing}
use Rattle.ps_history.proofs.Lists.{count_step}

-- ---- the names of a tree weighed
module _ (w : ℕ → ℕ) where
  abbrev of_name : Option ℕ → ℕ
  of_name None = 0
  of_name (Some k) = w k

  abbrev pub weight : Tree Item → ℕ
  weight (leaf name items) = of_name name
  weight (branch name l r) = of_name name + weight l + weight r

  abbrev pub weight_maybe : Option (Tree Item) → ℕ
  weight_maybe None = 0
  weight_maybe (Some t) = weight t

  -- what is made of trees weighs no more than they
  weight_sides : (t : Tree Item) → 0 < height t → weight (left_of t) + weight (right_of t) ≤ weight t
  weight_sides (leaf n xs) h = absurd (omega arith)
  weight_sides (branch n l r) h = omega arith

  weight-rotate_left : (l m r : Tree Item) → weight (rotate_left l m r) ≤ weight l + weight m + weight r
  unfolding rotate_left
  weight-rotate_left l m r = grind (arith, nat_tests, weight_sides m)

  weight-rotate_right : (l m r : Tree Item) → weight (rotate_right l m r) ≤ weight l + weight m + weight r
  unfolding rotate_right
  weight-rotate_right l m r = grind (arith, nat_tests, weight_sides m)

  weight-balance : (l r : Tree Item) → weight (balance l r) ≤ weight l + weight r
  unfolding balance
  weight-balance l r =
      grind (arith, nat_tests, weight_sides l, weight_sides r, weight-rotate_left l (left_of r) (right_of r), weight-rotate_right (left_of l) (right_of l) r)

  weight-adjoin : (a b : Tree Item) → weight (adjoin a b) ≤ weight a + weight b
  unfolding adjoin
  weight-adjoin a b = grind (arith, nat_tests)

  weight-graft_right : (a b : Tree Item) → weight (graft_right a b) ≤ weight a + weight b
  unfolding graft_right
  weight-graft_right (leaf n xs) b = weight-adjoin (leaf n xs) b
  weight-graft_right (branch n l r) b =
      grind (arith, nat_tests, weight-balance l (graft_right r b), weight-graft_right r b, weight-adjoin (branch n l r) b)

  weight-graft_left : (a b : Tree Item) → weight (graft_left a b) ≤ weight a + weight b
  unfolding graft_left
  weight-graft_left a (leaf n ys) = weight-adjoin a (leaf n ys)
  weight-graft_left a (branch n l r) =
      grind (arith, nat_tests, weight-balance (graft_left a l) r, weight-graft_left a l, weight-adjoin a (branch n l r))

  weight-join : (a b : Tree Item) → weight (join a b) ≤ weight a + weight b
  unfolding join
  weight-join a b = grind (arith, nat_tests, weight-graft_right a b, weight-graft_left a b)

  weight-concat : (a b : Option (Tree Item)) → weight_maybe (concat a b) ≤ weight_maybe a + weight_maybe b
  unfolding concat
  weight-concat None b = omega arith
  weight-concat (Some a) None = omega arith
  weight-concat (Some a) (Some b) = weight-join a b

  weight-split : (t : Tree Item) (at : ℕ) → weight_maybe (split t at).0 + weight_maybe (split t at).1 ≤ weight t
  unfolding split
  weight-split (leaf n xs) at = grind (arith, nat_tests)
  weight-split (branch n l r) at =
      grind (
        arith,
        nat_tests,
        weight-split l at,
        weight-split r (at - length (run l)),
        weight-concat (split l at).1 (Some r),
        weight-concat (Some l) (split r (at - length (run l))).0,
      )

  weight-split_maybe : (t : Option (Tree Item)) (at : ℕ) → weight_maybe (split_maybe t at).0 + weight_maybe (split_maybe t at).1 ≤ weight_maybe t
  weight-split_maybe None at = omega arith
  weight-split_maybe (Some t) at = weight-split t at

  weight-built : (f : ℕ) (xs : List Item) → weight (built f xs) ≡ 0
  weight-built zero xs = refl
  weight-built (suc f) xs =
      grind (arith, nat_tests, weight-built f (take (front_size (length xs)) xs), weight-built f (drop (front_size (length xs)) xs))

  weight-build : (xs : List Item) → weight_maybe (build xs) ≡ 0
  unfolding build
  weight-build [] = refl
  weight-build (x ∷ xs) = weight-built (length (x ∷ xs)) (x ∷ xs)

  pub weight-splice : (t : Option (Tree Item)) (from to : ℕ) (items : List Item) → weight_maybe (splice t from to items) ≤ weight_maybe t
  unfolding splice
  weight-splice t from to items = omega (
    arith,
    weight-split_maybe t from,
    weight-split_maybe (split_maybe t from).1 (to - from),
    weight-build items,
    weight-concat (split_maybe t from).0 (build items),
    weight-concat (concat (split_maybe t from).0 (build items)) (split_maybe (split_maybe t from).1 (to - from)).1,
  )

-- ---- segments without a record
module _ (ps : List Published) where
  -- 1 for a name that nothing was published for
  abbrev lacking : ℕ → ℕ
  lacking k = cond (is_none (published_at ps k)) 1 0

  abbrev count : Tree Item → ℕ
  count t = count_by (lacks ps) (segments t)

  count_leaf : (name : Option ℕ) (items : List Item) → count (leaf name items) ≡ cond (lacks ps (leaf name items)) 1 0
  count_leaf name items = omega (arith, count_step (lacks ps) (leaf name items) [])

  count_branch : (name : Option ℕ) (l r : Tree Item) → count (branch name l r) ≡ count l + count r + cond (lacks ps (branch name l r)) 1 0
  count_branch name l r =
      let test : Tree Item → ℕ = λ s. cond (lacks ps s) 1 0 in
      omega (
        arith,
        sum_by-append test (segments l) (segments r ++ branch name l r ∷ []),
        sum_by-append test (segments r) (branch name l r ∷ []),
        count_step (lacks ps) (branch name l r) [],
      )

  -- they are those without a name, and those of names that nothing was published for
  count_is : (t : Tree Item) → count t ≡ weight lacking t + fresh t
  count_is (leaf None items) = count_leaf None items
  count_is (leaf (Some k) items) = omega (arith, count_leaf (Some k) items)
  count_is (branch None l r) = omega (arith, count_branch None l r, count_is l, count_is r)
  count_is (branch (Some k) l r) = omega (arith, count_branch (Some k) l r, count_is l, count_is r)

  cond_most : (b : Bool) → cond b 1 0 ≤ 1
  cond_most true = omega arith
  cond_most false = omega arith

  -- a new name adds none
  count_named : (n : ℕ) (t : Tree Item) → count (named n t) ≤ weight lacking t + fresh t
  count_named n (leaf None items) = omega (arith, count_leaf (Some n) items, cond_most (lacks ps (leaf (Some n) items)))
  count_named n (leaf (Some k) items) = omega (arith, count_is (leaf (Some k) items))
  count_named n (branch None l r) = omega (
    arith,
    count_branch (Some (n + made l + made r)) (named n l) (named (n + made l) r),
    cond_most (lacks ps (branch (Some (n + made l + made r)) (named n l) (named (n + made l) r))),
    count_named n l,
    count_named (n + made l) r,
  )
  count_named n (branch (Some k) l r) = omega (arith, count_is (branch (Some k) l r))

  missing_is : (t : Option (Tree Item)) → missing ps t ≡ weight_maybe lacking t + fresh_maybe t
  missing_is None = refl
  missing_is (Some t) = count_is t

  missing_named : (n : ℕ) (t : Option (Tree Item)) → missing ps (with_names n t) ≤ weight_maybe lacking t + fresh_maybe t
  missing_named n None = omega arith
  missing_named n (Some t) = count_named n t

  -- what a splice of a balanced tree leaves missing, whatever names its new nodes get
  pub missing_spliced : (n : ℕ) (t : Option (Tree Item)) (from to : ℕ) (items : List Item) → IsBalancedMaybe t → from ≤ to → to ≤ length (run_maybe t)
      → missing ps (with_names n (splice t from to items)) ≤ missing ps t + 64 * (max (height_maybe t) (height_maybe (build items)) + 1) + 2 * length items
  missing_spliced n t from to items balanced ordered inside =
      let h : ℕ = max (height_maybe t) (height_maybe (build items)) in
      let few : fresh_maybe (splice t from to items) ≤ fresh_maybe t + fresh_maybe (build items) + 64 * (h + 1) =
      fresh-splice t from to h items ordered inside balanced (balanced-build items) (omega arith) (omega arith) in
      omega (arith, missing_named n (splice t from to items), weight-splice lacking t from to items, missing_is t, few, fresh-build items)
