-- The shapes, case by case, and the runs of what they give.
use Rattle.std.proofs.Common.{◌≡◌, ℕ, zero, suc, ◌+◌, ◌-◌, ◌<◌, ◌≤◌, max, cond, List, [], ◌∷◌, ◌++◌, length, take, drop, refl, sym, ap, ◌∙◌, subst, arith, length-append, append_assoc, append-nil}
use Rattle.std.specs.Prelude.{Some, None, Option}
use Rattle.std.proofs.lemmas.Bool.Decides.{nat_tests}
use Rattle.seg_tree.specs.Trees.{Tree, leaf, branch, left_of, right_of, run, height, fork, rotate_left, rotate_right, balance, adjoin, graft_right, graft_left, join, concat, run_maybe, split}

module _ {A : Type 0} where
  pub height_sides : (t : Tree A) → 0 < height t → height t ≡ max (height (left_of t)) (height (right_of t)) + 1
  height_sides (leaf n xs) h = absurd (omega arith)
  height_sides (branch n l r) h = refl

  pub run_sides : (t : Tree A) → 0 < height t → run t ≡ run (left_of t) ++ run (right_of t)
  run_sides (leaf n xs) h = absurd (omega arith)
  run_sides (branch n l r) h = refl

  pub length_sides : (t : Tree A) → 0 < height t → length (run t) ≡ length (run (left_of t)) + length (run (right_of t))
  length_sides t h = ap length (run_sides t h) ∙ length-append (run (left_of t)) (run (right_of t))

  pub rotate_left_low : (l m r : Tree A) → height m ≤ height r → rotate_left l m r ≡ fork (fork l m) r
  unfolding rotate_left
  rotate_left_low l m r h = grind (arith, nat_tests)

  pub rotate_left_high : (l m r : Tree A) → height r < height m → rotate_left l m r ≡ fork (fork l (left_of m)) (fork (right_of m) r)
  unfolding rotate_left
  rotate_left_high l m r h = grind (arith, nat_tests)

  pub rotate_right_low : (l m r : Tree A) → height m ≤ height l → rotate_right l m r ≡ fork l (fork m r)
  unfolding rotate_right
  rotate_right_low l m r h = grind (arith, nat_tests)

  pub rotate_right_high : (l m r : Tree A) → height l < height m → rotate_right l m r ≡ fork (fork l (left_of m)) (fork (right_of m) r)
  unfolding rotate_right
  rotate_right_high l m r h = grind (arith, nat_tests)

  pub balance_right : (l r : Tree A) → height l + 1 < height r → balance l r ≡ rotate_left l (left_of r) (right_of r)
  unfolding balance
  balance_right l r h = grind (arith, nat_tests)

  pub balance_left : (l r : Tree A) → height r + 1 < height l → balance l r ≡ rotate_right (left_of l) (right_of l) r
  unfolding balance
  balance_left l r h = grind (arith, nat_tests)

  pub balance_even : (l r : Tree A) → height l ≤ height r + 1 → height r ≤ height l + 1 → balance l r ≡ fork l r
  unfolding balance
  balance_even l r h k = grind (arith, nat_tests)

  pub adjoin_small : (a b : Tree A) → height a + height b ≡ 0 → length (run a) + length (run b) ≤ 8 → adjoin a b ≡ leaf None (run a ++ run b)
  unfolding adjoin
  adjoin_small a b h s = grind (arith, nat_tests)

  pub adjoin_high : (a b : Tree A) → 0 < height a + height b → adjoin a b ≡ fork a b
  unfolding adjoin
  adjoin_high a b h = grind (arith, nat_tests)

  pub adjoin_large : (a b : Tree A) → 8 < length (run a) + length (run b) → adjoin a b ≡ fork a b
  unfolding adjoin
  adjoin_large a b h = grind (arith, nat_tests)

  pub join_graft_right : (a b : Tree A) → height b + 1 < height a → join a b ≡ graft_right a b
  unfolding join
  join_graft_right a b h = grind (arith, nat_tests)

  pub join_graft_left : (a b : Tree A) → height a ≤ height b + 1 → join a b ≡ graft_left a b
  unfolding join
  join_graft_left a b h = grind (arith, nat_tests)

  pub branch_high : (n : Option ℕ) (l r : Tree A) (b : Tree A) → height b + 1 < height (branch n l r) → graft_right (branch n l r) b ≡ balance l (graft_right r b)
  unfolding graft_right
  branch_high n l r b h = grind (arith, nat_tests)

  pub branch_low : (n : Option ℕ) (l r : Tree A) (b : Tree A) → height (branch n l r) ≤ height b + 1 → graft_right (branch n l r) b ≡ adjoin (branch n l r) b
  unfolding graft_right
  branch_low n l r b h = grind (arith, nat_tests)

  pub graft_right_high : (a b : Tree A) → height b + 1 < height a → graft_right a b ≡ balance (left_of a) (graft_right (right_of a) b)
  graft_right_high (leaf n xs) b h = absurd (omega arith)
  graft_right_high (branch n l r) b h = branch_high n l r b h

  pub graft_right_low : (a b : Tree A) → height a ≤ height b + 1 → graft_right a b ≡ adjoin a b
  unfolding graft_right
  graft_right_low (leaf n xs) b h = refl
  graft_right_low (branch n l r) b h = branch_low n l r b h

  pub high_branch : (n : Option ℕ) (a l r : Tree A) → height a + 1 < height (branch n l r) → graft_left a (branch n l r) ≡ balance (graft_left a l) r
  unfolding graft_left
  high_branch n a l r h = grind (arith, nat_tests)

  pub low_branch : (n : Option ℕ) (a l r : Tree A) → height (branch n l r) ≤ height a + 1 → graft_left a (branch n l r) ≡ adjoin a (branch n l r)
  unfolding graft_left
  low_branch n a l r h = grind (arith, nat_tests)

  pub graft_left_high : (a b : Tree A) → height a + 1 < height b → graft_left a b ≡ balance (graft_left a (left_of b)) (right_of b)
  graft_left_high a (leaf n xs) h = absurd (omega arith)
  graft_left_high a (branch n l r) h = high_branch n a l r h

  pub graft_left_low : (a b : Tree A) → height b ≤ height a + 1 → graft_left a b ≡ adjoin a b
  unfolding graft_left
  graft_left_low a (leaf n xs) h = refl
  graft_left_low a (branch n l r) h = low_branch n a l r h

  -- runs
  pub run-rotate_left : (l m r : Tree A) → run (rotate_left l m r) ≡ run l ++ (run m ++ run r)
  unfolding rotate_left
  run-rotate_left l (leaf n xs) r = ap run (rotate_left_low l (leaf n xs) r (omega arith)) ∙ append_assoc (run l) xs (run r)
  run-rotate_left l (branch n a b) r = grind (arith, append_assoc)

  pub run-rotate_right : (l m r : Tree A) → run (rotate_right l m r) ≡ run l ++ (run m ++ run r)
  unfolding rotate_right
  run-rotate_right l (leaf n xs) r = ap run (rotate_right_low l (leaf n xs) r (omega arith))
  run-rotate_right l (branch n a b) r = grind (arith, append_assoc)

  pub run-balance : (l r : Tree A) → run (balance l r) ≡ run l ++ run r
  unfolding balance
  run-balance l r = grind (arith, nat_tests, run_sides l, run_sides r, run-rotate_left l (left_of r) (right_of r), run-rotate_right (left_of l) (right_of l) r, append_assoc)

  pub run-adjoin : (a b : Tree A) → run (adjoin a b) ≡ run a ++ run b
  unfolding adjoin
  run-adjoin a b = grind (arith, nat_tests)

  pub run-graft_right : (a b : Tree A) → run (graft_right a b) ≡ run a ++ run b
  unfolding graft_right
  run-graft_right (leaf n xs) b = run-adjoin (leaf n xs) b
  run-graft_right (branch n l r) b = grind (arith, nat_tests, run-balance l (graft_right r b), run-graft_right r b, run-adjoin (branch n l r) b, append_assoc)

  pub run-graft_left : (a b : Tree A) → run (graft_left a b) ≡ run a ++ run b
  unfolding graft_left
  run-graft_left a (leaf n xs) = run-adjoin a (leaf n xs)
  run-graft_left a (branch n l r) = grind (arith, nat_tests, run-balance (graft_left a l) r, run-graft_left a l, run-adjoin a (branch n l r), append_assoc)

  pub run-join : (a b : Tree A) → run (join a b) ≡ run a ++ run b
  unfolding join
  run-join a b = grind (arith, nat_tests, run-graft_right a b, run-graft_left a b)

  pub concat_none : (b : Option (Tree A)) → concat None b ≡ b
  unfolding concat
  concat_none b = refl

  pub concat_some : (a : Tree A) → concat (Some a) None ≡ Some a
  unfolding concat
  concat_some a = refl

  pub concat_both : (a b : Tree A) → concat (Some a) (Some b) ≡ Some (join a b)
  unfolding concat
  concat_both a b = refl

  pub run-concat : (a b : Option (Tree A)) → run_maybe (concat a b) ≡ run_maybe a ++ run_maybe b
  unfolding concat
  run-concat None b = refl
  run-concat (Some a) None = sym (append-nil (run a))
  run-concat (Some a) (Some b) = run-join a b

  pub length-concat : (a b : Option (Tree A)) → length (run_maybe (concat a b)) ≡ length (run_maybe a) + length (run_maybe b)
  length-concat a b = ap length (run-concat a b) ∙ length-append (run_maybe a) (run_maybe b)

  pub branch_start : (n : Option ℕ) (l r : Tree A) → split (branch n l r) 0 ≡ (None, Some (branch n l r))
  unfolding split
  branch_start n l r = refl

  pub split_start : (t : Tree A) → split t 0 ≡ (None, Some t)
  unfolding split
  split_start (leaf n xs) = refl
  split_start (branch n l r) = refl

  pub leaf_end : (n : Option ℕ) (xs : List A) (at : ℕ) → 0 < at → at ≡ length xs → split (leaf n xs) at ≡ (Some (leaf n xs), None)
  unfolding split
  leaf_end n xs at h e = grind (arith, nat_tests)

  pub branch_end : (n : Option ℕ) (l r : Tree A) (at : ℕ) → 0 < at → at ≡ length (run l) + length (run r) → split (branch n l r) at ≡ (Some (branch n l r), None)
  unfolding split
  branch_end n l r at h e = grind (arith, nat_tests)

  pub split_end : (t : Tree A) (at : ℕ) → 0 < at → at ≡ length (run t) → split t at ≡ (Some t, None)
  split_end (leaf n xs) at h e = leaf_end n xs at h e
  split_end (branch n l r) at h e = branch_end n l r at h (e ∙ length-append (run l) (run r))

  pub leaf_inside : (n : Option ℕ) (xs : List A) (at : ℕ) → 0 < at → at < length xs → split (leaf n xs) at ≡ (Some (leaf None (take at xs)), Some (leaf None (drop at xs)))
  unfolding split
  leaf_inside n xs at h e = grind (arith, nat_tests)

  pub split_leaf : (t : Tree A) (at : ℕ) → height t ≡ 0 → 0 < at → at < length (run t) → split t at ≡ (Some (leaf None (take at (run t))), Some (leaf None (drop at (run t))))
  split_leaf (leaf n xs) at flat h e = leaf_inside n xs at h e
  split_leaf (branch n l r) at flat h e = absurd (omega arith)

  pub branch_left : (n : Option ℕ) (l r : Tree A) (at : ℕ) → 0 < at → at < length (run l) → split (branch n l r) at ≡ ((split l at).0, concat (split l at).1 (Some r))
  unfolding split
  branch_left n l r at h e = grind (arith, nat_tests)

  pub split_left : (t : Tree A) (at : ℕ) → 0 < height t → 0 < at → at < length (run (left_of t)) → split t at ≡ ((split (left_of t) at).0, concat (split (left_of t) at).1 (Some (right_of t)))
  split_left (leaf n xs) at high h e = absurd (omega arith)
  split_left (branch n l r) at high h e = branch_left n l r at h e

  pub branch_between : (n : Option ℕ) (l r : Tree A) (at : ℕ) → 0 < at → at ≡ length (run l) → 0 < length (run r) → split (branch n l r) at ≡ (Some l, Some r)
  unfolding split
  branch_between n l r at h e s = grind (arith, nat_tests)

  pub split_between : (t : Tree A) (at : ℕ) → 0 < height t → 0 < at → at ≡ length (run (left_of t)) → at < length (run t) → split t at ≡ (Some (left_of t), Some (right_of t))
  split_between (leaf n xs) at high h e s = absurd (omega arith)
  split_between (branch n l r) at high h e s = branch_between n l r at h e (omega (arith, length-append (run l) (run r)))

  pub branch_right : (n : Option ℕ) (l r : Tree A) (at : ℕ) → length (run l) < at → at < length (run l) + length (run r) → split (branch n l r) at ≡ (concat (Some l) (split r (at - length (run l))).0, (split r (at - length (run l))).1)
  unfolding split
  branch_right n l r at h e = grind (arith, nat_tests)

  pub split_right : (t : Tree A) (at : ℕ) → 0 < height t → length (run (left_of t)) < at → at < length (run t) → split t at ≡ (concat (Some (left_of t)) (split (right_of t) (at - length (run (left_of t)))).0, (split (right_of t) (at - length (run (left_of t)))).1)
  split_right (leaf n xs) at high h e = absurd (omega arith)
  split_right (branch n l r) at high h e = branch_right n l r at h (omega (arith, length-append (run l) (run r)))

pub ruleset balancing = (balance_right, balance_left, balance_even, rotate_left_low, rotate_left_high, rotate_right_low, rotate_right_high, height_sides, length_sides, length-append)

pub ruleset adjoining = (adjoin_small, adjoin_high, adjoin_large, length-append)

pub ruleset joining = (join_graft_right, join_graft_left, graft_right_high, graft_right_low, graft_left_high, graft_left_low, height_sides, run_sides, length_sides, run-graft_right, run-graft_left, run-balance, length-append)

pub ruleset splitting = (split_start, split_end, split_leaf, split_left, split_between, split_right, length_sides, length-concat)

pub ruleset concatenating = (concat_none, concat_some, concat_both)
