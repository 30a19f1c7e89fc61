-- No node stands more often in what is made of trees than it stood in them.
use Rattle.std.proofs.Common.{◌≡◌, ℕ, zero, suc, ◌+◌, ◌-◌, ◌<◌, ◌≤◌, List, [], ◌∷◌, length, take, drop, refl, arith}
use Rattle.std.specs.Prelude.{Some, None, Option}
use Rattle.std.proofs.lemmas.Bool.Decides.{nat_tests}
use Rattle.seg_tree.specs.Trees.{Tree, leaf, branch, left_of, right_of, run, height, rotate_left, rotate_right, balance, adjoin, graft_right, graft_left, join, concat, split, split_maybe, front_size, built, build, splice}
use Rattle.seg_tree.specs.Measures.{uses, uses_maybe, IsBalanced}

module _ {A : Type 0} where
  uses_sides : (k : ℕ) (t : Tree A) → 0 < height t → uses k (left_of t) + uses k (right_of t) ≤ uses k t
  uses_sides k (leaf n xs) h = absurd (omega arith)
  uses_sides k (branch n l r) h = omega arith

  uses-rotate_left : (k : ℕ) (l m r : Tree A) → uses k (rotate_left l m r) ≤ uses k l + uses k m + uses k r
  unfolding rotate_left
  uses-rotate_left k l m r = grind (arith, nat_tests, uses_sides k m)

  uses-rotate_right : (k : ℕ) (l m r : Tree A) → uses k (rotate_right l m r) ≤ uses k l + uses k m + uses k r
  unfolding rotate_right
  uses-rotate_right k l m r = grind (arith, nat_tests, uses_sides k m)

  uses-balance : (k : ℕ) (l r : Tree A) → uses k (balance l r) ≤ uses k l + uses k r
  unfolding balance
  uses-balance k l r = grind (arith, nat_tests, uses_sides k l, uses_sides k r, uses-rotate_left k l (left_of r) (right_of r), uses-rotate_right k (left_of l) (right_of l) r)

  uses-adjoin : (k : ℕ) (a b : Tree A) → uses k (adjoin a b) ≤ uses k a + uses k b
  unfolding adjoin
  uses-adjoin k a b = grind (arith, nat_tests)

  uses-graft_right : (k : ℕ) (a b : Tree A) → uses k (graft_right a b) ≤ uses k a + uses k b
  unfolding graft_right
  uses-graft_right k (leaf n xs) b = uses-adjoin k (leaf n xs) b
  uses-graft_right k (branch n l r) b = grind (arith, nat_tests, uses-balance k l (graft_right r b), uses-graft_right k r b, uses-adjoin k (branch n l r) b)

  uses-graft_left : (k : ℕ) (a b : Tree A) → uses k (graft_left a b) ≤ uses k a + uses k b
  unfolding graft_left
  uses-graft_left k a (leaf n xs) = uses-adjoin k a (leaf n xs)
  uses-graft_left k a (branch n l r) = grind (arith, nat_tests, uses-balance k (graft_left a l) r, uses-graft_left k a l, uses-adjoin k a (branch n l r))

  uses-join : (k : ℕ) (a b : Tree A) → uses k (join a b) ≤ uses k a + uses k b
  unfolding join
  uses-join k a b = grind (arith, nat_tests, uses-graft_right k a b, uses-graft_left k a b)

  pub uses-concat : (k : ℕ) (a b : Option (Tree A)) → uses_maybe k (concat a b) ≤ uses_maybe k a + uses_maybe k b
  unfolding concat
  uses-concat k None b = omega arith
  uses-concat k (Some a) None = omega arith
  uses-concat k (Some a) (Some b) = uses-join k a b

  pub uses-split : (k : ℕ) (t : Tree A) (at : ℕ) → uses_maybe k (split t at).0 + uses_maybe k (split t at).1 ≤ uses k t
  unfolding split
  uses-split k (leaf n xs) at = grind (arith, nat_tests)
  uses-split k (branch n l r) at = grind (arith, nat_tests, uses-split k l at, uses-split k r (at - length (run l)), uses-concat k (split l at).1 (Some r), uses-concat k (Some l) (split r (at - length (run l))).0)

  uses-built : (k : ℕ) (f : ℕ) (xs : List A) → uses k (built f xs) ≡ 0
  uses-built k zero xs = refl
  uses-built k (suc f) xs = grind (arith, nat_tests, uses-built k f (take (front_size (length xs)) xs), uses-built k f (drop (front_size (length xs)) xs))

  pub uses-build : (k : ℕ) (xs : List A) → uses_maybe k (build xs) ≡ 0
  unfolding build
  uses-build k [] = refl
  uses-build k (x ∷ xs) = uses-built k (length (x ∷ xs)) (x ∷ xs)

  uses-split_maybe : (k : ℕ) (t : Option (Tree A)) (at : ℕ) → uses_maybe k (split_maybe t at).0 + uses_maybe k (split_maybe t at).1 ≤ uses_maybe k t
  uses-split_maybe k None at = omega arith
  uses-split_maybe k (Some t) at = uses-split k t at

  pub uses-splice : (k : ℕ) (t : Option (Tree A)) (from to : ℕ) (items : List A) → uses_maybe k (splice t from to items) ≤ uses_maybe k t
  unfolding splice
  uses-splice k t from to items =
      let p : Option (Tree A) = (split_maybe t from).0 in
      omega (
        arith,
        uses-split_maybe k t from,
        uses-split_maybe k (split_maybe t from).1 (to - from),
        uses-build k items,
        uses-concat k (split_maybe t from).0 (build items),
        uses-concat k (concat (split_maybe t from).0 (build items)) (split_maybe (split_maybe t from).1 (to - from)).1,
      )

  -- heights and balance
  balanced_sides : (t : Tree A) → IsBalanced t → 0 < height t → IsBalanced (left_of t) × IsBalanced (right_of t) × (height (left_of t) ≤ height (right_of t) + 1) × (height (right_of t) ≤ height (left_of t) + 1)
  balanced_sides (leaf n xs) b h = absurd (omega arith)
  balanced_sides (branch n l r) b h = b

  -- about as high as the higher of two, which is h
  Level : Tree A → ℕ → Type 0
  Level t h = IsBalanced t × (h ≤ height t) × (height t ≤ h + 1)
