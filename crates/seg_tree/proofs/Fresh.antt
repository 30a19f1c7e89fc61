-- How many new nodes a join, a cut and a splice make.
use Rattle.std.proofs.Common.{◌≡◌, ℕ, ◌+◌, ◌-◌, ◌*◌, ◌<◌, ◌≤◌, inl, inr, max, List, ◌++◌, length, arith, length-append}
use Rattle.std.specs.Prelude.{Some, None, Option}
use Rattle.std.proofs.lemmas.Bool.Decides.{nat_tests}
use Rattle.seg_tree.specs.Trees.{Tree, leaf, branch, left_of, right_of, run, run_maybe, height, rotate_left, rotate_right, balance, adjoin, graft_right, graft_left, join, concat, split, split_maybe, build, splice, made}
use Rattle.seg_tree.specs.Measures.{fresh, fresh_maybe, height_maybe, IsBalanced, IsBalancedMaybe}
use Rattle.seg_tree.proofs.Balance.{level_join}
use Rattle.seg_tree.proofs.Runs.{which_end, which_side, back_length_maybe}
use Rattle.seg_tree.proofs.Cases.{split_start, split_end, leaf_inside, branch_left, branch_right, branch_between}

module _ {A : Type 0} where
  pub made_le : (t : Tree A) → made t ≤ fresh t
  made_le (leaf None xs) = omega arith
  made_le (leaf (Some n) xs) = omega arith
  made_le (branch None l r) = omega (arith, made_le l, made_le r)
  made_le (branch (Some n) l r) = omega arith

  fresh_sides : (t : Tree A) → 0 < height t → fresh (left_of t) + fresh (right_of t) ≤ fresh t
  fresh_sides (leaf n xs) h = absurd (omega arith)
  fresh_sides (branch None l r) h = omega arith
  fresh_sides (branch (Some n) l r) h = omega arith

  fresh-rotate_left : (l m r : Tree A) → fresh (rotate_left l m r) ≤ fresh l + fresh m + fresh r + 3
  unfolding rotate_left
  fresh-rotate_left l m r = grind (arith, nat_tests, fresh_sides m)

  fresh-rotate_right : (l m r : Tree A) → fresh (rotate_right l m r) ≤ fresh l + fresh m + fresh r + 3
  unfolding rotate_right
  fresh-rotate_right l m r = grind (arith, nat_tests, fresh_sides m)

  fresh-balance : (l r : Tree A) → fresh (balance l r) ≤ fresh l + fresh r + 3
  unfolding balance
  fresh-balance l r = grind (arith, nat_tests, fresh_sides l, fresh_sides r, fresh-rotate_left l (left_of r) (right_of r), fresh-rotate_right (left_of l) (right_of l) r)

  fresh-adjoin : (a b : Tree A) → fresh (adjoin a b) ≤ fresh a + fresh b + 1
  unfolding adjoin
  fresh-adjoin a b = grind (arith, nat_tests)

  branch_fresh : (n : Option ℕ) (l r : Tree A) → fresh l + fresh r ≤ fresh (branch n l r)
  branch_fresh None l r = omega arith
  branch_fresh (Some n) l r = omega arith

  fresh-graft_right : (a b : Tree A) → fresh (graft_right a b) ≤ fresh a + fresh b + 3 * (height a - height b) + 1
  unfolding graft_right
  fresh-graft_right (leaf n xs) b = omega (arith, fresh-adjoin (leaf n xs) b)
  fresh-graft_right (branch n l r) b = grind (arith, nat_tests, branch_fresh n l r, fresh-balance l (graft_right r b), fresh-graft_right r b, fresh-adjoin (branch n l r) b)

  fresh-graft_left : (a b : Tree A) → fresh (graft_left a b) ≤ fresh a + fresh b + 3 * (height b - height a) + 1
  unfolding graft_left
  fresh-graft_left a (leaf n xs) = omega (arith, fresh-adjoin a (leaf n xs))
  fresh-graft_left a (branch n l r) = grind (arith, nat_tests, branch_fresh n l r, fresh-balance (graft_left a l) r, fresh-graft_left a l, fresh-adjoin a (branch n l r))

  pub fresh-join : (a b : Tree A) → fresh (join a b) ≤ fresh a + fresh b + 3 * (height a - height b) + 3 * (height b - height a) + 1
  unfolding join
  fresh-join a b = grind (arith, nat_tests, fresh-graft_right a b, fresh-graft_left a b)

  -- what is known of a cut
  pub record Cheap (p : Option (Tree A) × Option (Tree A)) (t : Tree A) : Type 0 where
    pub front : IsBalancedMaybe p.0
    pub back : IsBalancedMaybe p.1
    pub front_high : height_maybe p.0 ≤ height t
    pub back_high : height_maybe p.1 ≤ height t
    pub cost : fresh_maybe p.0 + fresh_maybe p.1 ≤ fresh t + 3 * height_maybe p.0 + 3 * height_maybe p.1 + 4 * height t + 2

  joined_front : (n : Option ℕ) (l r : Tree A) (p : Option (Tree A)) (b : Option (Tree A)) → IsBalanced (branch n l r) → Cheap (p, b) r → Cheap (concat (Some l) p, b) (branch n l r)
  unfolding concat
  joined_front n l r None b bal c = record { front = bal.0; back = c.back; front_high = omega arith; back_high = omega (arith, c.back_high); cost = omega (arith, c.cost, branch_fresh n l r) }
  joined_front n l r (Some p) b bal c =
      let j = level_join l p bal.0 c.front in
      record {
        front = j.0;
        back = c.back;
        front_high = omega (arith, j.2, c.front_high);
        back_high = omega (arith, c.back_high);
        cost = omega (arith, fresh-join l p, j.1, c.cost, c.front_high, bal.2, bal.3, branch_fresh n l r);
      }

  joined_back : (n : Option ℕ) (l r : Tree A) (f : Option (Tree A)) (p : Option (Tree A)) → IsBalanced (branch n l r) → Cheap (f, p) l → Cheap (f, concat p (Some r)) (branch n l r)
  unfolding concat
  joined_back n l r f None bal c = record { front = c.front; back = bal.1; front_high = omega (arith, c.front_high); back_high = omega arith; cost = omega (arith, c.cost, branch_fresh n l r) }
  joined_back n l r f (Some p) bal c =
      let j = level_join p r c.back bal.1 in
      record {
        front = c.front;
        back = j.0;
        front_high = omega (arith, c.front_high);
        back_high = omega (arith, j.2, c.back_high);
        cost = omega (arith, fresh-join p r, j.1, c.cost, c.back_high, bal.2, bal.3, branch_fresh n l r);
      }

  cheap_none : (t : Tree A) → IsBalanced t → Cheap (None, Some t) t
  cheap_none t b = record { front = tt; back = b; front_high = omega arith; back_high = omega arith; cost = omega arith }

  cheap_all : (t : Tree A) → IsBalanced t → Cheap (Some t, None) t
  cheap_all t b = record { front = b; back = tt; front_high = omega arith; back_high = omega arith; cost = omega arith }

  pub cheap_split : (t : Tree A) (at : ℕ) → IsBalanced t → at ≤ length (run t) → Cheap (split t at) t
  cheap_split (leaf n xs) at b h = elim (which_end at (length xs) h) [
    | inl z ↦ rw (z, split_start (leaf n xs)) (cheap_none (leaf n xs) b)
    | inr rest ↦ elim rest [
      | inl e ↦ rw (split_end (leaf n xs) at e.0 e.1) (cheap_all (leaf n xs) b)
      | inr m ↦ rw (leaf_inside n xs at m.0 m.1) (record { front = tt; back = tt; front_high = omega arith; back_high = omega arith; cost = omega arith })
    ]
  ]
  cheap_split (branch n l r) at b h =
      let total : length (run l ++ run r) ≡ length (run l) + length (run r) = length-append (run l) (run r) in
      elim (which_end at (length (run l ++ run r)) h) [
        | inl z ↦ rw (z, split_start (branch n l r)) (cheap_none (branch n l r) b)
        | inr rest ↦ elim rest [
          | inl e ↦ rw (split_end (branch n l r) at e.0 e.1) (cheap_all (branch n l r) b)
          | inr m ↦ elim (which_side at (length (run l))) [
            | inl low ↦ rw (branch_left n l r at m.0 low) (joined_back n l r (split l at).0 (split l at).1 b (cheap_split l at b.0 (omega arith)))
            | inr others ↦ elim others [
              | inl e ↦ rw (branch_between n l r at m.0 e (omega (arith, m.1))) (record { front = b.0; back = b.1; front_high = omega arith; back_high = omega arith; cost = omega (arith, branch_fresh n l r) })
              | inr high ↦ rw (branch_right n l r at high (omega (arith, m.1))) (joined_front n l r (split r (at - length (run l))).0 (split r (at - length (run l))).1 b (cheap_split r (at - length (run l)) b.1 (omega (arith, m.1))))
            ]
          ]
        ]
      ]

  level_concat : (a b : Option (Tree A)) → IsBalancedMaybe a → IsBalancedMaybe b → IsBalancedMaybe (concat a b) × (height_maybe (concat a b) ≤ max (height_maybe a) (height_maybe b) + 1)
  unfolding concat
  level_concat None b ba bb = (bb, omega arith)
  level_concat (Some a) None ba bb = (ba, omega arith)
  level_concat (Some a) (Some b) ba bb = let j = level_join a b ba bb in (j.0, j.2)

  fresh-concat : (a b : Option (Tree A)) → fresh_maybe (concat a b) ≤ fresh_maybe a + fresh_maybe b + 3 * (height_maybe a - height_maybe b) + 3 * (height_maybe b - height_maybe a) + 1
  unfolding concat
  fresh-concat None b = omega arith
  fresh-concat (Some a) None = omega arith
  fresh-concat (Some a) (Some b) = fresh-join a b

  cheap_maybe : (t : Option (Tree A)) (at h : ℕ) → IsBalancedMaybe t → height_maybe t ≤ h → at ≤ length (run_maybe t) → IsBalancedMaybe (split_maybe t at).0 × IsBalancedMaybe (split_maybe t at).1 × (height_maybe (split_maybe t at).0 ≤ h) × (height_maybe (split_maybe t at).1 ≤ h) × (fresh_maybe (split_maybe t at).0 + fresh_maybe (split_maybe t at).1 ≤ fresh_maybe t + 10 * h + 2)
  cheap_maybe None at h b k w = (tt, tt, omega arith, omega arith, omega arith)
  cheap_maybe (Some t) at h b k w = let c = cheap_split t at b w in (c.front, c.back, omega (arith, c.front_high), omega (arith, c.back_high), omega (arith, c.cost, c.front_high, c.back_high))

  -- a splice of a tree with all its names makes few new nodes
  pub fresh-splice : (t : Option (Tree A)) (from to h : ℕ) (items : List A) → from ≤ to → to ≤ length (run_maybe t) → IsBalancedMaybe t → IsBalancedMaybe (build items) → height_maybe t ≤ h → height_maybe (build items) ≤ h
      → fresh_maybe (splice t from to items) ≤ fresh_maybe t + fresh_maybe (build items) + 64 * (h + 1)
  unfolding splice
  fresh-splice t from to h items o w bt bi ht hi =
      let p = cheap_maybe t from h bt ht (omega arith) in
      let q = cheap_maybe (split_maybe t from).1 (to - from) h p.1 p.3 (omega (arith, back_length_maybe t from (omega arith))) in
      let l = level_concat (split_maybe t from).0 (build items) p.0 bi in
      omega (
        arith,
        p.2,
        p.3,
        p.4,
        q.2,
        q.3,
        q.4,
        l.1,
        hi,
        fresh-concat (split_maybe t from).0 (build items),
        fresh-concat (concat (split_maybe t from).0 (build items)) (split_maybe (split_maybe t from).1 (to - from)).1,
      )

  pub balanced-split : (t : Tree A) (at : ℕ) → IsBalanced t → at ≤ length (run t) → IsBalancedMaybe (split t at).0 × IsBalancedMaybe (split t at).1
  balanced-split t at b h = let c = cheap_split t at b h in (c.front, c.back)

  pub balanced-concat : (a b : Option (Tree A)) → IsBalancedMaybe a → IsBalancedMaybe b → IsBalancedMaybe (concat a b)
  balanced-concat a b ba bb = (level_concat a b ba bb).0

  pub balanced-splice : (t : Option (Tree A)) (from to : ℕ) (items : List A) → from ≤ to → to ≤ length (run_maybe t) → IsBalancedMaybe t → IsBalancedMaybe (build items) → IsBalancedMaybe (splice t from to items)
  unfolding splice
  balanced-splice t from to items o w bt bi =
      let p = cheap_maybe t from (height_maybe t) bt (omega arith) (omega arith) in
      let q = cheap_maybe (split_maybe t from).1 (to - from) (height_maybe t) p.1 p.3 (omega (arith, back_length_maybe t from (omega arith))) in
      (level_concat (concat (split_maybe t from).0 (build items)) (split_maybe (split_maybe t from).1 (to - from)).1 (level_concat (split_maybe t from).0 (build items) p.0 bi).0 q.1).0
