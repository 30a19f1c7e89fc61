-- What is joined is balanced, and at most one higher than the higher part.
use Rattle.std.proofs.Common.{◌≡◌, ℕ, ◌+◌, ◌<◌, ◌≤◌, ◌⊎◌, inl, inr, max, length, ap, arith}
use Rattle.seg_tree.specs.Trees.{Tree, leaf, branch, left_of, right_of, run, height, rotate_left, rotate_right, balance, adjoin, graft_right, graft_left, join}
use Rattle.seg_tree.specs.Measures.{IsBalanced}
use Rattle.seg_tree.proofs.Cases.{rotate_left_low, rotate_left_high, rotate_right_low, rotate_right_high, balance_right, balance_left, balance_even, adjoin_small, adjoin_high, adjoin_large, graft_right_high, graft_right_low, graft_left_high, graft_left_low, height_sides, join_graft_right, join_graft_left}

pub which_le : (a b : ℕ) → (a ≤ b) ⊎ (b < a)
which_le a b = grind arith

pub which_apart : (a b : ℕ) → (a + 1 < b) ⊎ ((b + 1 < a) ⊎ ((a ≤ b + 1) × (b ≤ a + 1)))
which_apart a b = grind arith

module _ {A : Type 0} where
  pub sides : (t : Tree A) → IsBalanced t → 0 < height t → IsBalanced (left_of t) × IsBalanced (right_of t) × (height (left_of t) ≤ height (right_of t) + 1) × (height (right_of t) ≤ height (left_of t) + 1)
  sides (leaf n xs) b h = absurd (omega arith)
  sides (branch n l r) b h = b

  -- l and a right side of m and r, in all two higher than l
  level_rotate_left : (l m r : Tree A) → IsBalanced l → IsBalanced m → IsBalanced r → height m ≤ height r + 1 → height r ≤ height m + 1 → max (height m) (height r) ≡ height l + 1
      → IsBalanced (rotate_left l m r) × (height l + 2 ≤ height (rotate_left l m r)) × (height (rotate_left l m r) ≤ height l + 3)
  level_rotate_left l m r bl bm br h k e = elim (which_le (height m) (height r)) [
    | inl low ↦ rw (rotate_left_low l m r low) ((((bl, bm, omega arith, omega arith)), br, omega arith, omega arith), omega arith, omega arith)
    | inr high ↦
        let s = sides m bm (omega arith) in
        let hs : height m ≡ max (height (left_of m)) (height (right_of m)) + 1 = height_sides m (omega arith) in
        rw (rotate_left_high l m r high) (((bl, s.0, omega (arith, s.2, s.3), omega (arith, s.2, s.3)), (s.1, br, omega (arith, s.2, s.3), omega (arith, s.2, s.3)), omega (arith, s.2, s.3), omega (arith, s.2, s.3)), omega (arith, s.2, s.3), omega (arith, s.2, s.3))
  ]

  level_rotate_right : (l m r : Tree A) → IsBalanced l → IsBalanced m → IsBalanced r → height m ≤ height l + 1 → height l ≤ height m + 1 → max (height l) (height m) ≡ height r + 1
      → IsBalanced (rotate_right l m r) × (height r + 2 ≤ height (rotate_right l m r)) × (height (rotate_right l m r) ≤ height r + 3)
  level_rotate_right l m r bl bm br h k e = elim (which_le (height m) (height l)) [
    | inl low ↦ rw (rotate_right_low l m r low) ((bl, (bm, br, omega arith, omega arith), omega arith, omega arith), omega arith, omega arith)
    | inr high ↦
        let s = sides m bm (omega arith) in
        let hs : height m ≡ max (height (left_of m)) (height (right_of m)) + 1 = height_sides m (omega arith) in
        rw (rotate_right_high l m r high) (((bl, s.0, omega (arith, s.2, s.3), omega (arith, s.2, s.3)), (s.1, br, omega (arith, s.2, s.3), omega (arith, s.2, s.3)), omega (arith, s.2, s.3), omega (arith, s.2, s.3)), omega (arith, s.2, s.3), omega (arith, s.2, s.3))
  ]

  -- heights that differ by at most 2
  level_balance : (l r : Tree A) → IsBalanced l → IsBalanced r → height l ≤ height r + 2 → height r ≤ height l + 2
      → IsBalanced (balance l r) × (max (height l) (height r) ≤ height (balance l r)) × (height (balance l r) ≤ max (height l) (height r) + 1)
  level_balance l r bl br h k = elim (which_apart (height l) (height r)) [
    | inl right ↦
        let s = sides r br (omega arith) in
        let hs : height r ≡ max (height (left_of r)) (height (right_of r)) + 1 = height_sides r (omega arith) in
        let t = level_rotate_left l (left_of r) (right_of r) bl s.0 s.1 s.2 s.3 (omega arith) in
        rw (balance_right l r right) (t.0, omega (arith, t.1), omega (arith, t.2))
    | inr rest ↦ elim rest [
      | inl left ↦
          let s = sides l bl (omega arith) in
          let hs : height l ≡ max (height (left_of l)) (height (right_of l)) + 1 = height_sides l (omega arith) in
          let t = level_rotate_right (left_of l) (right_of l) r s.0 s.1 br s.3 s.2 (omega arith) in
          rw (balance_left l r left) (t.0, omega (arith, t.1), omega (arith, t.2))
      | inr even ↦ rw (balance_even l r even.0 even.1) ((bl, br, even.0, even.1), omega arith, omega arith)
    ]
  ]

  -- heights that differ by at most 1, or two leaves
  level_adjoin : (a b : Tree A) → IsBalanced a → IsBalanced b → height a ≤ height b + 1 → height b ≤ height a + 1
      → IsBalanced (adjoin a b) × (max (height a) (height b) ≤ height (adjoin a b)) × (height (adjoin a b) ≤ max (height a) (height b) + 1)
  level_adjoin a b ba bb h k = elim (which_le (height a + height b) 0) [
    | inl flat ↦ elim (which_le (length (run a) + length (run b)) 8) [
      | inl small ↦ rw (adjoin_small a b (omega arith) small) (tt, omega arith, omega arith)
      | inr large ↦ rw (adjoin_large a b large) ((ba, bb, h, k), omega arith, omega arith)
    ]
    | inr high ↦ rw (adjoin_high a b high) ((ba, bb, h, k), omega arith, omega arith)
  ]

  height_even : (l r : Tree A) → height l ≤ height r + 1 → height r ≤ height l + 1 → height (balance l r) ≡ max (height l) (height r) + 1
  height_even l r h k = ap height (balance_even l r h k)

  -- l with what was put to r is not lower than l with r
  not_lower : (l r s : Tree A) → height l ≤ height r + 1 → height r ≤ height l + 1 → height r ≤ height s → height s ≤ height l + 2 → max (height l) (height s) ≤ height (balance l s) → max (height l) (height r) + 1 ≤ height (balance l s)
  not_lower l r s h k up top low = elim (which_le (height s) (height l + 1)) [
    | inl even ↦ omega (arith, height_even l s (omega arith) even)
    | inr high ↦ omega arith
  ]

  not_lower_left : (l r s : Tree A) → height l ≤ height r + 1 → height r ≤ height l + 1 → height l ≤ height s → height s ≤ height r + 2 → max (height s) (height r) ≤ height (balance s r) → max (height l) (height r) + 1 ≤ height (balance s r)
  not_lower_left l r s h k up top low = elim (which_le (height s) (height r + 1)) [
    | inl even ↦ omega (arith, height_even s r even (omega arith))
    | inr high ↦ omega arith
  ]

  level_graft_right : (a b : Tree A) → IsBalanced a → IsBalanced b → height b ≤ height a + 1
      → IsBalanced (graft_right a b) × (height a ≤ height (graft_right a b)) × (height (graft_right a b) ≤ max (height a) (height b) + 1)
  level_graft_right (leaf n xs) b ba bb h =
      let m = level_adjoin (leaf n xs) b tt bb (omega arith) h in
      rw (graft_right_low (leaf n xs) b (omega arith)) (m.0, omega arith, m.2)
  level_graft_right (branch n l r) b ba bb h = elim (which_apart (height b) (height (branch n l r))) [
    | inl high ↦
        let rest = level_graft_right r b ba.1 bb (omega (arith, ba.2, ba.3)) in
        let whole = level_balance l (graft_right r b) ba.0 rest.0 (omega (arith, ba.2, ba.3, rest.1, rest.2)) (omega (arith, ba.2, ba.3, rest.1, rest.2)) in
        rw (graft_right_high (branch n l r) b high) (whole.0, not_lower l r (graft_right r b) ba.2 ba.3 rest.1 (omega (arith, rest.2, ba.2, ba.3)) whole.1, omega (arith, whole.2, rest.2, ba.2, ba.3))
    | inr others ↦
        let low : height (branch n l r) ≤ height b + 1 = elim others [ inl x ↦ omega arith | inr x ↦ x.1 ] in
        let m = level_adjoin (branch n l r) b ba bb low h in
        rw (graft_right_low (branch n l r) b low) (m.0, omega (arith, m.1), m.2)
  ]

  level_graft_left : (a b : Tree A) → IsBalanced a → IsBalanced b → height a ≤ height b + 1
      → IsBalanced (graft_left a b) × (height b ≤ height (graft_left a b)) × (height (graft_left a b) ≤ max (height a) (height b) + 1)
  level_graft_left a (leaf n xs) ba bb h =
      let m = level_adjoin a (leaf n xs) ba tt h (omega arith) in
      rw (graft_left_low a (leaf n xs) (omega arith)) (m.0, omega arith, m.2)
  level_graft_left a (branch n l r) ba bb h = elim (which_apart (height a) (height (branch n l r))) [
    | inl high ↦
        let rest = level_graft_left a l ba bb.0 (omega (arith, bb.2, bb.3)) in
        let whole = level_balance (graft_left a l) r rest.0 bb.1 (omega (arith, bb.2, bb.3, rest.1, rest.2)) (omega (arith, bb.2, bb.3, rest.1, rest.2)) in
        rw (graft_left_high a (branch n l r) high) (whole.0, not_lower_left l r (graft_left a l) bb.2 bb.3 rest.1 (omega (arith, rest.2, bb.2, bb.3)) whole.1, omega (arith, whole.2, rest.2, bb.2, bb.3))
    | inr others ↦
        let low : height (branch n l r) ≤ height a + 1 = elim others [ inl x ↦ omega arith | inr x ↦ x.1 ] in
        let m = level_adjoin a (branch n l r) ba bb h low in
        rw (graft_left_low a (branch n l r) low) (m.0, omega (arith, m.1), m.2)
  ]

  pub level_join : (a b : Tree A) → IsBalanced a → IsBalanced b → IsBalanced (join a b) × (max (height a) (height b) ≤ height (join a b)) × (height (join a b) ≤ max (height a) (height b) + 1)
  level_join a b ba bb = elim (which_le (height a) (height b + 1)) [
    | inl low ↦ elim (which_le (height b) (height a + 1)) [
      | inl even ↦ let t = level_adjoin a b ba bb low even in rw (join_graft_left a b low, graft_left_low a b even) (t.0, t.1, t.2)
      | inr high ↦ let t = level_graft_left a b ba bb low in rw (join_graft_left a b low) (t.0, omega (arith, t.1), t.2)
    ]
    | inr high ↦ let t = level_graft_right a b ba bb (omega arith) in rw (join_graft_right a b high) (t.0, omega (arith, t.1), t.2)
  ]
