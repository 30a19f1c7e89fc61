-- The shapes of joined and built trees: a join goes down the right side of a higher left tree, and the left side of a higher right tree.
use Rattle.std.proofs.Common.{◌≡◌, ℕ, ◌+◌, ◌<◌, ◌≤◌, inl, inr, max, List, length, take, drop, Some, sym, ap, ◌∙◌, arith, length-take, length-drop}
use Rattle.seg_tree.specs.Trees.{Tree, left_of, right_of, height, balance, adjoin, graft_right, graft_left, join, built, front_size}
use Rattle.seg_tree.specs.Laws.{IsJoin, IsBuild}
use Rattle.seg_tree.proofs.Runs.{build_some, built_short, built_long, front_size-below, front_size-above}
use Rattle.seg_tree.specs.Measures.{IsBalanced}
use Rattle.seg_tree.proofs.Balance.{which_le, sides}
use Rattle.seg_tree.proofs.Cases.{graft_right_high, graft_right_low, graft_left_high, graft_left_low, join_graft_right, join_graft_left, height_sides, adjoin_small, adjoin_high, adjoin_large}

module _ {A : Type 0} where
  graft_right_join : (a b : Tree A) → height b ≤ height a → graft_right a b ≡ join a b
  graft_right_join a b h = elim (which_le (height a) (height b + 1)) [
    | inl low ↦ graft_right_low a b low ∙ sym (join_graft_left a b low ∙ graft_left_low a b (omega arith))
    | inr high ↦ sym (join_graft_right a b high)
  ]

  graft_left_join : (a b : Tree A) → height a ≤ height b → graft_left a b ≡ join a b
  graft_left_join a b h = sym (join_graft_left a b (omega arith))

  -- heights that differ by at most 1
  pub join_even : (a b : Tree A) → height a ≤ height b + 1 → height b ≤ height a + 1 → join a b ≡ adjoin a b
  join_even a b h k = join_graft_left a b h ∙ graft_left_low a b k

  pub join_right : (a b : Tree A) → IsBalanced a → height b + 1 < height a → join a b ≡ balance (left_of a) (join (right_of a) b)
  join_right a b bal h =
      let s = sides a bal (omega arith) in
      let e : height a ≡ max (height (left_of a)) (height (right_of a)) + 1 = height_sides a (omega arith) in
      join_graft_right a b h ∙ graft_right_high a b h ∙ ap (balance (left_of a)) (graft_right_join (right_of a) b (omega (arith, s.2)))

  pub join_left : (a b : Tree A) → IsBalanced b → height a + 1 < height b → join a b ≡ balance (join a (left_of b)) (right_of b)
  join_left a b bal h =
      let s = sides b bal (omega arith) in
      let e : height b ≡ max (height (left_of b)) (height (right_of b)) + 1 = height_sides b (omega arith) in
      join_graft_left a b (omega arith) ∙ graft_left_high a b h ∙ ap (λ t. balance t (right_of b)) (graft_left_join a (left_of b) (omega (arith, s.3)))

pub is_join : (a b : Tree ℕ) → IsBalanced a → IsBalanced b → IsJoin a b
is_join a b ba bb = record {
  small = λ h k s. join_even a b (omega arith) (omega arith) ∙ adjoin_small a b (omega arith) s;
  even = λ h k apart. join_even a b h k ∙ elim apart [ inl high ↦ adjoin_high a b high | inr large ↦ adjoin_large a b large ];
  right = λ h. join_right a b ba h;
  left = λ h. join_left a b bb h;
}

pub is_build : (items : List ℕ) → IsBuild items
is_build items = record {
  few = λ some short. build_some items some ∙ ap Some (built_short items short);
  many = λ long l r e f.
      let below : front_size (length items) < length items = front_size-below (length items) long in
      let above : 0 < front_size (length items) = front_size-above (length items) long in
      let front : Some (built (length (take (front_size (length items)) items)) (take (front_size (length items)) items)) ≡ Some l = sym (build_some (take (front_size (length items)) items) (omega (arith, length-take (front_size (length items)) items))) ∙ e in
      let back : Some (built (length (drop (front_size (length items)) items)) (drop (front_size (length items)) items)) ≡ Some r = sym (build_some (drop (front_size (length items)) items) (omega (arith, length-drop (front_size (length items)) items))) ∙ f in
      build_some items (omega arith) ∙ ap Some (built_long items long) ∙ cc (front, back);
}
