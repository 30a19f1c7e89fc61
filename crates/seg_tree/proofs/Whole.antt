-- What holds of each tree of a table.
use Rattle.std.proofs.Common.{◌≡◌, ℕ, zero, suc, ◌<◌, ◌≤◌, inl, List, length, refl, sym, subst, arith, length-append}
use Rattle.std.specs.Prelude.{Option, Some, None}
use Rattle.seg_tree.specs.Trees.{Tree, run, run_maybe}
use Rattle.seg_tree.specs.Measures.{IsBalancedMaybe, fresh_maybe, uses_maybe, IsWhole}
use Rattle.seg_tree.specs.Table.{tree, root_tree, IsRoot, IsWholeRoot, forest, IsSound}
use Rattle.seg_tree.specs.Drafts.{Describes}
use Rattle.seg_tree.proofs.Forest.{slot_at, described, length-forest}
use Rattle.seg_tree.proofs.Once.{is_name_other}
use Rattle.seg_tree.specs.declared.drafts.Slot.{Slot}
use Rattle.seg_tree.specs.declared.drafts.Slot.TheVariants as slot

whole_of : (ts : List (Tree ℕ)) (k : ℕ) (s : Slot) → Describes ts k s → ((i : ℕ) → i < k → IsWhole i (tree ts i)) → IsWhole k (tree ts k)
whole_of ts k (slot.Leaf items) h old =
    subst (IsWhole k) (sym h.0) (record { balanced = tt; short = omega (arith, h.2); filled = omega (arith, h.1); known = refl; below = λ m near. is_name_other m k (inl near) })
whole_of ts k (slot.Branch left right len high) h old =
    let l : IsWhole left (tree ts left) = old left h.1 in
    let r : IsWhole right (tree ts right) = old right h.2 in
    let total = length-append (run (tree ts left)) (run (tree ts right)) in
    subst (IsWhole k) (sym h.0) (record {
      balanced = (l.balanced, r.balanced, h.5, h.6);
      short = omega (arith, h.3, h.8, total);
      filled = omega (arith, l.filled, r.filled, total);
      known = omega (arith, l.known, r.known);
      below = λ m near. omega (arith, is_name_other m k (inl near), l.below m (omega (arith, h.1)), r.below m (omega (arith, h.2)));
    })

whole_below : (ss : List Slot) → IsSound ss → (n k : ℕ) → k < n → k < length ss → IsWhole k (tree (forest ss) k)
whole_below ss sound zero k near there = absurd (omega arith)
whole_below ss sound (suc n) k near there =
    let got = slot_at ss k there in
    whole_of (forest ss) k got.0 (described ss k got.0 got.1 sound) (λ i below. whole_below ss sound n i (omega arith) (omega arith))

pub whole_tree : (ss : List Slot) → IsSound ss → (k : ℕ) → k < length (forest ss) → IsWhole k (tree (forest ss) k)
whole_tree ss sound k there = whole_below ss sound (suc k) k (omega arith) (omega (arith, length-forest ss))

module _ (ts : List (Tree ℕ)) where
  pub root_balanced : (r : Option ℕ) → IsWholeRoot ts r → IsBalancedMaybe (root_tree ts r)
  root_balanced None h = tt
  root_balanced (Some k) h = h.balanced

  pub root_short : (r : Option ℕ) → IsWholeRoot ts r → length (run_maybe (root_tree ts r)) ≤ 65536
  root_short None h = omega arith
  root_short (Some k) h = h.short

  pub root_known : (r : Option ℕ) → IsWholeRoot ts r → fresh_maybe (root_tree ts r) ≡ 0
  root_known None h = refl
  root_known (Some k) h = h.known

  pub root_below : (r : Option ℕ) (m : ℕ) → IsWholeRoot ts r → IsRoot ts r → length ts ≤ m → uses_maybe m (root_tree ts r) ≡ 0
  root_below None m h there past = refl
  root_below (Some k) m h there past = h.below m (omega arith)
