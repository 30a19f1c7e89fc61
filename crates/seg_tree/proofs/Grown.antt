-- Each tree of a table is made of the trees of older nodes.
use Rattle.std.proofs.Common.{◌≡◌, ℕ, ◌<◌, List, length, refl, sym, ap, ◌∙◌, subst, arith}
use Rattle.std.specs.Prelude.{Option, Some, None}
use Rattle.seg_tree.specs.Trees.{Tree, leaf, branch, name_of}
use Rattle.seg_tree.specs.Table.{tree, forest, IsSound}
use Rattle.seg_tree.specs.Older.{number_in, number_of, IsOlder, IsForest}
use Rattle.seg_tree.specs.Drafts.{Describes}
use Rattle.seg_tree.proofs.Forest.{slot_at, described, length-forest, name_of-tree}
use Rattle.seg_tree.specs.declared.drafts.Slot.{Slot}
use Rattle.seg_tree.specs.declared.drafts.Slot.TheVariants as slot

older : (ts : List (Tree ℕ)) (k m : ℕ) (t : Tree ℕ) → m < k → name_of (tree ts m) ≡ Some m → tree ts m ≡ t → IsOlder ts k t
older ts k m t near name same =
    let number : number_of t ≡ m = ap number_in (ap name_of (sym same) ∙ name) in
    record { below = omega (arith, number); same = ap (tree ts) number ∙ same }

left_older : (ts : List (Tree ℕ)) (k : ℕ) (s : Slot) (n : Option ℕ) (l r : Tree ℕ) → Describes ts k s → tree ts k ≡ branch n l r → IsOlder ts k l
left_older ts k (slot.Leaf items) n l r h e = absurd (differ (sym h.0 ∙ e))
  where
    differ : leaf (Some k) items.items ≡ branch n l r → ⊥
    differ q = cc
left_older ts k (slot.Branch left right len high) n l r h e =
    let same : branch (Some k) (tree ts left) (tree ts right) ≡ branch n l r = sym h.0 ∙ e in
    older ts k left l h.1 h.9 cc

right_older : (ts : List (Tree ℕ)) (k : ℕ) (s : Slot) (n : Option ℕ) (l r : Tree ℕ) → Describes ts k s → tree ts k ≡ branch n l r → IsOlder ts k r
right_older ts k (slot.Leaf items) n l r h e = absurd (differ (sym h.0 ∙ e))
  where
    differ : leaf (Some k) items.items ≡ branch n l r → ⊥
    differ q = cc
right_older ts k (slot.Branch left right len high) n l r h e =
    let same : branch (Some k) (tree ts left) (tree ts right) ≡ branch n l r = sym h.0 ∙ e in
    older ts k right r h.2 h.10 cc

pub is_forest : (ss : List Slot) → IsSound ss → IsForest (forest ss)
is_forest ss sound = record {
  named = λ k near. name_of-tree ss k (omega (arith, length-forest ss)) sound;
  left = λ k n l r near e. let got = slot_at ss k (omega (arith, length-forest ss)) in left_older (forest ss) k got.0 n l r (described ss k got.0 got.1 sound) e;
  right = λ k n l r near e. let got = slot_at ss k (omega (arith, length-forest ss)) in right_older (forest ss) k got.0 n l r (described ss k got.0 got.1 sound) e;
}
