-- The trees of a table: each node's is made of those of older nodes.
use Rattle.std.proofs.Common.{◌≡◌, ℕ, zero, suc, ◌+◌, ◌<◌, ◌≤◌, List, [], ◌∷◌, ◌++◌, length, refl, sym, ap, ◌∙◌, subst, arith, get_or, take, drop, append_assoc, append-nil, take-append-drop}
use Rattle.std.proofs.lemmas.List.{get_or_append_left, length_push, get_or_push, get_or-take, length-take-le}
use Rattle.std.proofs.Math.Seq.{take-append_seam}
use Rattle.std.proofs.lemmas.Option.{slice_get_within, slice_get-get_or}
use Rattle.std.specs.Prelude.{Some, slice_get}
use Rattle.seg_tree.specs.Trees.{Tree, leaf, branch, nothing, name_of}
use Rattle.seg_tree.specs.Table.{tree, planted, grown, forest, Stands, IsSound}
use Rattle.seg_tree.specs.Drafts.{Describes}
use Rattle.seg_tree.specs.declared.drafts.Slot.{Slot}
use Rattle.seg_tree.specs.declared.drafts.Slot.TheVariants.{Leaf, Branch}

length-grown : (ts : List (Tree ℕ)) (ss : List Slot) → length (grown ts ss) ≡ length ts + length ss
length-grown ts [] = omega arith
length-grown ts (s ∷ ss) = omega (arith, length-grown (ts ++ planted ts s ∷ []) ss, length_push ts (planted ts s))

pub length-forest : (ss : List Slot) → length (forest ss) ≡ length ss
unfolding forest
length-forest ss = omega (arith, length-grown [] ss)

grown_kept : (ts : List (Tree ℕ)) (ss : List Slot) (k : ℕ) → k < length ts → tree (grown ts ss) k ≡ tree ts k
grown_kept ts [] k h = refl
grown_kept ts (s ∷ ss) k h =
    let more : k < length (ts ++ planted ts s ∷ []) = omega (arith, length_push ts (planted ts s)) in
    grown_kept (ts ++ planted ts s ∷ []) ss k more ∙ get_or_append_left ts (planted ts s ∷ []) nothing k h

grown-append : (ts : List (Tree ℕ)) (ss rs : List Slot) → grown ts (ss ++ rs) ≡ grown (grown ts ss) rs
grown-append ts [] rs = refl
grown-append ts (s ∷ ss) rs = grown-append (ts ++ planted ts s ∷ []) ss rs

-- one more node
pub forest_push : (ss : List Slot) (s : Slot) → forest (ss ++ s ∷ []) ≡ forest ss ++ planted (forest ss) s ∷ []
unfolding forest
forest_push ss s = grown-append [] ss (s ∷ [])

-- the tree of node k, over all trees
shown : (k : ℕ) (ts : List (Tree ℕ)) → Slot → Tree ℕ
shown k ts (Leaf items) = leaf (Some k) items.items
shown k ts (Branch left right len tall) = branch (Some k) (tree ts left) (tree ts right)

planted-shown : (ts all : List (Tree ℕ)) (s : Slot) → ((k : ℕ) → k < length ts → tree all k ≡ tree ts k) → Stands all (length ts) s → planted ts s ≡ shown (length ts) all s
unfolding shown
planted-shown ts all (Leaf items) same h = refl
planted-shown ts all (Branch left right len tall) same h = cc (same left h.0, same right h.1)

grown_at : (ts : List (Tree ℕ)) (ss : List Slot) (k : ℕ) (s : Slot) → slice_get ss k ≡ Some s → Stands (grown ts ss) (length ts + k) s → tree (grown ts ss) (length ts + k) ≡ shown (length ts + k) (grown ts ss) s
grown_at ts [] k s e h = cc
grown_at ts (r ∷ ss) zero s e h =
    let same : r ≡ s = cc in
    let at : length ts + 0 ≡ length ts = omega arith in
    let all : List (Tree ℕ) = grown (ts ++ planted ts r ∷ []) ss in
    let near : length ts < length (ts ++ planted ts r ∷ []) = omega (arith, length_push ts (planted ts r)) in
    let stands : Stands all (length ts) r = subst (λ x. Stands all (length ts) x) (sym same) (subst (λ x. Stands all x s) at h) in
    let below : (k : ℕ) → k < length ts → tree all k ≡ tree ts k = λ k q. grown_kept ts (r ∷ ss) k q in
    let got : tree all (length ts) ≡ planted ts r = grown_kept (ts ++ planted ts r ∷ []) ss (length ts) near ∙ get_or_push ts (planted ts r) nothing (length ts) refl in
    subst (λ x. tree all x ≡ shown x all s) (sym at) (subst (λ x. tree all (length ts) ≡ shown (length ts) all x) same (got ∙ planted-shown ts all r below stands))
grown_at ts (r ∷ ss) (suc k) s e h =
    let at : length (ts ++ planted ts r ∷ []) + k ≡ length ts + suc k = omega (arith, length_push ts (planted ts r)) in
    let all : List (Tree ℕ) = grown (ts ++ planted ts r ∷ []) ss in
    let stands : Stands all (length (ts ++ planted ts r ∷ []) + k) s = subst (λ x. Stands all x s) (sym at) h in
    subst (λ x. tree all x ≡ shown x all s) at (grown_at (ts ++ planted ts r ∷ []) ss k s e stands)

-- the tree of node k is that of its slot
shown_at : (ss : List Slot) (k : ℕ) (s : Slot) → slice_get ss k ≡ Some s → IsSound ss → tree (forest ss) k ≡ shown k (forest ss) s
unfolding forest
shown_at ss k s e sound =
    let zeroed : 0 + k ≡ k = omega arith in
    subst (λ x. tree (grown [] ss) x ≡ shown x (grown [] ss) s) zeroed (grown_at [] ss k s e (subst (λ x. Stands (grown [] ss) x s) (sym zeroed) (sound.each k s e)))

name_of-shown : (k : ℕ) (ts : List (Tree ℕ)) (s : Slot) → name_of (shown k ts s) ≡ Some k
unfolding shown
name_of-shown k ts (Leaf items) = refl
name_of-shown k ts (Branch left right len high) = refl

pub slot_at : (ss : List Slot) (k : ℕ) → k < length ss → (s : Slot) × (slice_get ss k ≡ Some s)
slot_at ss k near = (get_or ss k (Branch 0 0 0 0), slice_get-get_or ss k (Branch 0 0 0 0) near)

-- each tree has its place as its name
pub name_of-tree : (ss : List Slot) (k : ℕ) → k < length ss → IsSound ss → name_of (tree (forest ss) k) ≡ Some k
name_of-tree ss k near sound =
    let got = slot_at ss k near in
    ap name_of (shown_at ss k got.0 got.1 sound) ∙ name_of-shown k (forest ss) got.0

shown_describes : (ts : List (Tree ℕ)) (k : ℕ) (s : Slot) → Stands ts k s → tree ts k ≡ shown k ts s → ((i : ℕ) → i < k → name_of (tree ts i) ≡ Some i) → Describes ts k s
unfolding shown
shown_describes ts k (Leaf items) h e names = (e, h.0, h.1)
shown_describes ts k (Branch left right len high) h e names = (e, h.0, h.1, h.2, h.3, h.4, h.5, h.6, h.7, names left h.0, names right h.1)

-- what a slot says
pub described : (ss : List Slot) (k : ℕ) (s : Slot) → slice_get ss k ≡ Some s → IsSound ss → Describes (forest ss) k s
described ss k s e sound =
    shown_describes (forest ss) k s (sound.each k s e) (shown_at ss k s e sound) (λ i near. name_of-tree ss i (omega (arith, slice_get_within ss k s e)) sound)

-- a table cut off
added : (ts : List (Tree ℕ)) → List Slot → List (Tree ℕ)
added ts [] = []
added ts (s ∷ ss) = planted ts s ∷ added (ts ++ planted ts s ∷ []) ss

grown-added : (ts : List (Tree ℕ)) (ss : List Slot) → grown ts ss ≡ ts ++ added ts ss
unfolding added
grown-added ts [] = sym (append-nil ts)
grown-added ts (s ∷ ss) = grown-added (ts ++ planted ts s ∷ []) ss ∙ append_assoc ts (planted ts s ∷ []) (added (ts ++ planted ts s ∷ []) ss)

forest_cut : (ss : List Slot) (n : ℕ) → forest ss ≡ forest (take n ss) ++ added (forest (take n ss)) (drop n ss)
unfolding forest
forest_cut ss n = ap (grown []) (sym (take-append-drop n ss)) ∙ grown-append [] (take n ss) (drop n ss) ∙ grown-added (grown [] (take n ss)) (drop n ss)

pub forest-take : (ss : List Slot) (n : ℕ) → n ≤ length ss → forest (take n ss) ≡ take n (forest ss)
forest-take ss n h =
    let e : length (forest (take n ss)) ≡ n = length-forest (take n ss) ∙ length-take-le n ss h in
    sym (ap (take n) (forest_cut ss n) ∙ ap (λ i. take i (forest (take n ss) ++ added (forest (take n ss)) (drop n ss))) (sym e) ∙ take-append_seam (forest (take n ss)) (added (forest (take n ss)) (drop n ss)))

pub stands_same : (a b : List (Tree ℕ)) (k : ℕ) (s : Slot) → ((i : ℕ) → i < k → tree a i ≡ tree b i) → Stands b k s → Stands a k s
stands_same a b k (Leaf items) same h = h
stands_same a b k (Branch l r len high) same h =
    let at_l : tree a l ≡ tree b l = same l h.0 in
    let at_r : tree a r ≡ tree b r = same r h.1 in
    (h.0, h.1, rw (at_l, at_r) h.2, rw (at_l, at_r) h.3, rw (at_l, at_r) h.4, rw (at_l, at_r) h.5, h.6, h.7)

slice_get-take : (ss : List Slot) (n k : ℕ) (s : Slot) → slice_get (take n ss) k ≡ Some s → slice_get ss k ≡ Some s
slice_get-take [] zero k s e = cc
slice_get-take [] (suc n) k s e = cc
slice_get-take (x ∷ ss) zero k s e = cc
slice_get-take (x ∷ ss) (suc n) zero s e = e
slice_get-take (x ∷ ss) (suc n) (suc k) s e = slice_get-take ss n k s e

pub sound_take : (ss : List Slot) (n : ℕ) → n ≤ length ss → IsSound ss → IsSound (take n ss)
sound_take ss n h sound = record {
  each = λ k s e. stands_same (forest (take n ss)) (forest ss) k s
      (λ i near. rw (forest-take ss n h) (get_or-take n (forest ss) i nothing (omega (arith, slice_get_within (take n ss) k s e, length-take-le n ss h))))
      (sound.each k s (slice_get-take ss n k s e));
}
