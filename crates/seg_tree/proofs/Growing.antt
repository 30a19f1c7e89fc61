-- A table with one more node, and with the nodes of a part.
use Rattle.std.specs.Prelude.{Bool, true, false, if◌then◌else◌}
use Rattle.std.proofs.Common.{◌≡◌, ℕ, zero, suc, ◌+◌, ◌<◌, ◌≤◌, ◌⊎◌, inl, inr, max, List, [], ◌∷◌, ◌++◌, length, refl, sym, ap, ◌∙◌, subst, arith, take, append_assoc, append-nil}
use Rattle.std.specs.Prelude.{Some, None, slice_get}
use Rattle.std.proofs.Math.Seq.{take-append_seam}
use Rattle.std.proofs.lemmas.List.{get_or_append_left, length_push, get_or_push}
use Rattle.std.proofs.lemmas.Option.{slice_get_within}
use Rattle.seg_tree.specs.Trees.{Tree, leaf, branch, nothing, name_of, run, height, made, named}
use Rattle.seg_tree.specs.Table.{tree, planted, forest, Stands, IsSound}
use Rattle.seg_tree.specs.Drafts.{draft_tree, IsGood}
use Rattle.seg_tree.specs.Growth.{Keeps, Extends, Plants, PlantsMaybe}
use Rattle.seg_tree.proofs.Forest.{length-forest, forest_push, stands_same}
use Rattle.seg_tree.specs.declared.drafts.Slot.{Slot}
use Rattle.seg_tree.specs.declared.drafts.Slot.TheVariants as slot
use Rattle.seg_tree.specs.declared.drafts.Draft.{Draft, Old, Leaf, Branch'}

slice_get_push : (ss : List Slot) (s : Slot) (k : ℕ) (r : Slot) → slice_get (ss ++ s ∷ []) k ≡ Some r → (slice_get ss k ≡ Some r) ⊎ ((k ≡ length ss) × (r ≡ s))
slice_get_push [] s zero r e = inr (refl, cc)
slice_get_push [] s (suc k) r e = cc
slice_get_push (x ∷ ss) s zero r e = inl e
slice_get_push (x ∷ ss) s (suc k) r e = elim (slice_get_push ss s k r e) as (λ _. (slice_get ss k ≡ Some r) ⊎ ((suc k ≡ suc (length ss)) × (r ≡ s))) [ inl h ↦ inl h | inr h ↦ inr (ap suc h.0, h.1) ]

pub keeps_self : (ts : List (Tree ℕ)) → Keeps ts ts
keeps_self ts = record { longer = omega arith; same = λ k h. refl }

pub keeps_then : (a b c : List (Tree ℕ)) → Keeps a b → Keeps b c → Keeps a c
keeps_then a b c h k = record {
  longer = omega (arith, h.longer, k.longer);
  same = λ i near. k.same i (omega (arith, h.longer)) ∙ h.same i near;
}

keeps_push : (ts : List (Tree ℕ)) (t : Tree ℕ) → Keeps ts (ts ++ t ∷ [])
keeps_push ts t = record { longer = omega (arith, length_push ts t); same = λ k near. get_or_append_left ts (t ∷ []) nothing k near }

pub sound_push : (ss : List Slot) (s : Slot) → IsSound ss → Stands (forest ss) (length (forest ss)) s → IsSound (ss ++ s ∷ [])
sound_push ss s sound h =
    let ts : List (Tree ℕ) = forest ss in
    let e : forest (ss ++ s ∷ []) ≡ ts ++ planted ts s ∷ [] = forest_push ss s in
    let n : length ts ≡ length ss = length-forest ss in
    let keeps : Keeps ts (ts ++ planted ts s ∷ []) = keeps_push ts (planted ts s) in
    record {
      each = λ k r g. subst (λ x. Stands x k r) (sym e) (elim (slice_get_push ss s k r g) [
        | inl old ↦ stands_same (ts ++ planted ts s ∷ []) ts k r (λ i near. keeps.same i (omega (arith, slice_get_within ss k r old))) (sound.each k r old)
        | inr new ↦ stands_same (ts ++ planted ts s ∷ []) ts k r (λ i near. keeps.same i (omega (arith, new.0))) (subst (λ x. Stands ts x r) (n ∙ sym new.0) (subst (λ x. Stands ts (length ts) x) (sym new.1) h))
      ]);
    }

-- a part over a longer table
pub draft_tree-kept : (old new : List (Tree ℕ)) (part : Draft) → Keeps old new → IsGood old part → draft_tree new part ≡ draft_tree old part
draft_tree-kept old new (Old k) keeps h = keeps.same k h.0
draft_tree-kept old new (Leaf items) keeps h = refl
draft_tree-kept old new (Branch' p l q r len tall) keeps h = cc (draft_tree-kept old new l keeps h.0, draft_tree-kept old new r keeps h.1)

pub good_kept : (old new : List (Tree ℕ)) (part : Draft) → Keeps old new → IsGood old part → IsGood new part
good_kept old new (Old k) keeps h = (omega (arith, keeps.longer, h.0), rw (keeps.same k h.0) h.1)
good_kept old new (Leaf items) keeps h = h
good_kept old new (Branch' p l q r len tall) keeps h =
    (good_kept old new l keeps h.0, good_kept old new r keeps h.1, rw (draft_tree-kept old new l keeps h.0, draft_tree-kept old new r keeps h.1) h.2, rw (draft_tree-kept old new l keeps h.0, draft_tree-kept old new r keeps h.1) h.3, h.4)

pub run-named : {A : Type 0} → (n : ℕ) (t : Tree A) → run (named n t) ≡ run t
run-named n (leaf None xs) = refl
run-named n (leaf (Some m) xs) = refl
run-named n (branch None l r) = cc (run-named n l, run-named (n + made l) r)
run-named n (branch (Some m) l r) = refl

pub height-named : {A : Type 0} → (n : ℕ) (t : Tree A) → height (named n t) ≡ height t
height-named n (leaf None xs) = refl
height-named n (leaf (Some m) xs) = refl
height-named n (branch None l r) = omega (arith, height-named n l, height-named (n + made l) r)
height-named n (branch (Some m) l r) = refl

-- a tree whose root has a name makes nothing
made_known : (t : Tree ℕ) (k : ℕ) → name_of t ≡ Some k → made t ≡ 0
made_known (leaf None xs) k e = cc
made_known (leaf (Some m) xs) k e = refl
made_known (branch None l r) k e = cc
made_known (branch (Some m) l r) k e = refl

named_known : (t : Tree ℕ) (k n : ℕ) → name_of t ≡ Some k → named n t ≡ t
named_known (leaf None xs) k n e = cc
named_known (leaf (Some m) xs) k n e = refl
named_known (branch None l r) k n e = cc
named_known (branch (Some m) l r) k n e = refl

pub plants_known : (ts : List (Tree ℕ)) (k : ℕ) → k < length ts → name_of (tree ts k) ≡ Some k → Plants ts ts (tree ts k) k
plants_known ts k near e = record { kept = keeps_self ts; count = omega (arith, made_known (tree ts k) k e); within = near; at = sym (named_known (tree ts k) k (length ts) e) }

pub plants_leaf : (ts : List (Tree ℕ)) (items : List ℕ) → Plants ts (ts ++ leaf (Some (length ts)) items ∷ []) (leaf None items) (length ts)
plants_leaf ts items = record { kept = keeps_push ts _; count = length_push ts _; within = omega (arith, length_push ts (leaf (Some (length ts)) items)); at = get_or_push ts _ nothing (length ts) refl }

pub plants_branch : (a b c : List (Tree ℕ)) (l r : Tree ℕ) (i j : ℕ) → Plants a b l i → Plants b c r j → Plants a (c ++ branch (Some (length c)) (tree c i) (tree c j) ∷ []) (branch None l r) (length c)
plants_branch a b c l r i j x y =
    let t : Tree ℕ = branch (Some (length c)) (tree c i) (tree c j) in
    let at_i : tree c i ≡ named (length a) l = y.kept.same i x.within ∙ x.at in
    let at_j : tree c j ≡ named (length a + made l) r = y.at ∙ ap (λ n. named n r) x.count in
    let n : length c ≡ length a + made l + made r = omega (arith, x.count, y.count) in
    record {
      kept = keeps_then a c (c ++ t ∷ []) (keeps_then a b c x.kept y.kept) (keeps_push c t);
      count = omega (arith, length_push c t);
      within = omega (arith, length_push c t);
      at = get_or_push c t nothing (length c) refl ∙ cc;
    }

pub sound_if : (b : Bool) (ss new : List Slot) (s : Slot) → new ≡ (if b then ss ++ s ∷ [] else ss) → IsSound ss → Stands (forest ss) (length (forest ss)) s → IsSound new
sound_if true ss new s e sound h = subst IsSound (sym e) (sound_push ss s sound h)
sound_if false ss new s e sound h = subst IsSound (sym e) sound

-- what a branch says of its two sides
pub record Fits (l r : Tree ℕ) (len high : ℕ) : Type 0 where
  pub length_is : len ≡ length (run l) + length (run r)
  pub height_is : high ≡ max (height l) (height r) + 1
  pub left_high : height l ≤ height r + 1
  pub right_high : height r ≤ height l + 1
  pub low : high < len
  pub short : len ≤ 65536

module _ (a b c : List (Tree ℕ)) (l r : Tree ℕ) (i j : ℕ) (x : Plants a b l i) (y : Plants b c r j) where
  stands_branch : (len high : ℕ) → Fits l r len high → Stands c (length c) (slot.Branch i j len high)
  stands_branch len high f =
      let at_i : tree c i ≡ named (length a) l = y.kept.same i x.within ∙ x.at in
      let at_j : tree c j ≡ named (length b) r = y.at in
      let run_i : length (run (tree c i)) ≡ length (run l) = ap (λ t. length (run t)) at_i ∙ ap length (run-named (length a) l) in
      let run_j : length (run (tree c j)) ≡ length (run r) = ap (λ t. length (run t)) at_j ∙ ap length (run-named (length b) r) in
      let high_i : height (tree c i) ≡ height l = ap height at_i ∙ height-named (length a) l in
      let high_j : height (tree c j) ≡ height r = ap height at_j ∙ height-named (length b) r in
      (omega (arith, x.within, y.kept.longer), y.within, omega (arith, f.length_is), omega (arith, f.height_is), omega (arith, f.left_high), omega (arith, f.right_high), f.low, f.short)

  plants_pushed : (len high : ℕ) (new : List (Tree ℕ)) (k : ℕ) → new ≡ c ++ planted c (slot.Branch i j len high) ∷ [] → k ≡ length c → Plants a new (branch None l r) k
  plants_pushed len high new k e f = rw (e, f) (plants_branch a b c l r i j x y)

-- the same of the sides of a draft
module _ (a b c : List (Tree ℕ)) (left right : Draft) (i j : ℕ) (x : Plants a b (draft_tree a left) i) (good : IsGood a right) (y : Plants b c (draft_tree b right) j) where
  right_plants : Plants b c (draft_tree a right) j
  right_plants = subst (λ t. Plants b c t j) (draft_tree-kept a b right x.kept good) y

  pub stands_drafts : (len high : ℕ) → Fits (draft_tree a left) (draft_tree a right) len high → Stands c (length c) (slot.Branch i j len high)
  stands_drafts len high f = stands_branch a b c (draft_tree a left) (draft_tree a right) i j x right_plants len high f

  pub plants_drafts : (len high : ℕ) (new : List (Tree ℕ)) (k : ℕ) → new ≡ c ++ planted c (slot.Branch i j len high) ∷ [] → k ≡ length c → Plants a new (branch None (draft_tree a left) (draft_tree a right)) k
  plants_drafts len high new k e f = plants_pushed a b c (draft_tree a left) (draft_tree a right) i j x right_plants len high new k e f

pub extends_self : (ts : List (Tree ℕ)) → Extends ts ts
extends_self ts = record { more = []; is = sym (append-nil ts) }

pub extends_then : (a b c : List (Tree ℕ)) → Extends a b → Extends b c → Extends a c
extends_then a b c h k = record { more = h.more ++ k.more; is = k.is ∙ ap (λ t. t ++ k.more) h.is ∙ append_assoc a h.more k.more }

pub extends_if : (b : Bool) (ss new : List Slot) (s : Slot) → new ≡ (if b then ss ++ s ∷ [] else ss) → Extends (forest ss) (forest new)
extends_if true ss new s e = record { more = planted (forest ss) s ∷ []; is = ap forest e ∙ forest_push ss s }
extends_if false ss new s e = record { more = []; is = ap forest e ∙ sym (append-nil (forest ss)) }

pub take_extended : (old new : List (Tree ℕ)) → Extends old new → take (length old) new ≡ old
take_extended old new h = ap (take (length old)) h.is ∙ take-append_seam old h.more

pub plants_some : (old new : List (Tree ℕ)) (t : Tree ℕ) (k : ℕ) → Plants old new t k → PlantsMaybe old new (Some t) (Some k)
plants_some old new t k p = record { kept = p.kept; count = p.count; within = p.within; at = ap Some p.at }

pub plants_none : (ts : List (Tree ℕ)) → PlantsMaybe ts ts None None
plants_none ts = record { kept = keeps_self ts; count = omega arith; within = tt; at = refl }
