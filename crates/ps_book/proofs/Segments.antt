-- Which segments of a tree have given items.
use Rattle.std.proofs.Common.{◌≡◌, ℕ, ◌<◌, ◌≤◌, List, [], ◌∷◌, ◌++◌, length, refl, sym, ap, ◌∙◌, subst, arith, ◌⊎◌, inl, inr}
use Rattle.std.specs.Prelude.{Option, Contains}
use Rattle.std.proofs.lemmas.List.{length-map, length-append}
use Rattle.std.proofs.lemmas.List.Elements.{Contains-append_left, Contains-append_right, Contains-append_cases, Contains-push_cases}
use Rattle.seg_tree.specs.Trees.{Tree, leaf, branch, run}
use Rattle.ps_versions.specs.Questions.{segments}
use Rattle.ps_journal.specs.State.{Item}
use Rattle.ps_views.specs.Views.{item_at, run_of_leaf}
use Rattle.ps_book.specs.Runs.{HasRun}

-- a tree is one of its segments
whole_within : (t : Tree ℕ) → Contains (segments t) t
whole_within (leaf n xs) = (0, omega arith, refl)
whole_within (branch n l r) =
    Contains-append_right (segments l) (segments r ++ branch n l r ∷ []) (branch n l r)
    (Contains-append_right (segments r) (branch n l r ∷ []) (branch n l r) (0, omega arith, refl))

-- it is itself, or a segment of one of its sides
side_or_whole : (n : Option ℕ) (l r s : Tree ℕ) → Contains (segments (branch n l r)) s
    → Contains (segments l) s ⊎ (Contains (segments r) s ⊎ (branch n l r ≡ s))
side_or_whole n l r s h = at (Contains-append_cases (segments l) (segments r ++ branch n l r ∷ []) s h)
  where
    behind : Contains (segments r) s ⊎ (branch n l r ≡ s) → Contains (segments l) s ⊎ (Contains (segments r) s ⊎ (branch n l r ≡ s))
    behind k = inr k

    at : Contains (segments l) s ⊎ Contains (segments r ++ branch n l r ∷ []) s → Contains (segments l) s ⊎ (Contains (segments r) s ⊎ (branch n l r ≡ s))
    at (inl k) = inl k
    at (inr k) = behind (Contains-push_cases (segments r) (branch n l r) s k)

leaf_only : (n : Option ℕ) (xs : List ℕ) (s : Tree ℕ) → Contains (segments (leaf n xs)) s → leaf n xs ≡ s
leaf_only n xs s h = at (Contains-push_cases [] (leaf n xs) s h)
  where
    none : Contains [] s → leaf n xs ≡ s
    none k = absurd (omega (arith, k.1))

    at : Contains [] s ⊎ (leaf n xs ≡ s) → leaf n xs ≡ s
    at (inl k) = none k
    at (inr e) = e

-- no segment has more items than the tree
segment_short : (t s : Tree ℕ) → Contains (segments t) s → length (run s) ≤ length (run t)
segment_short (leaf n xs) s h = omega (arith, ap (λ u. length (run u)) (leaf_only n xs s h))
segment_short (branch n l r) s h = at (side_or_whole n l r s h) (segment_short l s) (segment_short r s)
  where
    at : Contains (segments l) s ⊎ (Contains (segments r) s ⊎ (branch n l r ≡ s)) → (Contains (segments l) s → length (run s) ≤ length (run l))
        → (Contains (segments r) s → length (run s) ≤ length (run r))
        → length (run s) ≤ length (run (branch n l r))
    at (inl k) f g = omega (arith, f k, length-append (run l) (run r))
    at (inr (inl k)) f g = omega (arith, g k, length-append (run l) (run r))
    at (inr (inr e)) f g = omega (arith, ap (λ u. length (run u)) e)

module _ (items : List Item) (those : List Item) where
  pub has_here : (t : Tree ℕ) → those ≡ run_of_leaf items (run t) → HasRun items t those
  has_here t e = record { segment = t; within = whole_within t; same = e }

  -- more items than the tree has are in none of its segments
  pub has_few : (t : Tree ℕ) → length (run t) < length those → HasRun items t those → ⊥
  has_few t h k = absurd (omega (arith, segment_short t k.segment k.within, ap length k.same, length-map (run k.segment) (item_at items), h))

  pub has_leaf : (t : Tree ℕ) (n : Option ℕ) (xs : List ℕ) → t ≡ leaf n xs → HasRun items t those → those ≡ run_of_leaf items (run t)
  has_leaf t n xs e k =
      let same : leaf n xs ≡ k.segment = leaf_only n xs k.segment (subst (λ u. Contains (segments u) k.segment) e k.within) in
      k.same ∙ ap (λ u. run_of_leaf items (run u)) (sym same ∙ sym e)

  pub has_left : (t l r : Tree ℕ) (n : Option ℕ) → t ≡ branch n l r → HasRun items l those → HasRun items t those
  has_left t l r n e k = record {
    segment = k.segment;
    within = subst (λ u. Contains (segments u) k.segment) (sym e) (Contains-append_left (segments l) (segments r ++ branch n l r ∷ []) k.segment k.within);
    same = k.same;
  }

  pub has_right : (t l r : Tree ℕ) (n : Option ℕ) → t ≡ branch n l r → HasRun items r those → HasRun items t those
  has_right t l r n e k = record {
    segment = k.segment;
    within = subst (λ u. Contains (segments u) k.segment) (sym e)
        (Contains-append_right (segments l) (segments r ++ branch n l r ∷ []) k.segment
        (Contains-append_left (segments r) (branch n l r ∷ []) k.segment k.within));
    same = k.same;
  }

  pub has_side : (t l r : Tree ℕ) (n : Option ℕ) → t ≡ branch n l r → (those ≡ run_of_leaf items (run t) → ⊥) → HasRun items t those
      → HasRun items l those ⊎ HasRun items r those
  has_side t l r n e other k = at (side_or_whole n l r k.segment (subst (λ u. Contains (segments u) k.segment) e k.within))
    where
      at : Contains (segments l) k.segment ⊎ (Contains (segments r) k.segment ⊎ (branch n l r ≡ k.segment)) → HasRun items l those ⊎ HasRun items r those
      at (inl w) = inl (record { segment = k.segment; within = w; same = k.same })
      at (inr (inl w)) = inr (record { segment = k.segment; within = w; same = k.same })
      at (inr (inr w)) = absurd (other (k.same ∙ ap (λ u. run_of_leaf items (run u)) (sym w ∙ sym e)))

  pub right_side : (l r : Tree ℕ) → (HasRun items l those → ⊥) → HasRun items l those ⊎ HasRun items r those → HasRun items r those
  right_side l r off (inl h) = absurd (off h)
  right_side l r off (inr h) = h
