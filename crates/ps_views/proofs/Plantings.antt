-- What planting a tree makes of the tables, and the numbers of new items.
use Rattle.std.proofs.Common.{◌≡◌, ℕ, zero, suc, ◌+◌, ◌-◌, ◌<◌, ◌≤◌, ◌⊎◌, inl, inr, List, [], ◌∷◌, ◌++◌, length, replicate, refl, sym, ap, ap₂, ◌∙◌, subst, arith, append_assoc, append-nil, length-append, take, drop, Bool, true, false, cond, ◌||◌, eqb, nat_lt}
use Rattle.std.specs.Prelude.{Option, Some, None, map, slice_index_or}
use Rattle.std.specs.List.{list_any, range_with_len}
use Rattle.std.proofs.lemmas.Bool.{or_cases, or_left, or_right, and_from, and_parts, lt-ltb}
use Rattle.std.proofs.lemmas.Bool.Decides.{nat_tests}
use Rattle.std.proofs.lemmas.List.Folds.{list_any-append}
use Rattle.seg_tree.specs.Trees.{Tree, leaf, branch, name_of, run, run_maybe, made, named, build, splice}
use Rattle.seg_tree.specs.Measures.{is_name, uses, uses_maybe}
use Rattle.seg_tree.specs.Table.{tree, root_tree, IsRoot}
use Rattle.seg_tree.specs.Growth.{Keeps, PlantsMaybe, named_maybe, made_maybe}
use Rattle.seg_tree.proofs.Once.{uses-named-old, uses-named-one}
use Rattle.ps_versions.specs.Held.{Held}
use Rattle.ps_versions.specs.Walks.{has_name}
use Rattle.ps_versions.specs.Questions.{segments, segments_maybe}
use Rattle.ps_versions.specs.Reached.{stands, is_reached}
use Rattle.ps_journal.specs.Mapped.{mapped_maybe}
use Rattle.ps_journal.specs.State.{Item}
use Rattle.ps_journal.specs.Segments.{with_names, new_names}
use Rattle.ps_journal.proofs.Mapping.{with_names-mapped, new_names-mapped, run-mapped_maybe}
use Rattle.ps_views.specs.Views.{item_at, tree_of}
use Rattle.ps_views.specs.Older.{IsForest}
use Rattle.ps_views.specs.Fields.{are_below}
use Rattle.ps_views.specs.declared.filed.Filed.{Filed}
use Rattle.ps_views.proofs.Forests.{forest_kept}
use Rattle.ps_views.proofs.Growth.{Grown, index-append, below_append}

-- ---- how often a name stands in a tree, and whether it does
name_used : (k : ℕ) (o : Option ℕ) → 0 < is_name k o → has_name k o ≡ true
name_used k None h = absurd (omega arith)
name_used k (Some n) h = by (eqb n k) h
  where
    by : (b : Bool) → 0 < cond b 1 0 → b ≡ true
    by true h = refl
    by false h = absurd (omega arith)

used_name : (k : ℕ) (o : Option ℕ) → has_name k o ≡ true → 0 < is_name k o
used_name k None h = cc
used_name k (Some n) h = by (eqb n k) h
  where
    by : (b : Bool) → b ≡ true → 0 < cond b 1 0
    by true h = omega arith
    by false h = cc

which_side : (a b c : ℕ) → 0 < a + b + c → (0 < a) ⊎ ((0 < b) ⊎ (0 < c))
which_side a b c h = grind arith

in_branch : (k : ℕ) (n : Option ℕ) (l r : Tree ℕ) → list_any (λ s. has_name k (name_of s)) (segments (branch n l r))
    ≡ (list_any (λ s. has_name k (name_of s)) (segments l) || (list_any (λ s. has_name k (name_of s)) (segments r) || (has_name k n || false)))
in_branch k n l r =
    list_any-append (λ s. has_name k (name_of s)) (segments l) (segments r ++ branch n l r ∷ [])
    ∙ ap (λ b. list_any (λ s. has_name k (name_of s)) (segments l) || b) (list_any-append (λ s. has_name k (name_of s)) (segments r) (branch n l r ∷ []))

pub uses_stands : (k : ℕ) (t : Tree ℕ) → 0 < uses k t → stands k (Some t) ≡ true
uses_stands k (leaf n xs) h = or_left (has_name k n) false (name_used k n h)
uses_stands k (branch n l r) h = in_branch k n l r ∙ by (which_side (is_name k n) (uses k l) (uses k r) h) (uses_stands k l) (uses_stands k r)
  where
    by : (0 < is_name k n) ⊎ ((0 < uses k l) ⊎ (0 < uses k r)) → (0 < uses k l → stands k (Some l) ≡ true) → (0 < uses k r → stands k (Some r) ≡ true)
        → (stands k (Some l) || (stands k (Some r) || (has_name k n || false))) ≡ true
    by (inl h) f g = or_right (stands k (Some l)) (stands k (Some r) || (has_name k n || false)) (or_right (stands k (Some r)) (has_name k n || false) (or_left (has_name k n) false (name_used k n h)))
    by (inr (inl h)) f g = or_left (stands k (Some l)) (stands k (Some r) || (has_name k n || false)) (f h)
    by (inr (inr h)) f g = or_right (stands k (Some l)) (stands k (Some r) || (has_name k n || false)) (or_left (stands k (Some r)) (has_name k n || false) (g h))

pub stands_uses : (k : ℕ) (t : Tree ℕ) → stands k (Some t) ≡ true → 0 < uses k t
stands_uses k (leaf n xs) h = by (or_cases (has_name k n) false h)
  where
    by : (has_name k n ≡ true) ⊎ (false ≡ true) → 0 < is_name k n
    by (inl e) = used_name k n e
    by (inr e) = cc
stands_uses k (branch n l r) h = by (or_cases (stands k (Some l)) (stands k (Some r) || (has_name k n || false)) (sym (in_branch k n l r) ∙ h)) (stands_uses k l) (stands_uses k r)
  where
    own : (has_name k n ≡ true) ⊎ (false ≡ true) → 0 < is_name k n + uses k l + uses k r
    own (inl e) = let u = used_name k n e in omega (arith, u)
    own (inr e) = cc

    rest : (stands k (Some r) ≡ true) ⊎ ((has_name k n || false) ≡ true) → (stands k (Some r) ≡ true → 0 < uses k r) → 0 < is_name k n + uses k l + uses k r
    rest (inl e) g = let u = g e in omega (arith, u)
    rest (inr e) g = own (or_cases (has_name k n) false e)

    by : (stands k (Some l) ≡ true) ⊎ ((stands k (Some r) || (has_name k n || false)) ≡ true) → (stands k (Some l) ≡ true → 0 < uses k l) → (stands k (Some r) ≡ true → 0 < uses k r)
        → 0 < is_name k n + uses k l + uses k r
    by (inl e) f g = let u = f e in omega (arith, u)
    by (inr e) f g = rest (or_cases (stands k (Some r)) (has_name k n || false) e) g

pub uses_stands_maybe : (k : ℕ) (t : Option (Tree ℕ)) → 0 < uses_maybe k t → stands k t ≡ true
uses_stands_maybe k None h = absurd (omega arith)
uses_stands_maybe k (Some t) h = uses_stands k t h

pub stands_uses_maybe : (k : ℕ) (t : Option (Tree ℕ)) → stands k t ≡ true → 0 < uses_maybe k t
stands_uses_maybe k None h = cc
stands_uses_maybe k (Some t) h = stands_uses k t h

old_maybe : (k n : ℕ) (t : Option (Tree ℕ)) → k < n → uses_maybe k (named_maybe n t) ≡ uses_maybe k t
old_maybe k n None h = refl
old_maybe k n (Some t) h = uses-named-old k n t h

one_maybe : (k n : ℕ) (t : Option (Tree ℕ)) → n ≤ k → k < n + made_maybe t → uses_maybe k t ≡ 0 → uses_maybe k (named_maybe n t) ≡ 1
one_maybe k n None h g z = absurd (omega arith)
one_maybe k n (Some t) h g z = uses-named-one k n t h g z

-- LAW: a planted tree, of the old names in which a kept version reaches each
pub grown_planted : (old new : Held Filed) (t : Option (Tree ℕ)) (root : Option ℕ) (count : ℕ) → PlantsMaybe old.nodes new.nodes t root → IsForest new.nodes
    → new.kept ≡ old.kept ++ replicate (length new.nodes - length old.nodes) None
    → are_below count (run_maybe (root_tree new.nodes root)) ≡ true
    → ((k : ℕ) → k < length old.nodes → 0 < uses_maybe k t → is_reached old k ≡ true)
    → ((k : ℕ) → length old.nodes ≤ k → uses_maybe k t ≡ 0)
    → Grown old new root count
grown_planted old new t root count p forest kept below reached unused = record {
  trees = p.kept;
  forest = forest;
  kept = kept;
  within = p.within;
  below = below;
  old_ones = old_ones;
  new_ones = new_ones;
} where
  old_ones : (k : ℕ) → k < length old.nodes → stands k (root_tree new.nodes root) ≡ true → is_reached old k ≡ true
  old_ones k near s =
      let used : 0 < uses_maybe k (named_maybe (length old.nodes) t) = stands_uses_maybe k (named_maybe (length old.nodes) t) (ap (stands k) (sym p.at) ∙ s) in
      reached k near (omega (arith, used, old_maybe k (length old.nodes) t near))

  new_ones : (k : ℕ) → length old.nodes ≤ k → k < length new.nodes → stands k (root_tree new.nodes root) ≡ true
  new_ones k from there =
      let once : uses_maybe k (named_maybe (length old.nodes) t) ≡ 1 = one_maybe k (length old.nodes) t from (omega (arith, p.count, there)) (unused k from) in
      ap (stands k) p.at ∙ uses_stands_maybe k (named_maybe (length old.nodes) t) (omega (arith, once))

-- LAW: the trees are made of older ones, where a planted root tells so, and where there is none
pub forest_planted : (old new : List (Tree ℕ)) (t : Option (Tree ℕ)) (root : Option ℕ) → PlantsMaybe old new t root → IsForest old → ((r : ℕ) → root ≡ Some r → IsForest new) → IsForest new
forest_planted old new t (Some r) p f h = h r refl
forest_planted old new t None p f h = forest_kept old new p.kept (omega (arith, p.count, nothing_made t p.at)) f
  where
    nothing_made : (t : Option (Tree ℕ)) → None ≡ named_maybe (length old) t → made_maybe t ≡ 0
    nothing_made None e = refl
    nothing_made (Some t) e = cc

-- ---- the tree of a planted root, with items in place of numbers
pub names_same : (n : ℕ) (t : Option (Tree ℕ)) → named_maybe n t ≡ with_names n t
names_same n None = refl
names_same n (Some t) = refl

pub made_same : (t : Option (Tree ℕ)) → made_maybe t ≡ new_names t
made_same None = refl
made_same (Some t) = refl

pub planted_tree : (items : List Item) (old new : List (Tree ℕ)) (t : Option (Tree ℕ)) (root : Option ℕ) → PlantsMaybe old new t root
    → tree_of items new root ≡ with_names (length old) (mapped_maybe (item_at items) t)
planted_tree items old new t root p = ap (mapped_maybe (item_at items)) (p.at ∙ names_same (length old) t) ∙ with_names-mapped (item_at items) (length old) t

pub planted_names : (items : List Item) (old new : List (Tree ℕ)) (t : Option (Tree ℕ)) (root : Option ℕ) → PlantsMaybe old new t root
    → length old + new_names (mapped_maybe (item_at items) t) ≡ length new
planted_names items old new t root p = omega (arith, p.count, made_same t, new_names-mapped (item_at items) t)

-- ---- numbers of new items
module _ {A : Type 0} (d : A) where
  pub map_new : (xs ys : List A) (n : ℕ) → n ≡ length xs → map (λ k. slice_index_or (xs ++ ys) k d) (range_with_len n (length ys)) ≡ ys
  map_new xs [] n e = refl
  map_new xs (y ∷ ys) n e =
      let whole : xs ++ y ∷ ys ≡ (xs ++ y ∷ []) ++ ys = sym (append_assoc xs (y ∷ []) ys) in
      ap₂ (λ z zs. z ∷ zs) (ap (λ k. slice_index_or (xs ++ y ∷ ys) k d) e ∙ here xs y ys)
      (ap (λ zs. map (λ k. slice_index_or zs k d) (range_with_len (n + 1) (length ys))) whole ∙ map_new (xs ++ y ∷ []) ys (n + 1) (omega (arith, length-append xs (y ∷ []))))
    where
      here : (xs : List A) (y : A) (ys : List A) → slice_index_or (xs ++ y ∷ ys) (length xs) d ≡ y
      here [] y ys = refl
      here (x ∷ xs) y ys = here xs y ys

pub range_below : (n m count : ℕ) → n + m ≤ count → are_below count (range_with_len n m) ≡ true
range_below n zero count h = refl
range_below n (suc m) count h = and_from (nat_lt n count) (are_below count (range_with_len (n + 1) m)) (lt-ltb n count (omega arith)) (range_below (n + 1) m count (omega arith))

parts_of : (count k : ℕ) (ks : List ℕ) → are_below count (k ∷ ks) ≡ true → (nat_lt k count ≡ true) × (are_below count ks ≡ true)
parts_of count k ks h = and_parts (nat_lt k count) (are_below count ks) h

pub take_below : (count n : ℕ) (ks : List ℕ) → are_below count ks ≡ true → are_below count (take n ks) ≡ true
take_below count zero [] h = refl
take_below count (suc n) [] h = refl
take_below count zero (k ∷ ks) h = refl
take_below count (suc n) (k ∷ ks) h = let parts = parts_of count k ks h in and_from (nat_lt k count) (are_below count (take n ks)) parts.0 (take_below count n ks parts.1)

pub drop_below : (count n : ℕ) (ks : List ℕ) → are_below count ks ≡ true → are_below count (drop n ks) ≡ true
drop_below count zero [] h = refl
drop_below count (suc n) [] h = refl
drop_below count zero (k ∷ ks) h = h
drop_below count (suc n) (k ∷ ks) h = drop_below count n ks (parts_of count k ks h).1
