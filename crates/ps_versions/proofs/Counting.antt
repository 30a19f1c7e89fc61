-- Counts over the segments of a tree.
use Rattle.std.proofs.Common.{◌≡◌, ℕ, ◌+◌, ◌*◌, ◌<◌, ◌≤◌, List, [], ◌∷◌, ◌++◌, length, refl, sym, ap, ◌∙◌, arith, length-append, Bool, true, false, cond, ◌||◌}
use Rattle.std.specs.Prelude.{Option, Some, None, is_none}
use Rattle.std.specs.List.{list_any, count_by}
use Rattle.std.proofs.lemmas.List.Folds.{list_any-append}
use Rattle.std.proofs.lemmas.List.Sums.{count_by-le-length}
use Rattle.std.proofs.lemmas.List.Recursion.{is_count_by}
use Rattle.seg_tree.specs.Trees.{Tree, leaf, branch, name_of}
use Rattle.seg_tree.specs.Measures.{leaves}
use Rattle.seg_tree.specs.Seen.{Shows}
use Rattle.seg_tree.specs.Table.{tree}
use Rattle.seg_tree.specs.declared.node.Seen.{Seen}
use Rattle.seg_tree.specs.declared.node.Seen.TheVariants as seen
use Rattle.ps_versions.specs.Records.{record_at}
use Rattle.ps_versions.specs.Questions.{segments, lacks, lacks_by, missing_in, first_of, first_named, behind}
use Rattle.ps_versions.specs.Walks.{has_name, found, visited, walked, is_found, start, outcome}
use Rattle.ps_versions.specs.declared.walks.Walk.{Walk}
use Rattle.ps_versions.specs.declared.walks.Walk.TheVariants.{Seeking, Looking, Found}

-- a node of a table has its place as its name
pub named_shown : (ts : List (Tree ℕ)) (k : ℕ) (s : Seen) → Shows ts k s → name_of (tree ts k) ≡ Some k
named_shown ts k (seen.Leaf items) h = ap name_of h.0
named_shown ts k (seen.Branch left right) h = ap name_of h.0

module _ {A : Type 0} (p : A → Bool) where
  abbrev pub counted : List A → ℕ
  counted [] = 0
  counted (x ∷ xs) = cond (p x) (1 + counted xs) (counted xs)

  pub counted_is : (xs : List A) → counted xs ≡ count_by p xs
  counted_is xs = is_count_by counted p refl (λ x xs. refl) xs

  counted-append : (xs ys : List A) → counted (xs ++ ys) ≡ counted xs + counted ys
  counted-append [] ys = omega arith
  counted-append (x ∷ xs) ys = step (p x) (counted (xs ++ ys)) (counted xs) (counted ys) (counted-append xs ys)
    where
      step : (b : Bool) (l m n : ℕ) → l ≡ m + n → cond b (1 + l) l ≡ cond b (1 + m) m + n
      step true l m n e = omega arith
      step false l m n e = omega arith

  pub count-append : (xs ys : List A) → count_by p (xs ++ ys) ≡ count_by p xs + count_by p ys
  count-append xs ys = omega (arith, counted-append xs ys, counted_is (xs ++ ys), counted_is xs, counted_is ys)

  count-one : (x : A) → count_by p (x ∷ []) ≡ cond (p x) 1 0
  count-one x = sym (counted_is (x ∷ []))

-- the segments of a tree are fewer than two for each leaf
pub count_segments : (t : Tree ℕ) → length (segments t) < 2 * leaves t
count_segments (leaf n xs) = omega arith
count_segments (branch n l r) = omega (arith, length-append (segments l) (segments r ++ branch n l r ∷ []), length-append (segments r) (branch n l r ∷ []), count_segments l, count_segments r)

pub segments_leaf : (t : Tree ℕ) (n : Option ℕ) (xs : List ℕ) → t ≡ leaf n xs → segments t ≡ t ∷ []
segments_leaf t n xs e = ap segments e ∙ ap (λ u. u ∷ []) (sym e)

pub segments_branch : (t : Tree ℕ) (n : Option ℕ) (l r : Tree ℕ) → t ≡ branch n l r → segments t ≡ segments l ++ (segments r ++ t ∷ [])
segments_branch t n l r e = ap segments e ∙ ap (λ u. segments l ++ (segments r ++ u ∷ [])) (sym e)

pub length_branch : (t : Tree ℕ) (n : Option ℕ) (l r : Tree ℕ) → t ≡ branch n l r → length (segments t) ≡ length (segments l) + length (segments r) + 1
length_branch t n l r e = omega (arith, ap length (segments_branch t n l r e), length-append (segments l) (segments r ++ t ∷ []), length-append (segments r) (t ∷ []))

module _ {R : Type 0} (kept : List (Option (ℕ × R))) where
  pub missing_leaf : (t : Tree ℕ) (n : Option ℕ) (xs : List ℕ) → t ≡ leaf n xs → missing_in kept (Some t) ≡ cond (lacks kept t) 1 0
  missing_leaf t n xs e = ap (count_by (lacks kept)) (segments_leaf t n xs e) ∙ count-one (lacks kept) t

  pub missing_branch : (t : Tree ℕ) (n : Option ℕ) (l r : Tree ℕ) → t ≡ branch n l r → missing_in kept (Some t) ≡ missing_in kept (Some l) + missing_in kept (Some r) + cond (lacks kept t) 1 0
  missing_branch t n l r e = omega (
    arith,
    ap (count_by (lacks kept)) (segments_branch t n l r e),
    count-append (lacks kept) (segments l) (segments r ++ t ∷ []),
    count-append (lacks kept) (segments r) (t ∷ []),
    count-one (lacks kept) t,
  )

  pub missing_most : (t : Tree ℕ) → missing_in kept (Some t) ≤ length (segments t)
  missing_most t = count_by-le-length (lacks kept) (segments t)

pub lacks_named : {R : Type 0} → (kept : List (Option (ℕ × R))) (t : Tree ℕ) (k : ℕ) (b : Bool) → name_of t ≡ Some k → b ≡ is_none (record_at kept k) → b ≡ lacks kept t
lacks_named kept t k b e h = h ∙ ap (lacks_by kept) (sym e)

-- whether one of the segments is so
module _ (p : Tree ℕ → Bool) where
  any-one : (x : Tree ℕ) → list_any p (x ∷ []) ≡ p x
  any-one x = or_false (p x)
    where
      or_false : (b : Bool) → (b || false) ≡ b
      or_false true = refl
      or_false false = refl

  pub any_leaf : (t : Tree ℕ) (n : Option ℕ) (xs : List ℕ) → t ≡ leaf n xs → list_any p (segments t) ≡ p t
  any_leaf t n xs e = ap (list_any p) (segments_leaf t n xs e) ∙ any-one t

  turned : (a b c : Bool) → (a || (b || c)) ≡ (c || (a || b))
  turned true b true = refl
  turned true b false = refl
  turned false true true = refl
  turned false true false = refl
  turned false false true = refl
  turned false false false = refl

  pub any_branch : (t : Tree ℕ) (n : Option ℕ) (l r : Tree ℕ) → t ≡ branch n l r → list_any p (segments t) ≡ (p t || (list_any p (segments l) || list_any p (segments r)))
  any_branch t n l r e =
      ap (list_any p) (segments_branch t n l r e)
      ∙ list_any-append p (segments l) (segments r ++ t ∷ [])
      ∙ ap (λ b. list_any p (segments l) || b) (list_any-append p (segments r) (t ∷ []) ∙ ap (λ b. list_any p (segments r) || b) (any-one t))
      ∙ turned (list_any p (segments l)) (list_any p (segments r)) (p t)

  pub any_here : (t : Tree ℕ) → p t ≡ true → list_any p (segments t) ≡ true
  any_here (leaf n xs) e = any_leaf (leaf n xs) n xs refl ∙ e
  any_here (branch n l r) e = any_branch (branch n l r) n l r refl ∙ ap (λ b. b || (list_any p (segments l) || list_any p (segments r))) e

-- walks
module _ (ready : Tree ℕ → Bool) where
  pub walked-append : (w : Walk) (xs ys : List (Tree ℕ)) → walked ready w (xs ++ ys) ≡ walked ready (walked ready w xs) ys
  walked-append w [] ys = refl
  walked-append w (x ∷ xs) ys = walked-append (visited ready w x) xs ys

  pub walked-found : (k : ℕ) (ts : List (Tree ℕ)) → walked ready (Found k) ts ≡ Found k
  walked-found k [] = refl
  walked-found k (t ∷ ts) = walked-found k ts

  pub walk_over : (w : Walk) (ts : List (Tree ℕ)) → is_found w ≡ true → w ≡ walked ready w ts
  walk_over (Seeking k) ts e = cc
  walk_over Looking ts e = cc
  walk_over (Found k) ts e = sym (walked-found k ts)

  pub walk_leaf : (w : Walk) (t : Tree ℕ) (n : Option ℕ) (xs : List ℕ) → t ≡ leaf n xs → walked ready w (segments t) ≡ visited ready w t
  walk_leaf w t n xs e = ap (walked ready w) (segments_leaf t n xs e)

  pub walk_branch : (w : Walk) (t : Tree ℕ) (n : Option ℕ) (l r : Tree ℕ) → t ≡ branch n l r → walked ready w (segments t) ≡ visited ready (walked ready (walked ready w (segments l)) (segments r)) t
  walk_branch w t n l r e =
      ap (walked ready w) (segments_branch t n l r e)
      ∙ walked-append w (segments l) (segments r ++ t ∷ [])
      ∙ walked-append (walked ready w (segments l)) (segments r) (t ∷ [])

  looked : (b : Bool) (name : Option ℕ) (ts : List (Tree ℕ)) (rest : Option ℕ) → outcome (walked ready Looking ts) ≡ rest → outcome (walked ready (found b name) ts) ≡ first_of b name rest
  looked true (Some k) ts rest e = ap outcome (walked-found k ts)
  looked true None ts rest e = e
  looked false name ts rest e = e

  pub looking : (ts : List (Tree ℕ)) → outcome (walked ready Looking ts) ≡ first_named ready ts
  looking [] = refl
  looking (t ∷ ts) = looked (ready t) (name_of t) ts (first_named ready ts) (looking ts)

  sought : (b : Bool) (k : ℕ) (ts : List (Tree ℕ)) → outcome (walked ready (Seeking k) ts) ≡ first_named ready (behind (Some k) ts) → outcome (walked ready (cond b Looking (Seeking k)) ts) ≡ first_named ready (cond b ts (behind (Some k) ts))
  sought true k ts e = looking ts
  sought false k ts e = e

  pub seeking : (k : ℕ) (ts : List (Tree ℕ)) → outcome (walked ready (Seeking k) ts) ≡ first_named ready (behind (Some k) ts)
  seeking k [] = refl
  seeking k (t ∷ ts) = sought (has_name k (name_of t)) k ts (seeking k ts)

  pub gone : (after : Option ℕ) (ts : List (Tree ℕ)) → outcome (walked ready (start after) ts) ≡ first_named ready (behind after ts)
  gone None ts = looking ts
  gone (Some k) ts = seeking k ts
