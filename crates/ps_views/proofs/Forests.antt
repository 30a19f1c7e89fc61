-- The segments of a node's tree are the trees of older nodes.
use Rattle.std.proofs.Common.{◌≡◌, ℕ, zero, suc, ◌+◌, ◌<◌, ◌≤◌, List, [], ◌∷◌, ◌++◌, length, refl, sym, ap, ◌∙◌, subst, arith, Bool, true, false, eqb, ◌||◌}
use Rattle.std.specs.Prelude.{Option, Some, None, slice_get}
use Rattle.std.specs.List.{AllByRecursion, list_any}
use Rattle.std.proofs.lemmas.Bool.Decides.{nat_tests}
use Rattle.seg_tree.specs.Trees.{Tree, leaf, branch, name_of}
use Rattle.seg_tree.specs.Table.{tree}
use Rattle.seg_tree.specs.Growth.{Keeps}
use Rattle.ps_views.specs.Older.{number_in, number_of, IsOlder, IsForest}
use Rattle.ps_versions.specs.Walks.{has_name}
use Rattle.ps_versions.specs.Questions.{segments}
use Rattle.ps_views.proofs.Lists.{all_append, all_weaker, all_from, any_here}

pub older_by : (ts : List (Tree ℕ)) (m n : ℕ) (t : Tree ℕ) → m ≤ n → IsOlder ts m t → IsOlder ts n t
older_by ts m n t near h = record { below = omega (arith, h.below); same = h.same }

-- a node's tree is itself one of those of nodes below any greater number
pub older_root : (ts : List (Tree ℕ)) (k n : ℕ) → IsForest ts → k < length ts → k < n → IsOlder ts n (tree ts k)
older_root ts k n f there near =
    let number : number_of (tree ts k) ≡ k = ap number_in (f.named k there) in
    record { below = omega (arith, number); same = ap (tree ts) number }

-- it has its number as its name
pub older_named : (ts : List (Tree ℕ)) (n : ℕ) (t : Tree ℕ) → IsForest ts → n ≤ length ts → IsOlder ts n t → name_of t ≡ Some (number_of t)
older_named ts n t f near h = ap name_of (sym h.same) ∙ f.named (number_of t) (omega (arith, h.below))

-- so are all segments of such a tree
pub older_segments : (ts : List (Tree ℕ)) (n : ℕ) (t : Tree ℕ) → IsForest ts → n ≤ length ts → IsOlder ts n t → AllByRecursion (IsOlder ts n) (segments t)
older_segments ts n (leaf name items) f near h = (h, tt)
older_segments ts n (branch name l r) f near h =
    let k = number_of (branch name l r) in
    let there : k < length ts = omega (arith, h.below) in
    let left : IsOlder ts n l = older_by ts k n l (omega (arith, h.below)) (f.left k name l r there h.same) in
    let right : IsOlder ts n r = older_by ts k n r (omega (arith, h.below)) (f.right k name l r there h.same) in
    all_append (IsOlder ts n) (segments l) (segments r ++ branch name l r ∷ []) (older_segments ts n l f near left)
    (all_append (IsOlder ts n) (segments r) (branch name l r ∷ []) (older_segments ts n r f near right) (h, tt))

-- where no node is new, the trees are what they were
pub forest_kept : (old new : List (Tree ℕ)) → Keeps old new → length new ≡ length old → IsForest old → IsForest new
forest_kept old new kept same f = record {
  named = λ k near. ap name_of (at k near) ∙ f.named k (omega (arith, same));
  left = λ k n l r near e. moved k l near (f.left k n l r (omega (arith, same)) (sym (at k near) ∙ e));
  right = λ k n l r near e. moved k r near (f.right k n l r (omega (arith, same)) (sym (at k near) ∙ e));
} where
  at : (k : ℕ) → k < length new → tree new k ≡ tree old k
  at k near = kept.same k (omega (arith, same))

  moved : (k : ℕ) (t : Tree ℕ) → k < length new → IsOlder old k t → IsOlder new k t
  moved k t near h = record { below = h.below; same = kept.same (number_of t) (omega (arith, same, h.below)) ∙ h.same }

-- each segment's number is the name of one
pub named_segments : (ts : List (Tree ℕ)) → AllByRecursion (λ s. name_of s ≡ Some (number_of s)) ts → AllByRecursion (λ s. list_any (λ u. has_name (number_of s) (name_of u)) ts ≡ true) ts
named_segments ts h = all_from (λ s. list_any (λ u. has_name (number_of s) (name_of u)) ts ≡ true) ts (λ j s e. any_here (λ u. has_name (number_of s) (name_of u)) ts j s e (own s (at ts j s h e)))
  where
    same_name : (m : ℕ) → eqb m m ≡ true
    same_name m = grind (arith, nat_tests)

    own : (s : Tree ℕ) → name_of s ≡ Some (number_of s) → has_name (number_of s) (name_of s) ≡ true
    own s e = ap (has_name (number_of s)) e ∙ same_name (number_of s)

    at : (xs : List (Tree ℕ)) (j : ℕ) (s : Tree ℕ) → AllByRecursion (λ u. name_of u ≡ Some (number_of u)) xs → slice_get xs j ≡ Some s → name_of s ≡ Some (number_of s)
    at [] j s h e = cc
    at (y ∷ xs) zero s h e = let same : y ≡ s = cc in subst (λ u. name_of u ≡ Some (number_of u)) same h.0
    at (y ∷ xs) (suc j) s h e = at xs j s h.1 e
