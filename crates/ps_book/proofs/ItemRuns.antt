-- The items of leaves and branches, as they are read.
use Rattle.std.proofs.Common.{◌≡◌, ℕ, zero, suc, ◌+◌, ◌<◌, ◌≤◌, true, List, [], ◌∷◌, ◌++◌, length, map, take, drop, get_or, refl, sym, ap, ap₂, ◌∙◌, arith, ltb-true}
use Rattle.std.specs.Prelude.{Some, nat_lt}
use Rattle.std.specs.declared.sync.Arc.{Arc}
use Rattle.std.specs.declared.alloc.Global.{Global}
use Rattle.std.proofs.Math.Seq.{take-append_seam, drop-append_seam}
use Rattle.std.proofs.lemmas.Bool.{and_parts}
use Rattle.std.proofs.lemmas.List.{length-map, get_or-map, take-map, drop-map, take_more, take-append-drop, length-append}
use Rattle.seg_tree.specs.Trees.{Tree, leaf, branch, run}
use Rattle.seg_tree.specs.Table.{tree}
use Rattle.ps_prim.specs.declared.items.Item.{Item as AnItem}
use Rattle.ps_reach.specs.Runs.{prims_of}
use Rattle.ps_journal.specs.State.{Item}
use Rattle.ps_views.specs.Views.{items_in, item_at, run_at, run_of_leaf}
use Rattle.ps_views.specs.Fields.{are_below}
use Rattle.ps_views.proofs.Lists.{map_append}

-- the item of a number, and the number of items
pub item_read : (xs : List (Arc AnItem Global)) (k : ℕ) (a : Arc AnItem Global) → k < length xs → a ≡ get_or xs k a → prims_of a ≡ item_at (items_in xs) k
item_read xs k a h e = ap prims_of e ∙ sym (get_or-map prims_of xs k a [] h)

pub below_at : (n : ℕ) (numbers : List ℕ) (i d : ℕ) → i < length numbers → are_below n numbers ≡ true → get_or numbers i d < n
below_at n [] i d h e = absurd (omega arith)
below_at n (x ∷ xs) zero d h e = ltb-true x n (and_parts (nat_lt x n) (are_below n xs) e).0
below_at n (x ∷ xs) (suc i) d h e = below_at n xs i d (omega arith) (and_parts (nat_lt x n) (are_below n xs) e).1

-- ---- the items of a node's tree
pub leaf_numbers : (xs : List (Arc AnItem Global)) (ts : List (Tree ℕ)) (k : ℕ) (numbers : List ℕ) → are_below (length (items_in xs)) (run (tree ts k)) ≡ true
    → tree ts k ≡ leaf (Some k) numbers → are_below (length xs) numbers ≡ true
leaf_numbers xs ts k numbers h e =
    ap (λ n. are_below n numbers) (sym (length-map xs prims_of)) ∙ ap (λ t. are_below (length (items_in xs)) (run t)) (sym e) ∙ h

module _ (items : List Item) (ts : List (Tree ℕ)) where
  pub leaf_run : (k : ℕ) (numbers : List ℕ) → tree ts k ≡ leaf (Some k) numbers → run_at items ts k ≡ run_of_leaf items numbers
  leaf_run k numbers e = ap (λ t. run_of_leaf items (run t)) e

  pub branch_run : (k l r : ℕ) → tree ts k ≡ branch (Some k) (tree ts l) (tree ts r) → run_at items ts k ≡ run_at items ts l ++ run_at items ts r
  branch_run k l r e = ap (λ t. run_of_leaf items (run t)) e ∙ map_append (item_at items) (run (tree ts l)) (run (tree ts r))

  run_length : (k : ℕ) → length (run_at items ts k) ≡ length (run (tree ts k))
  run_length k = length-map (run (tree ts k)) (item_at items)

  -- items behind others
  pub appended : (k l r : ℕ) (old mid new : List Item) → tree ts k ≡ branch (Some k) (tree ts l) (tree ts r) → mid ≡ old ++ run_at items ts l
      → new ≡ mid ++ run_at items ts r → new ≡ old ++ run_at items ts k
  appended k l r old mid new e p q =
      q ∙ ap (λ xs. xs ++ run_at items ts r) p ∙ assoc old (run_at items ts l) (run_at items ts r) ∙ ap (λ xs. old ++ xs) (sym (branch_run k l r e))
    where
      assoc : (a b c : List Item) → (a ++ b) ++ c ≡ a ++ (b ++ c)
      assoc [] b c = refl
      assoc (x ∷ a) b c = ap (λ xs. x ∷ xs) (assoc a b c)

  -- the items of the two sides, one after the other
  pub both_runs : (k l r n : ℕ) (xs : List (Arc AnItem Global)) → tree ts k ≡ branch (Some k) (tree ts l) (tree ts r)
      → map prims_of (take n xs) ≡ run_at items ts l → map prims_of (drop n xs) ≡ run_at items ts r → map prims_of xs ≡ run_at items ts k
  both_runs k l r n xs e p q =
      sym (take-append-drop n (map prims_of xs))
      ∙ ap₂ (λ a b. a ++ b) (take-map prims_of n xs ∙ p) (drop-map prims_of n xs ∙ q)
      ∙ sym (branch_run k l r e)

  pub front_run : (k l r n : ℕ) (xs : List (Arc AnItem Global)) → tree ts k ≡ branch (Some k) (tree ts l) (tree ts r) → n ≡ length (run (tree ts l))
      → map prims_of xs ≡ run_at items ts k → map prims_of (take n xs) ≡ run_at items ts l
  front_run k l r n xs e len h =
      sym (take-map prims_of n xs) ∙ ap (take n) (h ∙ branch_run k l r e)
      ∙ ap (λ m. take m (run_at items ts l ++ run_at items ts r)) (len ∙ sym (run_length l)) ∙ take-append_seam (run_at items ts l) (run_at items ts r)

  pub back_run : (k l r n : ℕ) (xs : List (Arc AnItem Global)) → tree ts k ≡ branch (Some k) (tree ts l) (tree ts r) → n ≡ length (run (tree ts l))
      → map prims_of xs ≡ run_at items ts k → map prims_of (drop n xs) ≡ run_at items ts r
  back_run k l r n xs e len h =
      sym (drop-map prims_of n xs) ∙ ap (drop n) (h ∙ branch_run k l r e)
      ∙ ap (λ m. drop m (run_at items ts l ++ run_at items ts r)) (len ∙ sym (run_length l)) ∙ drop-append_seam (run_at items ts l) (run_at items ts r)

  -- the items of a branch are no fewer than those of its left side
  pub front_short : (k l r : ℕ) (xs : List (Arc AnItem Global)) → tree ts k ≡ branch (Some k) (tree ts l) (tree ts r) → map prims_of xs ≡ run_at items ts k
      → length (run (tree ts l)) ≤ length xs
  front_short k l r xs e h =
      omega (
        arith,
        length-map xs prims_of,
        ap length (h ∙ branch_run k l r e),
        length-append (run_at items ts l) (run_at items ts r),
        run_length l,
      )

-- ---- the items of a leaf, one after the other
-- one item more
pub leaf_more : (items : List Item) (numbers : List ℕ) (i : ℕ) (d : ℕ) → i < length numbers
    → run_of_leaf items (take (i + 1) numbers) ≡ run_of_leaf items (take i numbers) ++ item_at items (get_or numbers i d) ∷ []
leaf_more items numbers i d h = ap (run_of_leaf items) (take_more numbers i d h) ∙ map_append (item_at items) (take i numbers) (get_or numbers i d ∷ [])

pub prims_more : (xs : List (Arc AnItem Global)) (i : ℕ) (d : Arc AnItem Global) → i < length xs
    → map prims_of (take (i + 1) xs) ≡ map prims_of (take i xs) ++ prims_of (get_or xs i d) ∷ []
prims_more xs i d h = ap (map prims_of) (take_more xs i d h) ∙ map_append prims_of (take i xs) (get_or xs i d ∷ [])

-- lists that are one have the same item at each place
pub same_at : (items : List Item) (xs : List (Arc AnItem Global)) (numbers : List ℕ) (i : ℕ) (d : Arc AnItem Global) (e : ℕ) → i < length xs
    → i < length numbers
    → map prims_of xs ≡ run_of_leaf items numbers → prims_of (get_or xs i d) ≡ item_at items (get_or numbers i e)
same_at items xs numbers i d e h k same =
    sym (get_or-map prims_of xs i d [] h) ∙ ap (λ l. get_or l i []) same ∙ get_or-map (item_at items) numbers i e [] k
