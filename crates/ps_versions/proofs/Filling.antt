-- Where something is kept, all segments below keep sums; and how many records say that a limit was passed.
use Rattle.std.proofs.Common.{◌≡◌, ℕ, zero, suc, ◌+◌, ◌<◌, ◌≤◌, ◌⊎◌, inl, inr, List, [], ◌∷◌, ◌++◌, length, replicate, refl, sym, ap, ◌∙◌, subst, arith, Bool, true, false, cond, not, ◌&&◌, ◌||◌}
use Rattle.std.specs.Prelude.{Option, Some, None, is_none, is_some, slice_set, eqb}
use Rattle.std.specs.List.{list_all, list_any, count_by}
use Rattle.std.proofs.lemmas.List.Folds.{list_all-append}
use Rattle.seg_tree.specs.Trees.{Tree, leaf, branch, name_of}
use Rattle.seg_tree.specs.Seen.{Shows}
use Rattle.seg_tree.specs.Table.{tree}
use Rattle.seg_tree.specs.Growth.{Keeps}
use Rattle.seg_tree.specs.declared.node.Seen.{Seen}
use Rattle.seg_tree.specs.declared.node.Seen.TheVariants as seen
use Rattle.ps_versions.specs.Records.{record_at, HasSumIn, HasSumAt, ChildrenHaveSums}
use Rattle.ps_versions.specs.Questions.{segments, below, is_sum, is_passed, kept_by, lacks, has_sum, has_passed, below_have_sums}
use Rattle.ps_versions.specs.Views.{IsFilled}
use Rattle.ps_versions.proofs.Counting.{counted, counted_is}

both : (a b : Bool) → a ≡ true → b ≡ true → (a && b) ≡ true
both true b e f = f
both false b e f = cc

pub and_split : (a b : Bool) → (a && b) ≡ true → (a ≡ true) × (b ≡ true)
and_split true b e = (refl, e)
and_split false b e = cc

-- the segments of a tree are those below its root, and the tree
pub all_segments : (p : Tree ℕ → Bool) (t : Tree ℕ) → list_all p (below t) ≡ true → p t ≡ true → list_all p (segments t) ≡ true
all_segments p (leaf n xs) h e = both (p (leaf n xs)) true e refl
all_segments p (branch n l r) h e =
    let split = and_split (list_all p (segments l)) (list_all p (segments r)) (sym (list_all-append p (segments l) (segments r)) ∙ h) in
    list_all-append p (segments l) (segments r ++ branch n l r ∷ [])
    ∙ both (list_all p (segments l)) _ split.0 (list_all-append p (segments r) (branch n l r ∷ []) ∙ both (list_all p (segments r)) _ split.1 (both (p (branch n l r)) true e refl))

module _ {R : Type 0} where
  -- the records that stand stay as they are
  pub record Stays (old new : List (Option (ℕ × R))) : Type 0 where
    pub each : (k : ℕ) (r : ℕ × R) → record_at old k ≡ Some r → record_at new k ≡ Some r

  pub read_past : (ks : List (Option (ℕ × R))) (k : ℕ) → length ks ≤ k → record_at ks k ≡ None
  read_past [] k h = refl
  read_past (x ∷ ks) zero h = absurd (omega arith)
  read_past (x ∷ ks) (suc k) h = read_past ks k (omega arith)

  read_none : (m k : ℕ) → record_at {R = R} (replicate m None) k ≡ None
  read_none zero k = refl
  read_none (suc m) zero = refl
  read_none (suc m) (suc k) = read_none m k

  pub read_more : (ks : List (Option (ℕ × R))) (m k : ℕ) → record_at (ks ++ replicate m None) k ≡ record_at ks k
  read_more [] m k = read_none m k
  read_more (x ∷ ks) m zero = refl
  read_more (x ∷ ks) m (suc k) = read_more ks m k

  pub read_set : (ks : List (Option (ℕ × R))) (i k : ℕ) (r : Option (ℕ × R)) → (k < i) ⊎ (i < k) → record_at (slice_set ks i r) k ≡ record_at ks k
  read_set [] i k r h = refl
  read_set (x ∷ ks) zero zero r (inl h) = absurd (omega arith)
  read_set (x ∷ ks) zero zero r (inr h) = absurd (omega arith)
  read_set (x ∷ ks) zero (suc k) r h = refl
  read_set (x ∷ ks) (suc i) zero r h = refl
  read_set (x ∷ ks) (suc i) (suc k) r (inl h) = read_set ks i k r (inl (omega arith))
  read_set (x ∷ ks) (suc i) (suc k) r (inr h) = read_set ks i k r (inr (omega arith))

  pub there_kept : (ks : List (Option (ℕ × R))) (k : ℕ) → is_some (record_at ks k) ≡ true → k < length ks
  there_kept [] k h = cc
  there_kept (x ∷ ks) zero h = omega arith
  there_kept (x ∷ ks) (suc k) h = omega (arith, there_kept ks k h)

which : (k n : ℕ) → (k < n) ⊎ ((k ≡ n) ⊎ (n < k))
which k n = grind arith

module _ {R : Type 0} (passed : R → Bool) where
  sum_stays : (old new : List (Option (ℕ × R))) → Stays old new → (name : Option ℕ) → is_sum passed (kept_by old name) ≡ true → is_sum passed (kept_by new name) ≡ true
  sum_stays old new s None e = cc
  sum_stays old new s (Some k) e = at (record_at old k) refl e
    where
      at : (o : Option (ℕ × R)) → record_at old k ≡ o → is_sum passed o ≡ true → is_sum passed (record_at new k) ≡ true
      at None p e = cc
      at (Some r) p e = ap (is_sum passed) (s.each k r p) ∙ e

  all_stay : (old new : List (Option (ℕ × R))) → Stays old new → (ts : List (Tree ℕ)) → list_all (has_sum old passed) ts ≡ true → list_all (has_sum new passed) ts ≡ true
  all_stay old new s [] e = refl
  all_stay old new s (t ∷ ts) e =
      let split = and_split (has_sum old passed t) (list_all (has_sum old passed) ts) e in
      both (has_sum new passed t) _ (sum_stays old new s (name_of t) split.0) (all_stay old new s ts split.1)

  -- with more nodes, which keep nothing
  pub filled_grown : (nodes more : List (Tree ℕ)) (old new : List (Option (ℕ × R))) (m : ℕ) → Keeps nodes more → new ≡ old ++ replicate m None → length old ≡ length nodes → IsFilled passed nodes old → IsFilled passed more new
  filled_grown nodes more old new m k e len f =
      λ i h.
      let same : record_at new i ≡ record_at old i = ap (λ ks. record_at ks i) e ∙ read_more old m i in
      let was : is_some (record_at old i) ≡ true = ap is_some (sym same) ∙ h in
      let there : i < length nodes = omega (arith, there_kept old i was, len) in
      let stays : Stays old new = record { each = λ j r p. ap (λ ks. record_at ks j) e ∙ read_more old m j ∙ p } in
      ap (λ t. list_all (has_sum new passed) (below t)) (k.same i there) ∙ all_stay old new stays (below (tree nodes i)) (f i was)

  -- with one more record, below which all have sums
  pub filled_stored : (nodes : List (Tree ℕ)) (old : List (Option (ℕ × R))) (k : ℕ) (x : ℕ × R) → record_at old k ≡ None → below_have_sums old passed (tree nodes k) ≡ true → IsFilled passed nodes old → IsFilled passed nodes (slice_set old k (Some x))
  filled_stored nodes old k x none full f = λ i h. all_stay old new stays (below (tree nodes i)) (at i h (which i k))
    where
      some_none : (r : ℕ × R) → None ≡ Some r → ⊥
      some_none r e = cc

      new : List (Option (ℕ × R))
      new = slice_set old k (Some x)

      stays : Stays old (slice_set old k (Some x))
      stays = record { each = λ j r p. each j r p (which j k) }
        where
          each : (j : ℕ) (r : ℕ × R) → record_at old j ≡ Some r → (j < k) ⊎ ((j ≡ k) ⊎ (k < j)) → record_at (slice_set old k (Some x)) j ≡ Some r
          each j r p (inl low) = read_set old k j (Some x) (inl low) ∙ p
          each j r p (inr (inl e)) = absurd (some_none r (sym none ∙ ap (record_at old) (sym e) ∙ p))
          each j r p (inr (inr high)) = read_set old k j (Some x) (inr high) ∙ p

      at : (i : ℕ) → is_some (record_at (slice_set old k (Some x)) i) ≡ true → (i < k) ⊎ ((i ≡ k) ⊎ (k < i)) → list_all (has_sum old passed) (below (tree nodes i)) ≡ true
      at i h (inl low) = f i (ap is_some (sym (read_set old k i (Some x) (inl low))) ∙ h)
      at i h (inr (inl e)) = ap (λ j. list_all (has_sum old passed) (below (tree nodes j))) e ∙ full
      at i h (inr (inr high)) = f i (ap is_some (sym (read_set old k i (Some x) (inr high))) ∙ h)

  -- the sides of a node
  sum_found : (kept : List (Option (ℕ × R))) (k : ℕ) → HasSumIn passed (record_at kept k) → (is_some (record_at kept k) ≡ true) × (is_sum passed (record_at kept k) ≡ true)
  sum_found kept k h = at (record_at kept k) h
    where
      at : (o : Option (ℕ × R)) → HasSumIn passed o → (is_some o ≡ true) × (is_sum passed o ≡ true)
      at None h = absurd h
      at (Some r) h = (refl, ap not h)

  side : (nodes : List (Tree ℕ)) (kept : List (Option (ℕ × R))) (k : ℕ) → IsFilled passed nodes kept → name_of (tree nodes k) ≡ Some k → HasSumAt passed kept (name_of (tree nodes k)) → list_all (has_sum kept passed) (segments (tree nodes k)) ≡ true
  side nodes kept k f name h =
      let found = sum_found kept k (subst (HasSumAt passed kept) name h) in
      all_segments (has_sum kept passed) (tree nodes k) (f k found.0) (ap (λ n. is_sum passed (kept_by kept n)) name ∙ found.1)

  pub children_below : (nodes : List (Tree ℕ)) (kept : List (Option (ℕ × R))) (k : ℕ) (s : Seen) → Shows nodes k s → IsFilled passed nodes kept → ChildrenHaveSums passed kept (tree nodes k) → below_have_sums kept passed (tree nodes k) ≡ true
  children_below nodes kept k (seen.Leaf items) shown f h = ap (λ t. list_all (has_sum kept passed) (below t)) shown.0
  children_below nodes kept k (seen.Branch l r) shown f h =
      let sums : ChildrenHaveSums passed kept (branch (Some k) (tree nodes l) (tree nodes r)) = subst (ChildrenHaveSums passed kept) shown.0 h in
      ap (λ t. list_all (has_sum kept passed) (below t)) shown.0
      ∙ list_all-append (has_sum kept passed) (segments (tree nodes l)) (segments (tree nodes r))
      ∙ both (list_all (has_sum kept passed) (segments (tree nodes l))) _ (side nodes kept l f shown.3 sums.0) (side nodes kept r f shown.4 sums.1)

  -- how many records say that a limit was passed
  abbrev pub count_passed : List (Option (ℕ × R)) → ℕ
  count_passed kept = count_by (is_passed passed) kept

  pub passed_grown : (old : List (Option (ℕ × R))) (m : ℕ) → count_passed (old ++ replicate m None) ≡ count_passed old
  passed_grown old m = sym (counted_is (is_passed passed) (old ++ replicate m None)) ∙ more old ∙ counted_is (is_passed passed) old
    where
      none : (m : ℕ) → counted (is_passed passed) (replicate m None) ≡ 0
      none zero = refl
      none (suc m) = none m

      more : (ks : List (Option (ℕ × R))) → counted (is_passed passed) (ks ++ replicate m None) ≡ counted (is_passed passed) ks
      more [] = none m
      more (k ∷ ks) = ap (λ n. cond (is_passed passed k) (1 + n) n) (more ks)

  pub passed_stored : (old : List (Option (ℕ × R))) (k : ℕ) (x : ℕ × R) → k < length old → record_at old k ≡ None → count_passed (slice_set old k (Some x)) ≡ count_passed old + cond (passed x.1) 1 0
  passed_stored old k x near none = sym (counted_is (is_passed passed) (slice_set old k (Some x))) ∙ more old k near none ∙ ap (λ n. n + cond (passed x.1) 1 0) (counted_is (is_passed passed) old)
    where
      first : (b : Bool) (n : ℕ) (o : Option (ℕ × R)) → o ≡ None → cond b (1 + n) n ≡ cond (is_passed passed o) (1 + n) n + cond b 1 0
      first true n None e = omega arith
      first false n None e = omega arith
      first b n (Some r) e = cc

      later : (b : Bool) (m n d : ℕ) → m ≡ n + d → cond b (1 + m) m ≡ cond b (1 + n) n + d
      later true m n d e = omega arith
      later false m n d e = omega arith

      more : (ks : List (Option (ℕ × R))) (k : ℕ) → k < length ks → record_at ks k ≡ None → counted (is_passed passed) (slice_set ks k (Some x)) ≡ counted (is_passed passed) ks + cond (passed x.1) 1 0
      more [] k h e = absurd (omega arith)
      more (o ∷ ks) zero h e = first (passed x.1) (counted (is_passed passed) ks) o e
      more (o ∷ ks) (suc k) h e = later (is_passed passed o) _ _ _ (more ks k (omega arith) e)

  pub none_passed : (kept : List (Option (ℕ × R))) (k : ℕ) → count_passed kept ≡ 0 → is_passed passed (record_at kept k) ≡ false
  none_passed kept k e = at kept k (counted_is (is_passed passed) kept ∙ e)
    where
      either : (b : Bool) (n : ℕ) → cond b (1 + n) n ≡ 0 → (b ≡ false) × (n ≡ 0)
      either true n e = absurd (omega arith)
      either false n e = (refl, e)

      at : (ks : List (Option (ℕ × R))) (k : ℕ) → counted (is_passed passed) ks ≡ 0 → is_passed passed (record_at ks k) ≡ false
      at [] k e = refl
      at (o ∷ ks) zero e = (either (is_passed passed o) (counted (is_passed passed) ks) e).0
      at (o ∷ ks) (suc k) e = at ks k (either (is_passed passed o) (counted (is_passed passed) ks) e).1
