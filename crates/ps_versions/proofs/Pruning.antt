-- A walk need not go below a segment that keeps something: all there have sums.
use Rattle.std.proofs.Common.{◌≡◌, ℕ, zero, suc, ◌+◌, ◌<◌, ◌≤◌, List, [], ◌∷◌, ◌++◌, length, length-append, refl, sym, ap, ◌∙◌, subst, arith, append_assoc, Bool, true, false, cond, not, ◌&&◌, ◌||◌, eqb}
use Rattle.std.specs.Prelude.{Option, Some, None, IfSome, is_none, is_some}
use Rattle.std.specs.List.{list_all, list_any, count_by}
use Rattle.std.proofs.lemmas.List.Folds.{list_all-append, list_any-append}
use Rattle.std.proofs.lemmas.Bool.Decides.{nat_tests}
use Rattle.seg_tree.specs.Trees.{Tree, leaf, branch, name_of}
use Rattle.seg_tree.specs.Measures.{is_name, uses, fresh}
use Rattle.ps_versions.specs.Records.{record_at, IsPassedIn}
use Rattle.ps_versions.specs.Questions.{segments, segments_maybe, below, is_sum, is_passed, kept_by, lacks, lacks_by, has_sum, has_passed, below_have_sums, sides_have_sums, is_ready, missing_in, settled_in, first_of, first_named, behind}
use Rattle.ps_versions.specs.Reached.{stands}
use Rattle.ps_versions.specs.Choices.{name_before, names_where}
use Rattle.ps_versions.specs.Walks.{has_name, found, visited, walked, start, outcome}
use Rattle.ps_versions.specs.declared.walks.Walk.{Walk}
use Rattle.ps_versions.specs.declared.walks.Walk.TheVariants.{Seeking, Looking, Found}
use Rattle.ps_versions.proofs.Counting.{counted, counted_is, any_here}
use Rattle.ps_versions.proofs.Filling.{and_split, there_kept}

pub segments-below : (t : Tree ℕ) → segments t ≡ below t ++ t ∷ []
segments-below (leaf n xs) = refl
segments-below (branch n l r) = sym (append_assoc (segments l) (segments r) (branch n l r ∷ []))

pub not_true : (b : Bool) → not b ≡ true → b ≡ false
not_true true e = cc
not_true false e = refl

-- where no segment passes a test
module _ (p : Tree ℕ → Bool) where
  abbrev pub none_pass : List (Tree ℕ) → Type 0
  none_pass ts = list_all (λ t. not (p t)) ts ≡ true

  pub count_none : (ts : List (Tree ℕ)) → none_pass ts → count_by p ts ≡ 0
  count_none ts h = sym (counted_is p ts) ∙ none ts h
    where
      none : (ts : List (Tree ℕ)) → none_pass ts → counted p ts ≡ 0
      none [] h = refl
      none (t ∷ ts) h =
          let split = and_split (not (p t)) (list_all (λ t. not (p t)) ts) h in
          ap (λ b. cond b (1 + counted p ts) (counted p ts)) (not_true (p t) split.0) ∙ none ts split.1

  pub first_none : (ts : List (Tree ℕ)) → none_pass ts → first_named p ts ≡ None
  first_none [] h = refl
  first_none (t ∷ ts) h =
      let split = and_split (not (p t)) (list_all (λ t. not (p t)) ts) h in
      ap (λ b. first_of b (name_of t) (first_named p ts)) (not_true (p t) split.0) ∙ first_none ts split.1

  pub names_none : (ts : List (Tree ℕ)) → none_pass ts → names_where p ts ≡ []
  names_none [] h = refl
  names_none (t ∷ ts) h =
      let split = and_split (not (p t)) (list_all (λ t. not (p t)) ts) h in
      ap (λ b. name_before b (name_of t) (names_where p ts)) (not_true (p t) split.0) ∙ names_none ts split.1

  pub look_none : (ts : List (Tree ℕ)) → none_pass ts → walked p Looking ts ≡ Looking
  look_none [] h = refl
  look_none (t ∷ ts) h =
      let split = and_split (not (p t)) (list_all (λ t. not (p t)) ts) h in
      ap (λ b. walked p (found b (name_of t)) ts) (not_true (p t) split.0) ∙ look_none ts split.1

  -- one list after the other
  abbrev pub or_else : Option ℕ → Option ℕ → Option ℕ
  or_else None b = b
  or_else (Some k) b = Some k

  pub first-append : (xs ys : List (Tree ℕ)) → first_named p (xs ++ ys) ≡ or_else (first_named p xs) (first_named p ys)
  first-append [] ys = refl
  first-append (t ∷ xs) ys = at (p t) (name_of t) (first-append xs ys)
    where
      at : (b : Bool) (n : Option ℕ) → first_named p (xs ++ ys) ≡ or_else (first_named p xs) (first_named p ys) → first_of b n (first_named p (xs ++ ys)) ≡ or_else (first_of b n (first_named p xs)) (first_named p ys)
      at true None e = e
      at true (Some k) e = refl
      at false n e = e

  before-append : (b : Bool) (n : Option ℕ) (ks ms : List ℕ) → name_before b n (ks ++ ms) ≡ name_before b n ks ++ ms
  before-append true None ks ms = refl
  before-append true (Some k) ks ms = refl
  before-append false n ks ms = refl

  pub names-append : (xs ys : List (Tree ℕ)) → names_where p (xs ++ ys) ≡ names_where p xs ++ names_where p ys
  names-append [] ys = refl
  names-append (t ∷ xs) ys = ap (name_before (p t) (name_of t)) (names-append xs ys) ∙ before-append (p t) (name_of t) (names_where p xs) (names_where p ys)

  -- what is found first is one of the segments
  pub first_stands : (ts : List (Tree ℕ)) (k : ℕ) → first_named p ts ≡ Some k → list_any (λ s. has_name k (name_of s)) ts ≡ true
  first_stands [] k e = cc
  first_stands (t ∷ ts) k e = at (p t) (name_of t) (list_any (λ s. has_name k (name_of s)) ts) e (first_stands ts k)
    where
      same_name : (m : ℕ) → eqb m m ≡ true
      same_name m = grind (arith, nat_tests)

      at : (b : Bool) (n : Option ℕ) (rest : Bool) → first_of b n (first_named p ts) ≡ Some k → (first_named p ts ≡ Some k → rest ≡ true) → (has_name k n || rest) ≡ true
      at true None rest e ih = ih e
      at true (Some m) rest e ih = let same : m ≡ k = cc in ap (λ b. b || rest) (ap (λ j. eqb j k) same ∙ same_name k)
      at false None rest e ih = ih e
      at false (Some m) rest e ih = or_true (eqb m k) rest (ih e)
        where
          or_true : (a b : Bool) → b ≡ true → (a || b) ≡ true
          or_true true b e = refl
          or_true false b e = e

-- behind a segment are only segments
pub behind_any : (q : Tree ℕ → Bool) (after : Option ℕ) (ts : List (Tree ℕ)) → list_any q (behind after ts) ≡ true → list_any q ts ≡ true
behind_any q None ts e = e
behind_any q (Some k) [] e = e
behind_any q (Some k) (t ∷ ts) e = at (has_name k (name_of t)) (q t) e (behind_any q (Some k) ts)
  where
    or_true : (a b : Bool) → b ≡ true → (a || b) ≡ true
    or_true true b e = refl
    or_true false b e = e

    at : (b c : Bool) → list_any q (cond b ts (behind (Some k) ts)) ≡ true → (list_any q (behind (Some k) ts) ≡ true → list_any q ts ≡ true) → (c || list_any q ts) ≡ true
    at true c e ih = or_true c (list_any q ts) e
    at false c e ih = or_true c (list_any q ts) (ih e)

-- a name that no segment has
or_none : (a b : Bool) → a ≡ false → b ≡ false → (a || b) ≡ false
or_none true b e f = cc
or_none false b e f = f

pub absent_name : (m : ℕ) (t : Tree ℕ) → uses m t ≡ 0 → list_any (λ s. has_name m (name_of s)) (segments t) ≡ false
absent_name m (leaf n xs) h = or_none (has_name m n) false (unnamed n (omega (arith, h))) refl
  where
    unnamed : (n : Option ℕ) → is_name m n ≡ 0 → has_name m n ≡ false
    unnamed None h = refl
    unnamed (Some k) h = grind (arith, nat_tests)
absent_name m (branch n l r) h =
    list_any-append (λ s. has_name m (name_of s)) (segments l) (segments r ++ branch n l r ∷ [])
    ∙ or_none (list_any (λ s. has_name m (name_of s)) (segments l)) _ (absent_name m l (omega (arith, h)))
    (list_any-append (λ s. has_name m (name_of s)) (segments r) (branch n l r ∷ [])
    ∙ or_none (list_any (λ s. has_name m (name_of s)) (segments r)) _ (absent_name m r (omega (arith, h))) (or_none (has_name m n) false (unnamed n (omega (arith, h))) refl))
  where
    unnamed : (n : Option ℕ) → is_name m n ≡ 0 → has_name m n ≡ false
    unnamed None h = refl
    unnamed (Some k) h = grind (arith, nat_tests)

or_left : (a b : Bool) → (a || b) ≡ false → a ≡ false
or_left true b e = e
or_left false b e = refl

or_right : (a b : Bool) → (a || b) ≡ false → b ≡ false
or_right true b e = cc
or_right false b e = e

pub seek_none : (ready : Tree ℕ → Bool) (m : ℕ) (ts : List (Tree ℕ)) → list_any (λ s. has_name m (name_of s)) ts ≡ false → walked ready (Seeking m) ts ≡ Seeking m
seek_none ready m [] e = refl
seek_none ready m (t ∷ ts) e =
    ap (λ b. walked ready (cond b Looking (Seeking m)) ts) (or_left (has_name m (name_of t)) _ e) ∙ seek_none ready m ts (or_right (has_name m (name_of t)) _ e)

module _ {R : Type 0} (kept : List (Option (ℕ × R))) (passed : R → Bool) where
  sum_keeps : (o : Option (ℕ × R)) → is_sum passed o ≡ true → (is_none o ≡ false) × (is_passed passed o ≡ false)
  sum_keeps None e = cc
  sum_keeps (Some r) e = (refl, not_true (passed r.1) e)

  named_sum : (n : Option ℕ) → is_sum passed (kept_by kept n) ≡ true → (lacks_by kept n ≡ false) × (is_passed passed (kept_by kept n) ≡ false)
  named_sum None e = cc
  named_sum (Some k) e = sum_keeps (record_at kept k) e

  -- no segment below one that keeps something lacks anything, or passed a limit
  pub none_lack : (ts : List (Tree ℕ)) → list_all (has_sum kept passed) ts ≡ true → none_pass (lacks kept) ts
  none_lack [] e = refl
  none_lack (t ∷ ts) e =
      let split = and_split (has_sum kept passed t) (list_all (has_sum kept passed) ts) e in
      ap (λ b. not b && list_all (λ t. not (lacks kept t)) ts) (named_sum (name_of t) split.0).0 ∙ none_lack ts split.1

  pub none_passed_below : (ts : List (Tree ℕ)) → list_all (has_sum kept passed) ts ≡ true → none_pass (has_passed kept passed) ts
  none_passed_below [] e = refl
  none_passed_below (t ∷ ts) e =
      let split = and_split (has_sum kept passed t) (list_all (has_sum kept passed) ts) e in
      ap (λ b. not b && list_all (λ t. not (has_passed kept passed t)) ts) (named_sum (name_of t) split.0).1 ∙ none_passed_below ts split.1

  -- what keeps something is not ready
  pub none_ready : (ts : List (Tree ℕ)) → none_pass (lacks kept) ts → none_pass (is_ready kept passed) ts
  none_ready [] e = refl
  none_ready (t ∷ ts) e =
      let split = and_split (not (lacks kept t)) (list_all (λ t. not (lacks kept t)) ts) e in
      ap (λ b. not (b && sides_have_sums kept passed t) && list_all (λ t. not (is_ready kept passed t)) ts) (not_true (lacks kept t) split.0) ∙ none_ready ts split.1

  -- the whole tree of a segment that keeps something
  pub none_lack_in : (t : Tree ℕ) → lacks kept t ≡ false → below_have_sums kept passed t ≡ true → none_pass (lacks kept) (segments t)
  none_lack_in t e h =
      ap (list_all (λ s. not (lacks kept s))) (segments-below t)
      ∙ list_all-append (λ s. not (lacks kept s)) (below t) (t ∷ [])
      ∙ ap (λ b. b && (not (lacks kept t) && true)) (none_lack (below t) h)
      ∙ ap (λ b. not b && true) e

  pub missing_full : (t : Tree ℕ) → lacks kept t ≡ false → below_have_sums kept passed t ≡ true → 0 ≡ missing_in kept (Some t)
  missing_full t e h = sym (count_none (lacks kept) (segments t) (none_lack_in t e h))

  pub first_passed_here : (t : Tree ℕ) → below_have_sums kept passed t ≡ true → first_named (has_passed kept passed) (segments t) ≡ first_of (has_passed kept passed t) (name_of t) None
  first_passed_here t h =
      ap (first_named (has_passed kept passed)) (segments-below t)
      ∙ first-append (has_passed kept passed) (below t) (t ∷ [])
      ∙ ap (λ o. or_else (has_passed kept passed) o (first_of (has_passed kept passed t) (name_of t) None)) (first_none (has_passed kept passed) (below t) (none_passed_below (below t) h))

  -- what passed a limit keeps something
  pub lacks_not_passed : (t : Tree ℕ) → lacks kept t ≡ true → has_passed kept passed t ≡ false
  lacks_not_passed t e = at (name_of t) e
    where
      nothing : (o : Option (ℕ × R)) → is_none o ≡ true → is_passed passed o ≡ false
      nothing None e = refl
      nothing (Some r) e = cc

      at : (n : Option ℕ) → lacks_by kept n ≡ true → is_passed passed (kept_by kept n) ≡ false
      at None e = cc
      at (Some k) e = nothing (record_at kept k) e

  pub first_passed_leaf : (t : Tree ℕ) (n : Option ℕ) (xs : List ℕ) → t ≡ leaf n xs → lacks kept t ≡ true → None ≡ first_named (has_passed kept passed) (segments t)
  first_passed_leaf t n xs e h =
      sym (ap (λ u. first_named (has_passed kept passed) (segments u)) e ∙ ap (λ u. first_of (has_passed kept passed u) n None) (sym e) ∙ ap (λ b. first_of b n None) (lacks_not_passed t h))

  pub first_passed_branch : (t : Tree ℕ) (n : Option ℕ) (l r : Tree ℕ) → t ≡ branch n l r → lacks kept t ≡ true → first_named (has_passed kept passed) (segments t) ≡ or_else (has_passed kept passed) (first_named (has_passed kept passed) (segments l)) (first_named (has_passed kept passed) (segments r))
  first_passed_branch t n l r e h =
      ap (λ u. first_named (has_passed kept passed) (segments u)) e
      ∙ first-append (has_passed kept passed) (segments l) (segments r ++ branch n l r ∷ [])
      ∙ ap (or_else (has_passed kept passed) (first_named (has_passed kept passed) (segments l)))
      (first-append (has_passed kept passed) (segments r) (branch n l r ∷ [])
      ∙ ap (λ b. or_else (has_passed kept passed) (first_named (has_passed kept passed) (segments r)) (first_of b n None)) (ap (has_passed kept passed) (sym e) ∙ lacks_not_passed t h)
      ∙ or_none_last (first_named (has_passed kept passed) (segments r)))
    where
      or_none_last : (o : Option ℕ) → or_else (has_passed kept passed) o None ≡ o
      or_none_last None = refl
      or_none_last (Some k) = refl

  -- what is found first is passed
  pub first_is_passed : (ts : List (Tree ℕ)) (k : ℕ) → first_named (has_passed kept passed) ts ≡ Some k → is_passed passed (record_at kept k) ≡ true
  first_is_passed [] k e = cc
  first_is_passed (t ∷ ts) k e = at (has_passed kept passed t) (name_of t) refl e (first_is_passed ts k)
    where
      at : (b : Bool) (n : Option ℕ) → is_passed passed (kept_by kept n) ≡ b → first_of b n (first_named (has_passed kept passed) ts) ≡ Some k → (first_named (has_passed kept passed) ts ≡ Some k → is_passed passed (record_at kept k) ≡ true) → is_passed passed (record_at kept k) ≡ true
      at true None p e rest = rest e
      at true (Some m) p e rest = let same : m ≡ k = cc in ap (λ j. is_passed passed (record_at kept j)) (sym same) ∙ p
      at false n p e rest = rest e

  pub passed_in : (o : Option (ℕ × R)) → is_passed passed o ≡ true → IsPassedIn passed o
  passed_in None e = cc
  passed_in (Some r) e = e

  kept_there : (o : Option (ℕ × R)) → is_passed passed o ≡ true → is_some o ≡ true
  kept_there None e = cc
  kept_there (Some r) e = refl

  pub passed_there : (k : ℕ) → is_passed passed (record_at kept k) ≡ true → k < length kept
  passed_there k e = there_kept kept k (kept_there (record_at kept k) e)

  -- where nothing passed anywhere
  pub none_anywhere : ((k : ℕ) → is_passed passed (record_at kept k) ≡ false) → (ts : List (Tree ℕ)) → None ≡ first_named (has_passed kept passed) ts
  none_anywhere h [] = refl
  none_anywhere h (t ∷ ts) = none_anywhere h ts ∙ sym (ap (λ b. first_of b (name_of t) (first_named (has_passed kept passed) ts)) (at (name_of t)))
    where
      at : (n : Option ℕ) → is_passed passed (kept_by kept n) ≡ false
      at None = refl
      at (Some k) = h k

  pub any_first : (ts : List (Tree ℕ)) → is_some (first_named (has_passed kept passed) ts) ≡ list_any (has_passed kept passed) ts
  any_first [] = refl
  any_first (t ∷ ts) = at (name_of t) (any_first ts)
    where
      first : (b : Bool) (k : ℕ) (o : Option ℕ) (rest : Bool) → is_some o ≡ rest → is_some (first_of b (Some k) o) ≡ (b || rest)
      first true k o rest e = refl
      first false k o rest e = e

      at : (n : Option ℕ) → is_some (first_named (has_passed kept passed) ts) ≡ list_any (has_passed kept passed) ts → is_some (first_of (is_passed passed (kept_by kept n)) n (first_named (has_passed kept passed) ts)) ≡ (is_passed passed (kept_by kept n) || list_any (has_passed kept passed) ts)
      at None e = e
      at (Some k) e = first (is_passed passed (record_at kept k)) k _ _ e

  -- a tree that is not settled has a ready segment
  named : (t : Tree ℕ) → fresh t ≡ 0 → is_some (name_of t) ≡ true
  named (leaf None xs) e = absurd (omega (arith, e))
  named (leaf (Some k) xs) e = refl
  named (branch None l r) e = absurd (omega (arith, e))
  named (branch (Some k) l r) e = refl

  fresh_sides : (n : Option ℕ) (l r : Tree ℕ) → fresh (branch n l r) ≡ 0 → (fresh l ≡ 0) × (fresh r ≡ 0)
  fresh_sides None l r e = absurd (omega (arith, e))
  fresh_sides (Some k) l r e = (omega (arith, e), omega (arith, e))

  pub sum_or_lacks : (t : Tree ℕ) → fresh t ≡ 0 → has_passed kept passed t ≡ false → has_sum kept passed t ≡ false → lacks kept t ≡ true
  sum_or_lacks t f p s = at (name_of t) (named t f) p s
    where
      known : (o : Option (ℕ × R)) → is_passed passed o ≡ false → is_sum passed o ≡ false → is_none o ≡ true
      known None p s = refl
      known (Some r) p s = let turned : not (passed r.1) ≡ true = ap not p in cc

      at : (n : Option ℕ) → is_some n ≡ true → is_passed passed (kept_by kept n) ≡ false → is_sum passed (kept_by kept n) ≡ false → lacks_by kept n ≡ true
      at None e p s = cc
      at (Some k) e p s = known (record_at kept k) p s

  pub ready_within : (t : Tree ℕ) → fresh t ≡ 0 → list_any (has_passed kept passed) (segments t) ≡ false → lacks kept t ≡ true → 0 < length (names_where (is_ready kept passed) (segments t))
  ready_within (leaf n xs) f p h = subst (λ b. 0 < length (name_before (b && true) n [])) (sym h) (one n (named (leaf n xs) f))
    where
      one : (n : Option ℕ) → is_some n ≡ true → 0 < length (name_before true n [])
      one None e = cc
      one (Some k) e = omega arith
  ready_within (branch n l r) f p h =
      let whole : length (names_where (is_ready kept passed) (segments (branch n l r))) ≡ length (names_where (is_ready kept passed) (segments l)) + length (names_where (is_ready kept passed) (segments r)) + length (names_where (is_ready kept passed) (branch n l r ∷ [])) =
      ap length (names-append (is_ready kept passed) (segments l) (segments r ++ branch n l r ∷ []))
      ∙ length-append (names_where (is_ready kept passed) (segments l)) (names_where (is_ready kept passed) (segments r ++ branch n l r ∷ []))
      ∙ ap (λ ks. length (names_where (is_ready kept passed) (segments l)) + length ks) (names-append (is_ready kept passed) (segments r) (branch n l r ∷ []))
      ∙ omega (arith, length-append (names_where (is_ready kept passed) (segments r)) (names_where (is_ready kept passed) (branch n l r ∷ []))) in
      let apart : (list_any (has_passed kept passed) (segments l) || list_any (has_passed kept passed) (segments r ++ branch n l r ∷ [])) ≡ false = sym (list_any-append (has_passed kept passed) (segments l) (segments r ++ branch n l r ∷ [])) ∙ p in
      let inner : (list_any (has_passed kept passed) (segments r) || list_any (has_passed kept passed) (branch n l r ∷ [])) ≡ false = sym (list_any-append (has_passed kept passed) (segments r) (branch n l r ∷ [])) ∙ or_right (list_any (has_passed kept passed) (segments l)) _ apart in
      let left : list_any (has_passed kept passed) (segments l) ≡ false = or_left (list_any (has_passed kept passed) (segments l)) _ apart in
      let right : list_any (has_passed kept passed) (segments r) ≡ false = or_left (list_any (has_passed kept passed) (segments r)) _ inner in
      let sides = fresh_sides n l r f in
      at (has_sum kept passed l) (has_sum kept passed r) refl refl whole (λ e. ready_within l sides.0 left (sum_or_lacks l sides.0 (not_here l left) e)) (λ e. ready_within r sides.1 right (sum_or_lacks r sides.1 (not_here r right) e)) (named (branch n l r) f)
    where
      not_here : (s : Tree ℕ) → list_any (has_passed kept passed) (segments s) ≡ false → has_passed kept passed s ≡ false
      not_here s e = either (has_passed kept passed s) refl
        where
          either : (b : Bool) → has_passed kept passed s ≡ b → has_passed kept passed s ≡ false
          either true q = let here : list_any (has_passed kept passed) (segments s) ≡ true = any_here (has_passed kept passed) s q in cc
          either false q = q

      one : (m : Option ℕ) → is_some m ≡ true → length (name_before true m []) ≡ 1
      one None e = cc
      one (Some k) e = refl

      at : (a b : Bool) → has_sum kept passed l ≡ a → has_sum kept passed r ≡ b → length (names_where (is_ready kept passed) (segments (branch n l r))) ≡ length (names_where (is_ready kept passed) (segments l)) + length (names_where (is_ready kept passed) (segments r)) + length (names_where (is_ready kept passed) (branch n l r ∷ [])) → (has_sum kept passed l ≡ false → 0 < length (names_where (is_ready kept passed) (segments l))) → (has_sum kept passed r ≡ false → 0 < length (names_where (is_ready kept passed) (segments r))) → is_some n ≡ true → 0 < length (names_where (is_ready kept passed) (segments (branch n l r)))
      at false b p q w first second e = omega (arith, first p)
      at true false p q w first second e = omega (arith, second q)
      at true true p q w first second e =
          let ready : is_ready kept passed (branch n l r) ≡ true = ap (λ c. c && (has_sum kept passed l && has_sum kept passed r)) h ∙ ap (λ c. c && has_sum kept passed r) p ∙ q in
          let here : length (names_where (is_ready kept passed) (branch n l r ∷ [])) ≡ 1 = ap (λ c. length (name_before c n [])) ready ∙ one n e in
          omega (arith, w, here)

  pub not_settled : (t : Tree ℕ) → fresh t ≡ 0 → settled_in kept passed (Some t) ≡ false → 0 < length (names_where (is_ready kept passed) (segments t))
  not_settled t f s =
      let none : list_any (has_passed kept passed) (segments t) ≡ false = or_right (has_sum kept passed t) _ s in
      ready_within t f none (sum_or_lacks t f (not_here none) (or_left (has_sum kept passed t) _ s))
    where
      not_here : list_any (has_passed kept passed) (segments t) ≡ false → has_passed kept passed t ≡ false
      not_here e = either (has_passed kept passed t) refl
        where
          either : (b : Bool) → has_passed kept passed t ≡ b → has_passed kept passed t ≡ false
          either true q = let here : list_any (has_passed kept passed) (segments t) ≡ true = any_here (has_passed kept passed) t q in cc
          either false q = q

-- what a search of the segments gives
pub found_stands : (p : Tree ℕ → Bool) (after : Option ℕ) (t : Option (Tree ℕ)) (o : Option ℕ) → o ≡ first_named p (behind after (segments_maybe t)) → IfSome o (λ k. stands k t ≡ true)
found_stands p after t None e = tt
found_stands p after t (Some k) e = behind_any (λ s. has_name k (name_of s)) after (segments_maybe t) (first_stands p (behind after (segments_maybe t)) k (sym e))

module _ {R : Type 0} (kept : List (Option (ℕ × R))) (passed : R → Bool) where
  pub found_passed : (ts : List (Tree ℕ)) (o : Option ℕ) → o ≡ first_named (has_passed kept passed) ts → IfSome o (λ k. IsPassedIn passed (record_at kept k))
  found_passed ts None e = tt
  found_passed ts (Some k) e = passed_in kept passed (record_at kept k) (first_is_passed kept passed ts k (sym e))

  pub found_there : (ts : List (Tree ℕ)) (n : ℕ) (o : Option ℕ) → o ≡ first_named (has_passed kept passed) ts → length kept ≡ n → IfSome o (λ k. k < n)
  found_there ts n None e l = tt
  found_there ts n (Some k) e l = omega (arith, passed_there kept passed k (first_is_passed kept passed ts k (sym e)))
