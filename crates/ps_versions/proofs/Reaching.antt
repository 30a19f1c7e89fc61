-- What a kept version reaches.
use Rattle.std.proofs.Common.{◌≡◌, ℕ, zero, suc, ◌+◌, ◌<◌, List, [], ◌∷◌, ◌++◌, length, refl, sym, ap, ◌∙◌, subst, arith, Bool, true, false, ◌&&◌, ◌||◌, eqb}
use Rattle.std.specs.Prelude.{Option, Some, None, slice_get}
use Rattle.std.specs.List.{list_any}
use Rattle.std.proofs.lemmas.List.Folds.{list_any-append}
use Rattle.std.proofs.lemmas.Bool.Decides.{nat_tests}
use Rattle.seg_tree.specs.Trees.{Tree, leaf, branch, name_of}
use Rattle.seg_tree.specs.Measures.{is_name, uses, uses_maybe}
use Rattle.seg_tree.specs.Table.{root_tree, IsRoot}
use Rattle.seg_tree.specs.Growth.{Keeps}
use Rattle.ps_versions.specs.Held.{Held, Version, Circuit}
use Rattle.ps_versions.specs.Lookup.{place_of, circuit_in, version_in, version_at, root_of}
use Rattle.ps_versions.specs.Lives.{is_kept}
use Rattle.ps_versions.specs.Walks.{has_name}
use Rattle.ps_versions.specs.Questions.{segments, segments_maybe}
use Rattle.ps_versions.specs.Reached.{stands, is_segment, is_reached}
use Rattle.ps_versions.proofs.Pruning.{absent_name}

or_true : (a b : Bool) → b ≡ true → (a || b) ≡ true
or_true true b e = refl
or_true false b e = e

or_here : (a b : Bool) → a ≡ true → (a || b) ≡ true
or_here true b e = refl
or_here false b e = cc

any_at : {A : Type 0} (p : A → Bool) (xs : List A) (i : ℕ) (x : A) → slice_get xs i ≡ Some x → p x ≡ true → list_any p xs ≡ true
any_at p [] i x e h = cc
any_at p (y ∷ xs) zero x e h = let same : y ≡ x = cc in or_here (p y) (list_any p xs) (ap p same ∙ h)
any_at p (y ∷ xs) (suc i) x e h = or_true (p y) (list_any p xs) (any_at p xs i x e h)

-- a segment of a kept version is reached
pub reached_by : {R : Type 0} (h : Held R) (name : List ℕ) (number : ℕ) (v : Version) (k : ℕ) → version_at h.circuits name number ≡ Some v → is_kept v ≡ true → is_segment h (Some v) k ≡ true → is_reached h k ≡ true
reached_by h name number v k there kept s = by_place (place_of h.circuits name) there
  where
    both : (a b : Bool) → a ≡ true → b ≡ true → (a && b) ≡ true
    both true b e f = f
    both false b e f = cc

    by_number : (c : Circuit) (n : ℕ) → version_in (Some c) n ≡ Some v → list_any (λ w. is_kept w && is_segment h (Some w) k) c.versions ≡ true
    by_number c zero e = cc
    by_number c (suc n) e = any_at (λ w. is_kept w && is_segment h (Some w) k) c.versions n v e (both (is_kept v) (is_segment h (Some v) k) kept s)

    by_circuit : (i : ℕ) (o : Option Circuit) → slice_get h.circuits i ≡ o → version_in o number ≡ Some v → is_reached h k ≡ true
    by_circuit i None p e = cc
    by_circuit i (Some c) p e = any_at (λ (d : Circuit). list_any (λ w. is_kept w && is_segment h (Some w) k) d.versions) h.circuits i c p (by_number c number e)

    by_place : (at : Option ℕ) → version_in (circuit_in h.circuits at) number ≡ Some v → is_reached h k ≡ true
    by_place None e = cc
    by_place (Some i) e = by_circuit i (slice_get h.circuits i) refl e

-- a node stands in a tree exactly where the tree uses it
has_of : (k : ℕ) (n : Option ℕ) → has_name k n ≡ true → 0 < is_name k n
has_of k None e = cc
has_of k (Some m) e = grind (arith, nat_tests)

or_either : (a b : Bool) (m n : ℕ) → (a || b) ≡ true → (a ≡ true → 0 < m) → (b ≡ true → 0 < n) → 0 < m + n
or_either true b m n e f g = omega (arith, f refl)
or_either false b m n e f g = omega (arith, g e)

pub used_where_named : (k : ℕ) (t : Tree ℕ) → list_any (λ s. has_name k (name_of s)) (segments t) ≡ true → 0 < uses k t
used_where_named k (leaf n xs) e = omega (arith, or_either (has_name k n) false (is_name k n) 0 e (has_of k n) (λ q. false_true q))
  where
    false_true : false ≡ true → 0 < 0
    false_true q = cc
used_where_named k (branch n l r) e =
    let p : Tree ℕ → Bool = λ s. has_name k (name_of s) in
    let apart : (list_any p (segments l) || list_any p (segments r ++ branch n l r ∷ [])) ≡ true = sym (list_any-append p (segments l) (segments r ++ branch n l r ∷ [])) ∙ e in
    omega (
      arith,
      or_either (list_any p (segments l)) (list_any p (segments r ++ branch n l r ∷ [])) (uses k l) (uses k r + is_name k n) apart (used_where_named k l)
          (λ q. or_either (list_any p (segments r)) (list_any p (branch n l r ∷ [])) (uses k r) (is_name k n) (sym (list_any-append p (segments r) (branch n l r ∷ [])) ∙ q) (used_where_named k r) (λ s. has_of k n (last (has_name k n) s))),
    )
  where
    last : (b : Bool) → (b || false) ≡ true → b ≡ true
    last true e = refl
    last false e = e

pub stands_where_used : (k : ℕ) (t : Option (Tree ℕ)) → 0 < uses_maybe k t → stands k t ≡ true
stands_where_used k None h = absurd (omega (arith, h))
stands_where_used k (Some t) h = at (stands k (Some t)) refl
  where
    zero_or : (n : ℕ) → 0 < n → n ≡ 0 → ⊥
    zero_or n h e = omega arith

    at : (b : Bool) → stands k (Some t) ≡ b → stands k (Some t) ≡ true
    at true e = e
    at false e = absurd (omega (arith, h, none_used k t e))
      where
        or_left : (a b : Bool) → (a || b) ≡ false → a ≡ false
        or_left true b e = e
        or_left false b e = refl

        or_right : (a b : Bool) → (a || b) ≡ false → b ≡ false
        or_right true b e = cc
        or_right false b e = e

        none_used : (k : ℕ) (t : Tree ℕ) → list_any (λ s. has_name k (name_of s)) (segments t) ≡ false → uses k t ≡ 0
        none_used k (leaf n xs) e = unnamed n (or_left (has_name k n) false e)
          where
            unnamed : (n : Option ℕ) → has_name k n ≡ false → is_name k n ≡ 0
            unnamed None e = refl
            unnamed (Some m) e = grind (arith, nat_tests)
        none_used k (branch n l r) e =
            let p : Tree ℕ → Bool = λ s. has_name k (name_of s) in
            let apart : (list_any p (segments l) || list_any p (segments r ++ branch n l r ∷ [])) ≡ false = sym (list_any-append p (segments l) (segments r ++ branch n l r ∷ [])) ∙ e in
            let inner : (list_any p (segments r) || list_any p (branch n l r ∷ [])) ≡ false = sym (list_any-append p (segments r) (branch n l r ∷ [])) ∙ or_right (list_any p (segments l)) (list_any p (segments r ++ branch n l r ∷ [])) apart in
            omega (
              arith,
              none_used k l (or_left (list_any p (segments l)) (list_any p (segments r ++ branch n l r ∷ [])) apart),
              none_used k r (or_left (list_any p (segments r)) (list_any p (branch n l r ∷ [])) inner),
              unnamed n (or_left (has_name k n) false (or_right (list_any p (segments r)) (list_any p (branch n l r ∷ [])) inner)),
            )
          where
            unnamed : (n : Option ℕ) → has_name k n ≡ false → is_name k n ≡ 0
            unnamed None e = refl
            unnamed (Some m) e = grind (arith, nat_tests)

-- a version's segments stay as the table grows
pub stands_kept : (old new : List (Tree ℕ)) (r : Option ℕ) (k : ℕ) → Keeps old new → IsRoot old r → stands k (root_tree new r) ≡ stands k (root_tree old r)
stands_kept old new None k h there = refl
stands_kept old new (Some n) k h there = ap (λ t. stands k (Some t)) (h.same n there)
