-- What is made of trees does not depend on their items.
use Rattle.std.proofs.Common.{ℕ, zero, suc, ◌+◌, ◌-◌, ◌≡◌, ◌++◌, Bool, true, false, cond, ◌&&◌, List, [], ◌∷◌, Option, Some, None, length, take, drop, refl, sym, ap, ap₂, ◌∙◌, arith, max}
use Rattle.std.specs.Prelude.{map, nat_le, nat_lt, eqb}
use Rattle.seg_tree.specs.Trees.{Tree, leaf, branch, name_of, run, run_maybe, height, left_of, right_of, fork, rotate_left, rotate_right, balance, adjoin, graft_right, graft_left, join, concat, split, split_maybe, front_size, built, build, splice, made, named}
use Rattle.ps_journal.specs.Mapped.{mapped, mapped_maybe}
use Rattle.ps_journal.specs.Segments.{with_names, new_names, segments, segments_of}

cond-ap : {A B : Type 0} (g : A → B) (b : Bool) (x y : A) → g (cond b x y) ≡ cond b (g x) (g y)
cond-ap g true x y = refl
cond-ap g false x y = refl

module _ {A B : Type 0} (f : A → B) where
  map-length : (xs : List A) → length (map f xs) ≡ length xs
  map-length [] = refl
  map-length (x ∷ xs) = ap suc (map-length xs)

  map-append : (xs ys : List A) → map f (xs ++ ys) ≡ map f xs ++ map f ys
  map-append [] ys = refl
  map-append (x ∷ xs) ys = ap (λ zs. f x ∷ zs) (map-append xs ys)

  map-take : (n : ℕ) (xs : List A) → map f (take n xs) ≡ take n (map f xs)
  map-take zero [] = refl
  map-take (suc n) [] = refl
  map-take zero (x ∷ xs) = refl
  map-take (suc n) (x ∷ xs) = ap (λ zs. f x ∷ zs) (map-take n xs)

  map-drop : (n : ℕ) (xs : List A) → map f (drop n xs) ≡ drop n (map f xs)
  map-drop zero [] = refl
  map-drop (suc n) [] = refl
  map-drop zero (x ∷ xs) = refl
  map-drop (suc n) (x ∷ xs) = map-drop n xs

  pub run-mapped : (t : Tree A) → run (mapped f t) ≡ map f (run t)
  run-mapped (leaf name items) = refl
  run-mapped (branch name l r) = ap₂ (λ a b. a ++ b) (run-mapped l) (run-mapped r) ∙ sym (map-append (run l) (run r))

  pub run-mapped_maybe : (t : Option (Tree A)) → run_maybe (mapped_maybe f t) ≡ map f (run_maybe t)
  run-mapped_maybe None = refl
  run-mapped_maybe (Some t) = run-mapped t

  len : (t : Tree A) → length (run (mapped f t)) ≡ length (run t)
  len t = ap length (run-mapped t) ∙ map-length (run t)

  pub name-mapped : (t : Tree A) → name_of (mapped f t) ≡ name_of t
  name-mapped (leaf name items) = refl
  name-mapped (branch name l r) = refl

  pub height-mapped : (t : Tree A) → height (mapped f t) ≡ height t
  height-mapped (leaf name items) = refl
  height-mapped (branch name l r) = ap₂ (λ a b. max a b + 1) (height-mapped l) (height-mapped r)

  left-mapped : (t : Tree A) → left_of (mapped f t) ≡ mapped f (left_of t)
  left-mapped (leaf name items) = refl
  left-mapped (branch name l r) = refl

  right-mapped : (t : Tree A) → right_of (mapped f t) ≡ mapped f (right_of t)
  right-mapped (leaf name items) = refl
  right-mapped (branch name l r) = refl

  rotate_left-mapped : (l m r : Tree A) → mapped f (rotate_left l m r) ≡ rotate_left (mapped f l) (mapped f m) (mapped f r)
  unfolding rotate_left
  rotate_left-mapped l m r = rw (height-mapped m, height-mapped r, left-mapped m, right-mapped m) (cond-ap (mapped f) (nat_le (height m) (height r)) _ _)

  rotate_right-mapped : (l m r : Tree A) → mapped f (rotate_right l m r) ≡ rotate_right (mapped f l) (mapped f m) (mapped f r)
  unfolding rotate_right
  rotate_right-mapped l m r = rw (height-mapped m, height-mapped l, left-mapped m, right-mapped m) (cond-ap (mapped f) (nat_le (height m) (height l)) _ _)

  balance-mapped : (l r : Tree A) → mapped f (balance l r) ≡ balance (mapped f l) (mapped f r)
  unfolding balance
  balance-mapped l r =
      rw (height-mapped l, height-mapped r, left-mapped l, right-mapped l, left-mapped r, right-mapped r)
      (cond-ap (mapped f) (nat_lt (height l + 1) (height r)) _ _
      ∙ ap₂ (λ a b. cond (nat_lt (height l + 1) (height r)) a b) (rotate_left-mapped l (left_of r) (right_of r))
      (cond-ap (mapped f) (nat_lt (height r + 1) (height l)) _ _ ∙ ap (λ a. cond (nat_lt (height r + 1) (height l)) a (fork (mapped f l) (mapped f r))) (rotate_right-mapped (left_of l) (right_of l) r)))

  adjoin-mapped : (a b : Tree A) → mapped f (adjoin a b) ≡ adjoin (mapped f a) (mapped f b)
  unfolding adjoin
  adjoin-mapped a b =
      rw (height-mapped a, height-mapped b, len a, len b, run-mapped a, run-mapped b, ← map-append (run a) (run b))
      (cond-ap (mapped f) (eqb (height a + height b) 0 && nat_le (length (run a) + length (run b)) 8) _ _)

  graft_right-mapped : (a b : Tree A) → mapped f (graft_right a b) ≡ graft_right (mapped f a) (mapped f b)
  unfolding graft_right
  graft_right-mapped (leaf n xs) b = adjoin-mapped (leaf n xs) b
  graft_right-mapped (branch n l r) b =
      rw (height-mapped b, height-mapped l, height-mapped r)
      (cond-ap (mapped f) (nat_lt (height b + 1) (height (branch n l r))) _ _
      ∙ ap₂ (λ x y. cond (nat_lt (height b + 1) (height (branch n l r))) x y)
      (balance-mapped l (graft_right r b) ∙ ap (λ z. balance (mapped f l) z) (graft_right-mapped r b)) (adjoin-mapped (branch n l r) b))

  graft_left-mapped : (a b : Tree A) → mapped f (graft_left a b) ≡ graft_left (mapped f a) (mapped f b)
  unfolding graft_left
  graft_left-mapped a (leaf n xs) = adjoin-mapped a (leaf n xs)
  graft_left-mapped a (branch n l r) =
      rw (height-mapped a, height-mapped l, height-mapped r)
      (cond-ap (mapped f) (nat_lt (height a + 1) (height (branch n l r))) _ _
      ∙ ap₂ (λ x y. cond (nat_lt (height a + 1) (height (branch n l r))) x y)
      (balance-mapped (graft_left a l) r ∙ ap (λ z. balance z (mapped f r)) (graft_left-mapped a l)) (adjoin-mapped a (branch n l r)))

  join-mapped : (a b : Tree A) → mapped f (join a b) ≡ join (mapped f a) (mapped f b)
  unfolding join
  join-mapped a b =
      rw (height-mapped a, height-mapped b)
      (cond-ap (mapped f) (nat_lt (height b + 1) (height a)) _ _ ∙ ap₂ (λ x y. cond (nat_lt (height b + 1) (height a)) x y) (graft_right-mapped a b) (graft_left-mapped a b))

  concat-mapped : (a b : Option (Tree A)) → mapped_maybe f (concat a b) ≡ concat (mapped_maybe f a) (mapped_maybe f b)
  unfolding concat
  concat-mapped None b = refl
  concat-mapped (Some a) None = refl
  concat-mapped (Some a) (Some b) = ap Some (join-mapped a b)

  abbrev both : Option (Tree A) × Option (Tree A) → Option (Tree B) × Option (Tree B)
  both p = (mapped_maybe f p.0, mapped_maybe f p.1)

  split-mapped : (t : Tree A) (at : ℕ) → both (split t at) ≡ split (mapped f t) at
  unfolding split
  split-mapped (leaf n xs) at =
      rw (map-length xs, ← map-take at xs, ← map-drop at xs)
      (cond-ap both (eqb at 0) _ _ ∙ ap (λ z. cond (eqb at 0) (None, Some (leaf n (map f xs))) z) (cond-ap both (eqb at (length xs)) _ _))
  split-mapped (branch n l r) at =
      rw (len l, len r)
      (cond-ap both (eqb at 0) _ _ ∙ ap (λ z. cond (eqb at 0) (None, Some (mapped f (branch n l r))) z)
      (cond-ap both (eqb at (length (run l) + length (run r))) _ _ ∙ ap (λ z. cond (eqb at (length (run l) + length (run r))) (Some (mapped f (branch n l r)), None) z)
      (cond-ap both (nat_lt at (length (run l))) _ _ ∙ ap₂ (λ y z. cond (nat_lt at (length (run l))) y z)
      (ap₂ (λ y z. (y, z)) (ap (λ p. p.0) (split-mapped l at)) (concat-mapped (split l at).1 (Some r) ∙ ap (λ z. concat z (Some (mapped f r))) (ap (λ p. p.1) (split-mapped l at))))
      (cond-ap both (eqb at (length (run l))) _ _ ∙ ap (λ z. cond (eqb at (length (run l))) (Some (mapped f l), Some (mapped f r)) z)
      (ap₂ (λ y z. (y, z)) (concat-mapped (Some l) (split r (at - length (run l))).0 ∙ ap (λ z. concat (Some (mapped f l)) z) (ap (λ p. p.0) (split-mapped r (at - length (run l)))))
      (ap (λ p. p.1) (split-mapped r (at - length (run l)))))))))

  split_maybe-mapped : (t : Option (Tree A)) (at : ℕ) → both (split_maybe t at) ≡ split_maybe (mapped_maybe f t) at
  split_maybe-mapped None at = refl
  split_maybe-mapped (Some t) at = split-mapped t at

  built-mapped : (fuel : ℕ) (xs : List A) → mapped f (built fuel xs) ≡ built fuel (map f xs)
  built-mapped zero xs = refl
  built-mapped (suc fuel) xs =
      rw (map-length xs)
      (cond-ap (mapped f) (nat_le (length xs) 8) _ _
      ∙ ap (λ z. cond (nat_le (length xs) 8) (leaf None (map f xs)) z)
      (ap₂ fork (built-mapped fuel (take (front_size (length xs)) xs) ∙ ap (built fuel) (map-take (front_size (length xs)) xs))
      (built-mapped fuel (drop (front_size (length xs)) xs) ∙ ap (built fuel) (map-drop (front_size (length xs)) xs))))

  -- the tree of other items
  pub build-mapped : (xs : List A) → mapped_maybe f (build xs) ≡ build (map f xs)
  unfolding build
  build-mapped [] = refl
  build-mapped (x ∷ xs) = ap Some (built-mapped (length (x ∷ xs)) (x ∷ xs) ∙ ap (λ n. built n (map f (x ∷ xs))) (sym (map-length (x ∷ xs))))

  -- the spliced tree of other items
  pub splice-mapped : (t : Option (Tree A)) (from to : ℕ) (xs : List A) → mapped_maybe f (splice t from to xs) ≡ splice (mapped_maybe f t) from to (map f xs)
  unfolding splice
  splice-mapped t from to xs =
      concat-mapped (concat (split_maybe t from).0 (build xs)) (split_maybe (split_maybe t from).1 (to - from)).1
      ∙ ap₂ concat
      (concat-mapped (split_maybe t from).0 (build xs) ∙ ap₂ concat (ap (λ p. p.0) (split_maybe-mapped t from)) (build-mapped xs))
      (ap (λ p. p.1) (split_maybe-mapped (split_maybe t from).1 (to - from)) ∙ ap (λ z. (split_maybe z (to - from)).1) (ap (λ p. p.1) (split_maybe-mapped t from)))

  made-mapped : (t : Tree A) → made (mapped f t) ≡ made t
  made-mapped (leaf None items) = refl
  made-mapped (leaf (Some n) items) = refl
  made-mapped (branch None l r) = ap₂ (λ a b. a + b + 1) (made-mapped l) (made-mapped r)
  made-mapped (branch (Some n) l r) = refl

  named-mapped : (n : ℕ) (t : Tree A) → mapped f (named n t) ≡ named n (mapped f t)
  named-mapped n (leaf None items) = refl
  named-mapped n (leaf (Some m) items) = refl
  named-mapped n (branch None l r) =
      rw (made-mapped l, made-mapped r) (ap₂ (branch (Some (n + made l + made r))) (named-mapped n l) (named-mapped (n + made l) r))
  named-mapped n (branch (Some m) l r) = refl

  pub with_names-mapped : (n : ℕ) (t : Option (Tree A)) → mapped_maybe f (with_names n t) ≡ with_names n (mapped_maybe f t)
  with_names-mapped n None = refl
  with_names-mapped n (Some t) = ap Some (named-mapped n t)

  pub new_names-mapped : (t : Option (Tree A)) → new_names (mapped_maybe f t) ≡ new_names t
  new_names-mapped None = refl
  new_names-mapped (Some t) = made-mapped t

  pub segments-mapped : (t : Tree A) → segments (mapped f t) ≡ map (mapped f) (segments t)
  segments-mapped (leaf name items) = refl
  segments-mapped (branch name l r) =
      ap₂ (λ a b. a ++ (b ++ branch name (mapped f l) (mapped f r) ∷ [])) (segments-mapped l) (segments-mapped r)
      ∙ ap (λ z. map (mapped f) (segments l) ++ z) (sym (map-appended (segments r) (branch name l r ∷ [])))
      ∙ sym (map-appended (segments l) (segments r ++ branch name l r ∷ [])) where
        map-appended : (xs ys : List (Tree A)) → map (mapped f) (xs ++ ys) ≡ map (mapped f) xs ++ map (mapped f) ys
        map-appended [] ys = refl
        map-appended (x ∷ xs) ys = ap (λ zs. mapped f x ∷ zs) (map-appended xs ys)
