-- Trees whose names stand for their items: what is made of them, and the names that their new nodes get.
use Rattle.std.proofs.Common.{◌≡◌, ◌≤◌, ◌+◌, ◌-◌, ℕ, zero, suc, Bool, true, false, cond, inl, inr, List, [], ◌∷◌, ◌++◌, length, take, drop, refl, sym, ap, ap₂, ◌∙◌, subst, arith, eqb, nat_le, nat_lt, length-append, append_assoc}
use Rattle.std.specs.Prelude.{Option, Some, None, slice_get, Contains}
use Rattle.std.proofs.lemmas.List.Elements.{Contains-append_cases}
use Rattle.seg_tree.specs.Trees.{Tree, leaf, branch, name_of, run, run_maybe, height, left_of, right_of, fork, rotate_left, rotate_right, balance, adjoin, graft_right, graft_left, join, concat, split, split_maybe, front_size, built, build, splice, made, named}
use Rattle.seg_tree.specs.Measures.{IsBalanced, IsBalancedMaybe}
use Rattle.seg_tree.proofs.Growing.{height-named}
use Rattle.ps_journal.specs.State.{Item}
use Rattle.ps_journal.specs.Segments.{segments, segments_of, with_names, new_names}
use Rattle.ps_history.specs.Nodes.{Node, node, StandsFor, IsKnown, IsKnownMaybe, IsDraft, IsDraftMaybe, new_nodes, new_nodes_maybe}
use Rattle.ps_history.proofs.Lists.{get_front, get_last}

-- ---- drafts
module _ (table : List Node) (q : ℕ) where
  pub known_draft : (t : Tree Item) → IsKnown table q t → IsDraft table q t
  known_draft (leaf None items) h = tt
  known_draft (leaf (Some k) items) h = h
  known_draft (branch None l r) h = absurd h.0
  known_draft (branch (Some k) l r) h = h

  left_draft : (t : Tree Item) → IsDraft table q t → IsDraft table q (left_of t)
  left_draft (leaf name items) h = h
  left_draft (branch None l r) h = h.0
  left_draft (branch (Some k) l r) h = known_draft l h.1

  right_draft : (t : Tree Item) → IsDraft table q t → IsDraft table q (right_of t)
  right_draft (leaf name items) h = h
  right_draft (branch None l r) h = h.1
  right_draft (branch (Some k) l r) h = known_draft r h.2

  either : (b : Bool) (x y : Tree Item) → IsDraft table q x → IsDraft table q y → IsDraft table q (cond b x y)
  either true x y h k = h
  either false x y h k = k

  rotate_left_draft : (l m r : Tree Item) → IsDraft table q l → IsDraft table q m → IsDraft table q r → IsDraft table q (rotate_left l m r)
  unfolding rotate_left
  rotate_left_draft l m r a b c =
      either (nat_le (height m) (height r)) (fork (fork l m) r) (fork (fork l (left_of m)) (fork (right_of m) r)) ((a, b), c)
      ((a, left_draft m b), (right_draft m b, c))

  rotate_right_draft : (l m r : Tree Item) → IsDraft table q l → IsDraft table q m → IsDraft table q r → IsDraft table q (rotate_right l m r)
  unfolding rotate_right
  rotate_right_draft l m r a b c =
      either (nat_le (height m) (height l)) (fork l (fork m r)) (fork (fork l (left_of m)) (fork (right_of m) r)) (a, (b, c))
      ((a, left_draft m b), (right_draft m b, c))

  balance_draft : (l r : Tree Item) → IsDraft table q l → IsDraft table q r → IsDraft table q (balance l r)
  unfolding balance
  balance_draft l r a b =
      either (nat_lt (height l + 1) (height r)) (rotate_left l (left_of r) (right_of r))
      (cond (nat_lt (height r + 1) (height l)) (rotate_right (left_of l) (right_of l) r) (fork l r))
      (rotate_left_draft l (left_of r) (right_of r) a (left_draft r b) (right_draft r b))
      (either (nat_lt (height r + 1) (height l)) (rotate_right (left_of l) (right_of l) r) (fork l r)
      (rotate_right_draft (left_of l) (right_of l) r (left_draft l a) (right_draft l a) b) (a, b))

  adjoin_draft : (x y : Tree Item) → IsDraft table q x → IsDraft table q y → IsDraft table q (adjoin x y)
  unfolding adjoin
  adjoin_draft x y a b = either _ (leaf None (run x ++ run y)) (fork x y) tt (a, b)

  graft_right_draft : (x y : Tree Item) → IsDraft table q x → IsDraft table q y → IsDraft table q (graft_right x y)
  unfolding graft_right
  graft_right_draft (leaf n xs) y a b = adjoin_draft (leaf n xs) y a b
  graft_right_draft (branch n l r) y a b =
      either _ (balance l (graft_right r y)) (adjoin (branch n l r) y)
      (balance_draft l (graft_right r y) (left_draft (branch n l r) a) (graft_right_draft r y (right_draft (branch n l r) a) b))
      (adjoin_draft (branch n l r) y a b)

  graft_left_draft : (x y : Tree Item) → IsDraft table q x → IsDraft table q y → IsDraft table q (graft_left x y)
  unfolding graft_left
  graft_left_draft x (leaf n ys) a b = adjoin_draft x (leaf n ys) a b
  graft_left_draft x (branch n l r) a b =
      either _ (balance (graft_left x l) r) (adjoin x (branch n l r))
      (balance_draft (graft_left x l) r (graft_left_draft x l a (left_draft (branch n l r) b)) (right_draft (branch n l r) b))
      (adjoin_draft x (branch n l r) a b)

  join_draft : (x y : Tree Item) → IsDraft table q x → IsDraft table q y → IsDraft table q (join x y)
  unfolding join
  join_draft x y a b = either _ (graft_right x y) (graft_left x y) (graft_right_draft x y a b) (graft_left_draft x y a b)

  concat_draft : (x y : Option (Tree Item)) → IsDraftMaybe table q x → IsDraftMaybe table q y → IsDraftMaybe table q (concat x y)
  unfolding concat
  concat_draft None y a b = b
  concat_draft (Some x) None a b = a
  concat_draft (Some x) (Some y) a b = join_draft x y a b

  abbrev Both : Option (Tree Item) × Option (Tree Item) → Type 0
  Both p = IsDraftMaybe table q p.0 × IsDraftMaybe table q p.1

  either_both : (b : Bool) (x y : Option (Tree Item) × Option (Tree Item)) → Both x → Both y → Both (cond b x y)
  either_both true x y h k = h
  either_both false x y h k = k

  -- the parts of a branch at a place behind its left side, at one inside, and at any but the first
  abbrev between : Tree Item → Tree Item → ℕ → Option (Tree Item) × Option (Tree Item)
  between l r at =
      cond (eqb at (length (run l))) (Some l, Some r) (concat (Some l) (split r (at - length (run l))).0, (split r (at - length (run l))).1)

  abbrev inside : Tree Item → Tree Item → ℕ → Option (Tree Item) × Option (Tree Item)
  inside l r at = cond (nat_lt at (length (run l))) ((split l at).0, concat (split l at).1 (Some r)) (between l r at)

  abbrev behind : Option ℕ → Tree Item → Tree Item → ℕ → Option (Tree Item) × Option (Tree Item)
  behind n l r at = cond (eqb at (length (run l) + length (run r))) (Some (branch n l r), None) (inside l r at)

  -- and of a leaf
  abbrev cut : Option ℕ → List Item → ℕ → Option (Tree Item) × Option (Tree Item)
  cut n xs at = cond (eqb at (length xs)) (Some (leaf n xs), None) (Some (leaf None (take at xs)), Some (leaf None (drop at xs)))

  split_draft : (t : Tree Item) (at : ℕ) → IsDraft table q t → Both (split t at)
  unfolding split
  split_draft (leaf n xs) at h =
      either_both (eqb at 0) (None, Some (leaf n xs)) (cut n xs at) (tt, h)
      (either_both (eqb at (length xs)) (Some (leaf n xs), None) (Some (leaf None (take at xs)), Some (leaf None (drop at xs))) (h, tt) (tt, tt))
  split_draft (branch n l r) at h =
      let a : IsDraft table q l = left_draft (branch n l r) h in
      let b : IsDraft table q r = right_draft (branch n l r) h in
      let front = split_draft l at a in
      let back = split_draft r (at - length (run l)) b in
      either_both (eqb at 0) (None, Some (branch n l r)) (behind n l r at) (tt, h)
      (either_both (eqb at (length (run l) + length (run r))) (Some (branch n l r), None) (inside l r at) (h, tt)
      (either_both (nat_lt at (length (run l))) ((split l at).0, concat (split l at).1 (Some r)) (between l r at)
      (front.0, concat_draft (split l at).1 (Some r) front.1 b)
      (either_both (eqb at (length (run l))) (Some l, Some r) (concat (Some l) (split r (at - length (run l))).0, (split r (at - length (run l))).1) (a, b)
      (concat_draft (Some l) (split r (at - length (run l))).0 a back.0, back.1))))

  split_maybe_draft : (t : Option (Tree Item)) (at : ℕ) → IsDraftMaybe table q t → Both (split_maybe t at)
  split_maybe_draft None at h = (tt, tt)
  split_maybe_draft (Some t) at h = split_draft t at h

  built_draft : (fuel : ℕ) (xs : List Item) → IsDraft table q (built fuel xs)
  built_draft zero xs = tt
  built_draft (suc fuel) xs =
      either (nat_le (length xs) 8) (leaf None xs) (fork (built fuel (take (front_size (length xs)) xs)) (built fuel (drop (front_size (length xs)) xs)))
      tt (built_draft fuel (take (front_size (length xs)) xs), built_draft fuel (drop (front_size (length xs)) xs))

  pub build_draft : (xs : List Item) → IsDraftMaybe table q (build xs)
  unfolding build
  build_draft [] = tt
  build_draft (x ∷ xs) = built_draft (length (x ∷ xs)) (x ∷ xs)

  maybe_draft : (t : Option (Tree Item)) → IsKnownMaybe table q t → IsDraftMaybe table q t
  maybe_draft None h = tt
  maybe_draft (Some t) h = known_draft t h

  -- a splice of what is known
  pub splice_draft : (t : Option (Tree Item)) (from to : ℕ) (xs : List Item) → IsKnownMaybe table q t → IsDraftMaybe table q (splice t from to xs)
  unfolding splice
  splice_draft t from to xs h =
      let front = split_maybe_draft t from (maybe_draft t h) in
      let back = split_maybe_draft (split_maybe t from).1 (to - from) front.1 in
      concat_draft (concat (split_maybe t from).0 (build xs)) (split_maybe (split_maybe t from).1 (to - from)).1
      (concat_draft (split_maybe t from).0 (build xs) front.0 (build_draft xs)) back.1

-- ---- longer tables
module _ (table more : List Node) (q : ℕ) where
  pub stands_more : (name : Option ℕ) (items : List Item) → StandsFor table q name items → StandsFor (table ++ more) q name items
  stands_more None items h = h
  stands_more (Some k) items h = get_front table more k (node items q) h

  pub known_more : (t : Tree Item) → IsKnown table q t → IsKnown (table ++ more) q t
  known_more (leaf name items) h = stands_more name items h
  known_more (branch name l r) h = (stands_more name (run l ++ run r) h.0, known_more l h.1, known_more r h.2)

  pub known_maybe_more : (t : Option (Tree Item)) → IsKnownMaybe table q t → IsKnownMaybe (table ++ more) q t
  known_maybe_more None h = tt
  known_maybe_more (Some t) h = known_more t h

  pub draft_more : (t : Tree Item) → IsDraft table q t → IsDraft (table ++ more) q t
  draft_more (leaf None items) h = tt
  draft_more (leaf (Some k) items) h = stands_more (Some k) items h
  draft_more (branch None l r) h = (draft_more l h.0, draft_more r h.1)
  draft_more (branch (Some k) l r) h = (stands_more (Some k) (run l ++ run r) h.0, known_more l h.1, known_more r h.2)

-- ---- new names
run_named : (n : ℕ) (t : Tree Item) → run (named n t) ≡ run t
run_named n (leaf None items) = refl
run_named n (leaf (Some k) items) = refl
run_named n (branch None l r) = ap₂ (λ a b. a ++ b) (run_named n l) (run_named (n + made l) r)
run_named n (branch (Some k) l r) = refl

pub run_with_names : (n : ℕ) (t : Option (Tree Item)) → run_maybe (with_names n t) ≡ run_maybe t
run_with_names n None = refl
run_with_names n (Some t) = run_named n t

-- names change nothing of the shape
balanced_named : (n : ℕ) (t : Tree Item) → IsBalanced t → IsBalanced (named n t)
balanced_named n (leaf None items) h = tt
balanced_named n (leaf (Some k) items) h = tt
balanced_named n (branch None l r) h = (
  balanced_named n l h.0,
  balanced_named (n + made l) r h.1,
  omega (arith, height-named n l, height-named (n + made l) r, h.2),
  omega (arith, height-named n l, height-named (n + made l) r, h.3),
)
balanced_named n (branch (Some k) l r) h = h

pub balanced_with_names : (n : ℕ) (t : Option (Tree Item)) → IsBalancedMaybe t → IsBalancedMaybe (with_names n t)
balanced_with_names n None h = tt
balanced_with_names n (Some t) h = balanced_named n t h

count_new : (q : ℕ) (t : Tree Item) → length (new_nodes q t) ≡ made t
count_new q (leaf None items) = refl
count_new q (leaf (Some k) items) = refl
count_new q (branch None l r) =
    let a = count_new q l in
    let b = count_new q r in
    let c = length-append (new_nodes q l) (new_nodes q r ++ node (run l ++ run r) q ∷ []) in
    let d = length-append (new_nodes q r) (node (run l ++ run r) q ∷ []) in
    omega (arith, a, b, c, d)
count_new q (branch (Some k) l r) = refl

pub count_new_maybe : (q : ℕ) (t : Option (Tree Item)) → length (new_nodes_maybe q t) ≡ new_names t
count_new_maybe q None = refl
count_new_maybe q (Some t) = count_new q t

last_stands : (table : List Node) (q n : ℕ) (items : List Item) → n ≡ length table → StandsFor (table ++ node items q ∷ []) q (Some n) items
last_stands table q n items e = ap (slice_get (table ++ node items q ∷ [])) e ∙ get_last table (node items q)

named_known : (table : List Node) (q n : ℕ) (t : Tree Item) → n ≡ length table → IsDraft table q t → IsKnown (table ++ new_nodes q t) q (named n t)
named_known table q n (leaf None items) e h = last_stands table q n items e
named_known table q n (leaf (Some k) items) e h = stands_more table [] q (Some k) items h
named_known table q n (branch None l r) e h =
    let front : List Node = table ++ new_nodes q l in
    let both : List Node = front ++ new_nodes q r in
    let last : Node = node (run l ++ run r) q in
    let size : length front ≡ n + made l = length-append table (new_nodes q l) ∙ ap₂ (λ a b. a + b) (sym e) (count_new q l) in
    let sizes : length both ≡ n + made l + made r = length-append front (new_nodes q r) ∙ ap₂ (λ a b. a + b) size (count_new q r) in
    let left : IsKnown front q (named n l) = named_known table q n l e h.0 in
    let right : IsKnown both q (named (n + made l) r) = named_known front q (n + made l) r (sym size) (draft_more table (new_nodes q l) q r h.1) in
    let whole : table ++ (new_nodes q l ++ (new_nodes q r ++ last ∷ [])) ≡ both ++ last ∷ [] =
    sym (append_assoc table (new_nodes q l) (new_nodes q r ++ last ∷ [])) ∙ sym (append_assoc front (new_nodes q r) (last ∷ [])) in
    let items : run (named n l) ++ run (named (n + made l) r) ≡ run l ++ run r = ap₂ (λ a b. a ++ b) (run_named n l) (run_named (n + made l) r) in
    let root : StandsFor (both ++ last ∷ []) q (Some (n + made l + made r)) (run (named n l) ++ run (named (n + made l) r)) =
    subst (λ xs. StandsFor (both ++ last ∷ []) q (Some (n + made l + made r)) xs) (sym items)
    (last_stands both q (n + made l + made r) (run l ++ run r) (sym sizes)) in
    subst (λ ns. IsKnown ns q (branch (Some (n + made l + made r)) (named n l) (named (n + made l) r))) (sym whole) (
      root,
      known_more both (last ∷ []) q (named n l) (known_more front (new_nodes q r) q (named n l) left),
      known_more both (last ∷ []) q (named (n + made l) r) right,
    )
named_known table q n (branch (Some k) l r) e h = known_more table [] q (branch (Some k) l r) h

-- the new nodes of a draft get the next names, and all is known then
pub names_known : (table : List Node) (q n : ℕ) (t : Option (Tree Item)) → n ≡ length table → IsDraftMaybe table q t
    → IsKnownMaybe (table ++ new_nodes_maybe q t) q (with_names n t)
names_known table q n None e h = tt
names_known table q n (Some t) e h = named_known table q n t e h

-- ---- segments of what is known
one_alone : {A : Type 0} (x y : A) → Contains (x ∷ []) y → x ≡ y
one_alone x y (zero, l, e) = e
one_alone x y (suc k, l, e) = absurd (omega arith)

-- what holds of the segments of a branch
in_branch : (name : Option ℕ) (l r s : Tree Item) (P : Type 0) → Contains (segments (branch name l r)) s → (Contains (segments l) s → P)
    → (Contains (segments r) s → P) → (branch name l r ≡ s → P) → P
in_branch name l r s P h left right root = elim (Contains-append_cases (segments l) (segments r ++ branch name l r ∷ []) s h) [
  | inl a ↦ left a
  | inr b ↦ elim (Contains-append_cases (segments r) (branch name l r ∷ []) s b) [
    | inl c ↦ right c
    | inr d ↦ root (one_alone (branch name l r) s d)
  ]
]

module _ (table : List Node) (q : ℕ) where
  known_segment : (t s : Tree Item) → IsKnown table q t → Contains (segments t) s → IsKnown table q s
  known_segment (leaf name items) s h c = subst (IsKnown table q) (one_alone (leaf name items) s c) h
  known_segment (branch name l r) s h c =
      in_branch name l r s (IsKnown table q s) c (known_segment l s h.1) (known_segment r s h.2) (λ e. subst (IsKnown table q) e h)

  pub known_within : (t : Option (Tree Item)) (s : Tree Item) → IsKnownMaybe table q t → Contains (segments_of t) s → IsKnown table q s
  known_within None s h c = absurd (omega (arith, c.1))
  known_within (Some t) s h c = known_segment t s h c

  pub known_stands : (t : Tree Item) → IsKnown table q t → StandsFor table q (name_of t) (run t)
  known_stands (leaf name items) h = h
  known_stands (branch name l r) h = h.0

-- what holds of parts of lists holds of the items of segments
module _ (P : List Item → Type 0) (front : (xs ys : List Item) → P (xs ++ ys) → P xs) (back : (xs ys : List Item) → P (xs ++ ys) → P ys) where
  segment_part : (t s : Tree Item) → P (run t) → Contains (segments t) s → P (run s)
  segment_part (leaf name items) s h c = subst (λ x. P (run x)) (one_alone (leaf name items) s c) h
  segment_part (branch name l r) s h c =
      in_branch name l r s (P (run s)) c (segment_part l s (front (run l) (run r) h)) (segment_part r s (back (run l) (run r) h))
      (λ e. subst (λ x. P (run x)) e h)

  pub part_within : (t : Option (Tree Item)) (s : Tree Item) → P (run_maybe t) → Contains (segments_of t) s → P (run s)
  part_within None s h c = absurd (omega (arith, c.1))
  part_within (Some t) s h c = segment_part t s h c
