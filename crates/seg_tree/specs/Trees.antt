-- Trees of segments as values. A node that was made just now has no name yet.
use Rattle.std.specs.Prelude.{ℕ, zero, suc, ◌+◌, ◌-◌, ◌*◌, ◌/◌, cond, ◌&&◌, nat_le, nat_lt, eqb, List, [], ◌∷◌, ◌++◌, length, take, drop, max, Option, Some, None}

pub data Tree (A : Type 0) : Type 0 where
  leaf : Option ℕ → List A → Tree A
  branch : Option ℕ → Tree A → Tree A → Tree A

-- what stands where there is no node
abbrev pub nothing : {A : Type 0} → Tree A
nothing = leaf None []

abbrev pub name_of : {A : Type 0} → Tree A → Option ℕ
name_of (leaf name items) = name
name_of (branch name left right) = name

-- the items, in order
abbrev pub run : {A : Type 0} → Tree A → List A
run (leaf name items) = items
run (branch name left right) = run left ++ run right

abbrev pub height : {A : Type 0} → Tree A → ℕ
height (leaf name items) = 0
height (branch name left right) = max (height left) (height right) + 1

-- the two sides of a branch
abbrev pub left_of : {A : Type 0} → Tree A → Tree A
left_of (leaf name items) = leaf name items
left_of (branch name left right) = left

abbrev pub right_of : {A : Type 0} → Tree A → Tree A
right_of (leaf name items) = leaf name items
right_of (branch name left right) = right

-- a new branch
abbrev pub fork : {A : Type 0} → Tree A → Tree A → Tree A
fork l r = branch None l r

-- l, and a higher tree of the sides m and r
unfoldable pub rotate_left : {A : Type 0} → Tree A → Tree A → Tree A → Tree A
rotate_left l m r = cond (nat_le (height m) (height r)) (fork (fork l m) r) (fork (fork l (left_of m)) (fork (right_of m) r))

-- a higher tree of the sides l and m, and r
unfoldable pub rotate_right : {A : Type 0} → Tree A → Tree A → Tree A → Tree A
rotate_right l m r = cond (nat_le (height m) (height l)) (fork l (fork m r)) (fork (fork l (left_of m)) (fork (right_of m) r))

-- two trees, the heights of which differ by at most 2
unfoldable pub balance : {A : Type 0} → Tree A → Tree A → Tree A
balance l r = cond (nat_lt (height l + 1) (height r)) (rotate_left l (left_of r) (right_of r)) (cond (nat_lt (height r + 1) (height l)) (rotate_right (left_of l) (right_of l) r) (fork l r))

-- two trees of about one height
unfoldable pub adjoin : {A : Type 0} → Tree A → Tree A → Tree A
adjoin a b = cond (eqb (height a + height b) 0 && nat_le (length (run a) + length (run b)) 8) (leaf None (run a ++ run b)) (fork a b)

-- b goes to the right end of a higher tree
unfoldable pub graft_right : {A : Type 0} → Tree A → Tree A → Tree A
graft_right (leaf n xs) b = adjoin (leaf n xs) b
graft_right (branch n l r) b = cond (nat_lt (height b + 1) (height (branch n l r))) (balance l (graft_right r b)) (adjoin (branch n l r) b)

-- a goes to the left end of a higher tree
unfoldable pub graft_left : {A : Type 0} → Tree A → Tree A → Tree A
graft_left a (leaf n ys) = adjoin a (leaf n ys)
graft_left a (branch n l r) = cond (nat_lt (height a + 1) (height (branch n l r))) (balance (graft_left a l) r) (adjoin a (branch n l r))

unfoldable pub join : {A : Type 0} → Tree A → Tree A → Tree A
join a b = cond (nat_lt (height b + 1) (height a)) (graft_right a b) (graft_left a b)

unfoldable pub concat : {A : Type 0} → Option (Tree A) → Option (Tree A) → Option (Tree A)
concat None b = b
concat (Some a) None = Some a
concat (Some a) (Some b) = Some (join a b)

abbrev pub run_maybe : {A : Type 0} → Option (Tree A) → List A
run_maybe None = []
run_maybe (Some t) = run t

-- the parts before and behind a place in the tree, from 0 to its length
unfoldable pub split : {A : Type 0} → Tree A → ℕ → Option (Tree A) × Option (Tree A)
split (leaf n xs) at =
    cond (eqb at 0) (None, Some (leaf n xs))
    (cond (eqb at (length xs)) (Some (leaf n xs), None) (Some (leaf None (take at xs)), Some (leaf None (drop at xs))))
split (branch n l r) at =
    cond (eqb at 0) (None, Some (branch n l r))
    (cond (eqb at (length (run l) + length (run r))) (Some (branch n l r), None)
    (cond (nat_lt at (length (run l))) ((split l at).0, concat (split l at).1 (Some r))
    (cond (eqb at (length (run l))) (Some l, Some r)
    (concat (Some l) (split r (at - length (run l))).0, (split r (at - length (run l))).1))))

abbrev pub split_maybe : {A : Type 0} → Option (Tree A) → ℕ → Option (Tree A) × Option (Tree A)
split_maybe None at = (None, None)
split_maybe (Some t) at = split t at

-- how many of the items the left side of a built tree has
abbrev pub front_size : ℕ → ℕ
front_size n = ((n + 7) / 8 + 1) / 2 * 8

abbrev pub built : {A : Type 0} → ℕ → List A → Tree A
built zero xs = leaf None xs
built (suc fuel) xs = cond (nat_le (length xs) 8) (leaf None xs) (fork (built fuel (take (front_size (length xs)) xs)) (built fuel (drop (front_size (length xs)) xs)))

unfoldable pub build : {A : Type 0} → List A → Option (Tree A)
build [] = None
build (x ∷ xs) = Some (built (length (x ∷ xs)) (x ∷ xs))

-- the items from one place to another replaced
unfoldable pub splice : {A : Type 0} → Option (Tree A) → ℕ → ℕ → List A → Option (Tree A)
splice t from to items = let p = split_maybe t from in concat (concat p.0 (build items)) (split_maybe p.1 (to - from)).1

-- how many nodes have no name
abbrev pub made : {A : Type 0} → Tree A → ℕ
made (leaf None items) = 1
made (leaf (Some n) items) = 0
made (branch None l r) = made l + made r + 1
made (branch (Some n) l r) = 0

-- the new nodes get the names from n on, children first
abbrev pub named : {A : Type 0} → ℕ → Tree A → Tree A
named n (leaf None items) = leaf (Some n) items
named n (leaf (Some m) items) = leaf (Some m) items
named n (branch None l r) = branch (Some (n + made l + made r)) (named n l) (named (n + made l) r)
named n (branch (Some m) l r) = branch (Some m) l r
