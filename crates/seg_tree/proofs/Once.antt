-- In a tree whose names were given just now, no name stands twice.
use Rattle.std.proofs.Common.{◌≡◌, ℕ, ◌+◌, ◌<◌, ◌≤◌, ◌⊎◌, inl, inr, refl, subst, arith}
use Rattle.std.specs.Prelude.{Some, None}
use Rattle.std.proofs.lemmas.Bool.Decides.{nat_tests}
use Rattle.seg_tree.specs.Trees.{Tree, leaf, branch, made, named}
use Rattle.seg_tree.specs.Measures.{uses, is_name}

is_name_same : (k : ℕ) → is_name k (Some k) ≡ 1
is_name_same k = grind (arith, nat_tests)

pub is_name_other : (k n : ℕ) → (n < k) ⊎ (k < n) → is_name k (Some n) ≡ 0
is_name_other k n h = grind (arith, nat_tests)

named_here : (k n : ℕ) → k ≡ n → is_name k (Some n) ≡ 1
named_here k n e = subst (λ m. is_name k (Some m) ≡ 1) e (is_name_same k)

which_name : (k n l r : ℕ) → n ≤ k → k < n + (l + r + 1) → (k < n + l) ⊎ (((n + l ≤ k) × (k < n + l + r)) ⊎ (k ≡ n + l + r))
which_name k n l r h g = grind arith

module _ {A : Type 0} where
  -- old names stand as often as before
  pub uses-named-old : (k n : ℕ) (t : Tree A) → k < n → uses k (named n t) ≡ uses k t
  uses-named-old k n (leaf None xs) h = is_name_other k n (inr h)
  uses-named-old k n (leaf (Some m) xs) h = refl
  uses-named-old k n (branch None l r) h = omega (arith, is_name_other k (n + made l + made r) (inr (omega arith)), uses-named-old k n l h, uses-named-old k (n + made l) r (omega arith))
  uses-named-old k n (branch (Some m) l r) h = refl

  -- names past the new ones stand nowhere
  pub uses-named-past : (k n : ℕ) (t : Tree A) → n + made t ≤ k → uses k t ≡ 0 → uses k (named n t) ≡ 0
  uses-named-past k n (leaf None xs) h z = is_name_other k n (inl (omega arith))
  uses-named-past k n (leaf (Some m) xs) h z = z
  uses-named-past k n (branch None l r) h z = omega (arith, is_name_other k (n + made l + made r) (inl (omega arith)), uses-named-past k n l (omega arith) (omega arith), uses-named-past k (n + made l) r (omega arith) (omega arith))
  uses-named-past k n (branch (Some m) l r) h z = z

  -- each new name stands once
  pub uses-named-one : (k n : ℕ) (t : Tree A) → n ≤ k → k < n + made t → uses k t ≡ 0 → uses k (named n t) ≡ 1
  uses-named-one k n (leaf None xs) h g z = named_here k n (omega arith)
  uses-named-one k n (leaf (Some m) xs) h g z = absurd (omega arith)
  uses-named-one k n (branch None l r) h g z = elim (which_name k n (made l) (made r) h g) [
    | inl left ↦ omega (arith, is_name_other k (n + made l + made r) (inr (omega arith)), uses-named-one k n l h left (omega arith), uses-named-old k (n + made l) r left)
    | inr rest ↦ elim rest [
      | inl right ↦ omega (arith, is_name_other k (n + made l + made r) (inr right.1), uses-named-past k n l right.0 (omega arith), uses-named-one k (n + made l) r right.0 right.1 (omega arith))
      | inr here ↦ omega (arith, named_here k (n + made l + made r) here, uses-named-past k n l (omega arith) (omega arith), uses-named-past k (n + made l) r (omega arith) (omega arith))
    ]
  ]
  uses-named-one k n (branch (Some m) l r) h g z = absurd (omega arith)
