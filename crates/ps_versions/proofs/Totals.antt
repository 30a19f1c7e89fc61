-- A tree weighed by its names: how many segments keep nothing, as a sum over the names of a table.
use Rattle.std.proofs.Common.{◌≡◌, ℕ, zero, suc, ◌+◌, ◌<◌, ◌≤◌, ◌⊎◌, inl, inr, List, [], ◌∷◌, ◌++◌, length, replicate, refl, sym, ap, ◌∙◌, arith, Bool, true, false, cond}
use Rattle.std.specs.Prelude.{Option, Some, None, is_none}
use Rattle.std.proofs.lemmas.Bool.Decides.{nat_tests}
use Rattle.seg_tree.specs.Trees.{Tree, leaf, branch}
use Rattle.seg_tree.specs.Measures.{is_name, uses, uses_maybe}
use Rattle.seg_tree.specs.Growth.{Passes}
use Rattle.ps_versions.specs.Records.{record_at}
use Rattle.ps_versions.specs.Questions.{lacks_by, missing_in}
use Rattle.ps_versions.proofs.Counting.{missing_leaf, missing_branch}

abbrev pub pick : Bool → ℕ → ℕ
pick b n = cond b n 0

pick-add : (b : Bool) (m n : ℕ) → pick b (m + n) ≡ pick b m + pick b n
pick-add true m n = refl
pick-add false m n = omega arith

pick-le : (b : Bool) (m n : ℕ) → m ≤ n → pick b m ≤ pick b n
pick-le true m n h = h
pick-le false m n h = omega arith

pick-most : (b : Bool) (n : ℕ) → pick b n ≤ n
pick-most true n = omega arith
pick-most false n = omega arith

pick-zero : (b : Bool) (n : ℕ) → n ≡ 0 → pick b n ≡ 0
pick-zero true n e = e
pick-zero false n e = refl

pick-one : (b : Bool) (n : ℕ) → n ≡ 1 → pick b n ≡ cond b 1 0
pick-one true n e = e
pick-one false n e = refl

-- the sum of u over the names below n of which b is true
abbrev pub total : (ℕ → Bool) → (ℕ → ℕ) → ℕ → ℕ
total b u zero = 0
total b u (suc n) = total b u n + pick (b n) (u n)

which : (k n : ℕ) → (k < n) ⊎ ((k ≡ n) ⊎ (n < k))
which k n = grind arith

module _ (b : ℕ → Bool) where
  total-add : (u v : ℕ → ℕ) (n : ℕ) → total b (λ k. u k + v k) n ≡ total b u n + total b v n
  total-add u v zero = omega arith
  total-add u v (suc n) = omega (arith, total-add u v n, pick-add (b n) (u n) (v n))

  total-le : (u v : ℕ → ℕ) (n : ℕ) → ((k : ℕ) → k < n → u k ≤ v k) → total b u n ≤ total b v n
  total-le u v zero h = omega arith
  total-le u v (suc n) h = omega (arith, total-le u v n (λ k near. h k (omega arith)), pick-le (b n) (u n) (v n) (h n (omega arith)))

  -- names from m on that stand once
  total-grown : (u : ℕ → ℕ) (m n : ℕ) → ((k : ℕ) → m ≤ k → k < m + n → u k ≡ 1) → total b u (m + n) ≤ total b u m + n
  total-grown u m zero h = let e : m + 0 ≡ m = omega arith in omega (arith, ap (total b u) e)
  total-grown u m (suc n) h =
      let e : m + suc n ≡ suc (m + n) = omega arith in
      omega (arith, ap (total b u) e, total-grown u m n (λ k from near. h k from (omega arith)), pick-most (b (m + n)) (u (m + n)), h (m + n) (omega arith) (omega arith))

  other_name : (k m : ℕ) → (k < m) ⊎ (m < k) → is_name k (Some m) ≡ 0
  other_name k m h = grind (arith, nat_tests)

  same_name : (k : ℕ) → is_name k (Some k) ≡ 1
  same_name k = grind (arith, nat_tests)

  total-past : (m n : ℕ) → n ≤ m → total b (λ k. is_name k (Some m)) n ≡ 0
  total-past m zero h = refl
  total-past m (suc n) h = omega (arith, total-past m n (omega arith), pick-zero (b n) (is_name n (Some m)) (other_name n m (inl (omega arith))))

  total-name : (m n : ℕ) → m < n → total b (λ k. is_name k (Some m)) n ≡ cond (b m) 1 0
  total-name m zero h = absurd (omega arith)
  total-name m (suc n) h = elim (which m n) [
    | inl low ↦ omega (arith, total-name m n low, pick-zero (b n) (is_name n (Some m)) (other_name n m (inr low)))
    | inr rest ↦ elim rest [
      | inl e ↦ last e
      | inr high ↦ absurd (omega arith)
    ]
  ]
    where
      last : m ≡ n → total b (λ k. is_name k (Some m)) (suc n) ≡ cond (b m) 1 0
      last e =
          let here : is_name n (Some m) ≡ 1 = ap (λ k. is_name k (Some m)) (sym e) ∙ same_name m in
          let both : cond {A = ℕ} (b m) 1 0 ≡ cond {A = ℕ} (b n) 1 0 = ap {B = ℕ} (λ k. cond {A = ℕ} (b k) 1 0) e in
          omega (arith, total-past m n (omega arith), pick-one (b n) (is_name n (Some m)) here, both)

  abbrev pub one : Option ℕ → ℕ
  one None = 0
  one (Some m) = cond (b m) 1 0

  total-none : (n : ℕ) → total b (λ k. is_name k None) n ≡ 0
  total-none zero = refl
  total-none (suc n) = omega (arith, total-none n, pick-zero (b n) 0 refl)

  name-most : (name : Option ℕ) (n : ℕ) → total b (λ k. is_name k name) n ≤ one name
  name-most None n = omega (arith, total-none n)
  name-most (Some m) n = elim (which m n) [
    | inl low ↦ omega (arith, total-name m n low)
    | inr rest ↦ elim rest [
      | inl e ↦ omega (arith, total-past m n (omega (arith, e)))
      | inr high ↦ omega (arith, total-past m n (omega arith))
    ]
  ]

  name-least : (name : Option ℕ) (n : ℕ) → ((k : ℕ) → n ≤ k → is_name k name ≡ 0) → one name ≤ total b (λ k. is_name k name) n
  name-least None n h = omega arith
  name-least (Some m) n h = elim (which m n) [
    | inl low ↦ omega (arith, total-name m n low)
    | inr rest ↦ elim rest [
      | inl e ↦ absurd (omega (arith, same_name m, h m (omega (arith, e))))
      | inr high ↦ absurd (omega (arith, same_name m, h m (omega arith)))
    ]
  ]

-- two tests that agree below n
total-same : (b d : ℕ → Bool) (u : ℕ → ℕ) (n : ℕ) → ((k : ℕ) → k < n → b k ≡ d k) → total b u n ≡ total d u n
total-same b d u zero h = refl
total-same b d u (suc n) h = omega (arith, total-same b d u n (λ k near. h k (omega arith)), ap (λ x. pick x (u n)) (h n (omega arith)))

module _ {R : Type 0} (kept : List (Option (ℕ × R))) where
  abbrev pub empty : ℕ → Bool
  empty k = is_none (record_at kept k)

  one_lacks : (name : Option ℕ) → cond (lacks_by kept name) 1 0 ≡ one empty name
  one_lacks None = refl
  one_lacks (Some m) = refl

  pub weigh_most : (t : Tree ℕ) (n : ℕ) → total empty (λ k. uses k t) n ≤ missing_in kept (Some t)
  weigh_most (leaf name xs) n = omega (arith, missing_leaf kept (leaf name xs) name xs refl, one_lacks name, name-most empty name n)
  weigh_most (branch name l r) n = omega (
    arith,
    missing_branch kept (branch name l r) name l r refl,
    one_lacks name,
    name-most empty name n,
    total-add empty (λ k. is_name k name + uses k l) (λ k. uses k r) n,
    total-add empty (λ k. is_name k name) (λ k. uses k l) n,
    weigh_most l n,
    weigh_most r n,
  )

  pub weigh_least : (t : Tree ℕ) (n : ℕ) → ((k : ℕ) → n ≤ k → uses k t ≡ 0) → missing_in kept (Some t) ≤ total empty (λ k. uses k t) n
  weigh_least (leaf name xs) n h = omega (arith, missing_leaf kept (leaf name xs) name xs refl, one_lacks name, name-least empty name n h)
  weigh_least (branch name l r) n h = omega (
    arith,
    missing_branch kept (branch name l r) name l r refl,
    one_lacks name,
    name-least empty name n (λ k from. omega (arith, h k from)),
    total-add empty (λ k. is_name k name + uses k l) (λ k. uses k r) n,
    total-add empty (λ k. is_name k name) (λ k. uses k l) n,
    weigh_least l n (λ k from. omega (arith, h k from)),
    weigh_least r n (λ k from. omega (arith, h k from)),
  )

  weigh_most_maybe : (t : Option (Tree ℕ)) (n : ℕ) → total empty (λ k. uses_maybe k t) n ≤ missing_in kept t
  weigh_most_maybe None n = zeros n
    where
      zeros : (n : ℕ) → total empty (λ k. 0) n ≤ 0
      zeros zero = omega arith
      zeros (suc n) = omega (arith, zeros n, pick-zero (empty n) 0 refl)
  weigh_most_maybe (Some t) n = weigh_most t n

  weigh_least_maybe : (t : Option (Tree ℕ)) (n : ℕ) → ((k : ℕ) → n ≤ k → uses_maybe k t ≡ 0) → missing_in kept t ≤ total empty (λ k. uses_maybe k t) n
  weigh_least_maybe None n h = omega arith
  weigh_least_maybe (Some t) n h = weigh_least t n h

module _ {R : Type 0} where
  read_front : (xs ys : List (Option (ℕ × R))) (k : ℕ) → k < length xs → record_at (xs ++ ys) k ≡ record_at xs k
  read_front [] ys k h = absurd (omega arith)
  read_front (x ∷ xs) ys zero h = refl
  read_front (x ∷ xs) ys (suc k) h = read_front xs ys k (omega arith)

  -- what a result lacks beyond what was given is at most the number of new nodes
  pub few_missing : (old new : List (Option (ℕ × R))) (more : ℕ) (s t : Option (Tree ℕ)) → new ≡ old ++ replicate more None → Passes (length old) (length old + more) (λ k. uses_maybe k s) (λ k. uses_maybe k t) → missing_in new t ≤ missing_in old s + more
  few_missing old new more s t e p =
      let n : ℕ = length old in
      let same : total (empty new) (λ k. uses_maybe k t) n ≡ total (empty old) (λ k. uses_maybe k t) n = total-same (empty new) (empty old) (λ k. uses_maybe k t) n (λ k near. ap (λ ks. is_none (record_at ks k)) e ∙ ap is_none (read_front old (replicate more None) k near)) in
      omega (
        arith,
        weigh_least_maybe new t (n + more) p.no_others,
        total-grown (empty new) (λ k. uses_maybe k t) n more p.new_ones,
        same,
        total-le (empty old) (λ k. uses_maybe k t) (λ k. uses_maybe k s) n p.old_ones,
        weigh_most_maybe old s n,
      )
