-- What planted trees are, in the words of the calls.
use Rattle.std.proofs.Common.{◌≡◌, ℕ, ◌+◌, ◌<◌, ◌≤◌, ◌⊎◌, inl, inr, List, length, refl, sym, ap, ◌∙◌, subst, arith, [], ◌∷◌}
use Rattle.std.specs.Prelude.{Option, Some, None, IsNone, ◌↔◌}
use Rattle.seg_tree.specs.Trees.{Tree, leaf, branch, run_maybe, height, made, named, build}
use Rattle.seg_tree.specs.Measures.{IsBalanced, IsBalancedMaybe, uses_maybe, fresh_maybe}
use Rattle.seg_tree.specs.Table.{root_tree, IsRoot}
use Rattle.seg_tree.specs.Growth.{Keeps, PlantsMaybe, PlantsPair, Passes, made_maybe, named_maybe}
use Rattle.seg_tree.proofs.Growing.{run-named, height-named, keeps_then, good_kept, draft_tree-kept}
use Rattle.seg_tree.specs.Drafts.{maybe_tree, IsGoodMaybe}
use Rattle.seg_tree.specs.declared.drafts.Draft.{Draft}
use Rattle.seg_tree.proofs.Once.{uses-named-old, uses-named-past, uses-named-one}
use Rattle.seg_tree.proofs.Fresh.{made_le}

balanced-named : {A : Type 0} → (n : ℕ) (t : Tree A) → IsBalanced t → IsBalanced (named n t)
balanced-named n (leaf None xs) b = tt
balanced-named n (leaf (Some m) xs) b = tt
balanced-named n (branch None l r) b =
    let hl : height (named n l) ≡ height l = height-named n l in
    let hr : height (named (n + made l) r) ≡ height r = height-named (n + made l) r in
    (balanced-named n l b.0, balanced-named (n + made l) r b.1, omega (arith, hl, hr, b.2), omega (arith, hl, hr, b.3))
balanced-named n (branch (Some m) l r) b = b

run-named_maybe : (n : ℕ) (t : Option (Tree ℕ)) → run_maybe (named_maybe n t) ≡ run_maybe t
run-named_maybe n None = refl
run-named_maybe n (Some t) = run-named n t

balanced-named_maybe : (n : ℕ) (t : Option (Tree ℕ)) → IsBalancedMaybe t → IsBalancedMaybe (named_maybe n t)
balanced-named_maybe n None b = tt
balanced-named_maybe n (Some t) b = balanced-named n t b

uses-named_maybe-old : (k n : ℕ) (t : Option (Tree ℕ)) → k < n → uses_maybe k (named_maybe n t) ≡ uses_maybe k t
uses-named_maybe-old k n None h = refl
uses-named_maybe-old k n (Some t) h = uses-named-old k n t h

uses-named_maybe-past : (k n : ℕ) (t : Option (Tree ℕ)) → n + made_maybe t ≤ k → uses_maybe k t ≡ 0 → uses_maybe k (named_maybe n t) ≡ 0
uses-named_maybe-past k n None h z = refl
uses-named_maybe-past k n (Some t) h z = uses-named-past k n t h z

uses-named_maybe-one : (k n : ℕ) (t : Option (Tree ℕ)) → n ≤ k → k < n + made_maybe t → uses_maybe k t ≡ 0 → uses_maybe k (named_maybe n t) ≡ 1
uses-named_maybe-one k n None h g z = absurd (omega arith)
uses-named_maybe-one k n (Some t) h g z = uses-named-one k n t h g z

made_maybe_le : (t : Option (Tree ℕ)) → made_maybe t ≤ fresh_maybe t
made_maybe_le None = omega arith
made_maybe_le (Some t) = made_le t

module _ (old new : List (Tree ℕ)) (t : Option (Tree ℕ)) (r : Option ℕ) (p : PlantsMaybe old new t r) where
  pub run_is : run_maybe (root_tree new r) ≡ run_maybe t
  run_is = ap run_maybe p.at ∙ run-named_maybe (length old) t

  pub balanced_is : IsBalancedMaybe t → IsBalancedMaybe (root_tree new r)
  balanced_is b = subst IsBalancedMaybe (sym p.at) (balanced-named_maybe (length old) t b)

  pub few_new : length new ≤ length old + fresh_maybe t
  few_new = omega (arith, p.count, made_maybe_le t)

  pub passes : (given : ℕ → ℕ) → ((k : ℕ) → uses_maybe k t ≤ given k) → ((k : ℕ) → length old ≤ k → given k ≡ 0) → Passes (length old) (length new) given (λ k. uses_maybe k (root_tree new r))
  passes given most none = record {
    old_ones = λ k near. omega (arith, ap (uses_maybe k) p.at, uses-named_maybe-old k (length old) t near, most k);
    new_ones = λ k from near. omega (arith, ap (uses_maybe k) p.at, uses-named_maybe-one k (length old) t from (omega (arith, p.count)) (omega (arith, most k, none k from)));
    no_others = λ k from. omega (arith, ap (uses_maybe k) p.at, uses-named_maybe-past k (length old) t (omega (arith, p.count)) (omega (arith, most k, none k (omega (arith, p.count)))));
  }

module _ (old new : List (Tree ℕ)) (t : Option (Tree ℕ) × Option (Tree ℕ)) (r : Option ℕ × Option ℕ) (p : PlantsPair old new t r) where
  pub front_run : run_maybe (root_tree new r.0) ≡ run_maybe t.0
  front_run = ap run_maybe p.front ∙ run-named_maybe (length old) t.0

  pub back_run : run_maybe (root_tree new r.1) ≡ run_maybe t.1
  back_run = ap run_maybe p.back ∙ run-named_maybe (length old + made_maybe t.0) t.1

  pub front_balanced : IsBalancedMaybe t.0 → IsBalancedMaybe (root_tree new r.0)
  front_balanced b = subst IsBalancedMaybe (sym p.front) (balanced-named_maybe (length old) t.0 b)

  pub back_balanced : IsBalancedMaybe t.1 → IsBalancedMaybe (root_tree new r.1)
  back_balanced b = subst IsBalancedMaybe (sym p.back) (balanced-named_maybe (length old + made_maybe t.0) t.1 b)

  pub passes_pair : (given : ℕ → ℕ) → ((k : ℕ) → uses_maybe k t.0 + uses_maybe k t.1 ≤ given k) → ((k : ℕ) → length old ≤ k → given k ≡ 0) → Passes (length old) (length new) given (λ k. uses_maybe k (root_tree new r.0) + uses_maybe k (root_tree new r.1))
  passes_pair given most none =
      let middle : ℕ = length old + made_maybe t.0 in
      record {
        old_ones = λ k near. omega (arith, ap (uses_maybe k) p.front, ap (uses_maybe k) p.back, uses-named_maybe-old k (length old) t.0 near, uses-named_maybe-old k middle t.1 (omega arith), most k);
        new_ones = λ k from near. new_one k from near (omega (arith, most k, none k from)) (omega (arith, most k, none k from));
        no_others = λ k from. omega (arith, p.count, ap (uses_maybe k) p.front, ap (uses_maybe k) p.back, uses-named_maybe-past k (length old) t.0 (omega (arith, p.count)) (omega (arith, p.count, most k, none k (omega (arith, p.count)))), uses-named_maybe-past k middle t.1 (omega (arith, p.count)) (omega (arith, p.count, most k, none k (omega (arith, p.count)))));
      }
    where
      which : (k m : ℕ) → (k < m) ⊎ (m ≤ k)
      which k m = grind arith

      new_one : (k : ℕ) → length old ≤ k → k < length new → uses_maybe k t.0 ≡ 0 → uses_maybe k t.1 ≡ 0 → uses_maybe k (root_tree new r.0) + uses_maybe k (root_tree new r.1) ≡ 1
      new_one k from near a b = elim (which k (length old + made_maybe t.0)) [
        | inl low ↦ omega (arith, ap (uses_maybe k) p.front, ap (uses_maybe k) p.back, uses-named_maybe-one k (length old) t.0 from low a, uses-named_maybe-old k (length old + made_maybe t.0) t.1 low, b)
        | inr high ↦ omega (arith, ap (uses_maybe k) p.front, ap (uses_maybe k) p.back, uses-named_maybe-past k (length old) t.0 high a, uses-named_maybe-one k (length old + made_maybe t.0) t.1 high (omega (arith, p.count)) b)
      ]

pub built_none : (old new : List (Tree ℕ)) (items : List ℕ) (r : Option ℕ) → PlantsMaybe old new (build items) r → IsNone r ↔ (items ≡ [])
unfolding build
built_none old new [] None p = (λ h. refl, λ h. refl)
built_none old new [] (Some k) p = absurd (let e = p.at in cc)
built_none old new (x ∷ xs) None p = absurd (let e = p.at in cc)
built_none old new (x ∷ xs) (Some k) p = (λ h. absurd (let e = h in cc), λ h. absurd (let e = h in cc))

-- the two planted after each other
pub pair_planted : (a b c : List (Tree ℕ)) (front back : Option (Tree ℕ)) (i j : Option ℕ) → PlantsMaybe a b front i → PlantsMaybe b c back j → PlantsPair a c (front, back) (i, j)
pair_planted a b c front back i j x y = record {
  kept = keeps_then a b c x.kept y.kept;
  count = omega (arith, x.count, y.count);
  front_within = root_kept b c i y.kept x.within;
  back_within = y.within;
  front = root_tree-kept b c i y.kept x.within ∙ x.at;
  back = y.at ∙ ap (λ n. named_maybe n back) x.count;
}
  where
    root_kept : (b c : List (Tree ℕ)) (i : Option ℕ) → Keeps b c → IsRoot b i → IsRoot c i
    root_kept b c None k h = tt
    root_kept b c (Some i) k h = omega (arith, k.longer)

    root_tree-kept : (b c : List (Tree ℕ)) (i : Option ℕ) → Keeps b c → IsRoot b i → root_tree c i ≡ root_tree b i
    root_tree-kept b c None k h = refl
    root_tree-kept b c (Some i) k h = ap Some (k.same i h)

pub maybe_kept : (a b : List (Tree ℕ)) (draft : Option Draft) → Keeps a b → IsGoodMaybe a draft → IsGoodMaybe b draft
maybe_kept a b None k h = tt
maybe_kept a b (Some d) k h = good_kept a b d k h

pub maybe_tree-kept : (a b : List (Tree ℕ)) (draft : Option Draft) → Keeps a b → IsGoodMaybe a draft → maybe_tree b draft ≡ maybe_tree a draft
maybe_tree-kept a b None k h = refl
maybe_tree-kept a b (Some d) k h = ap Some (draft_tree-kept a b d k h)
