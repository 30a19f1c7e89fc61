-- A built tree is balanced, and how many nodes it has.
use Rattle.std.proofs.Common.{◌≡◌, ℕ, zero, suc, ◌+◌, ◌-◌, ◌*◌, ◌/◌, ◌<◌, ◌≤◌, inl, inr, max, List, [], ◌∷◌, length, take, drop, sym, ap, ◌∙◌, subst, arith, length-take, length-drop}
use Rattle.seg_tree.specs.Trees.{height, front_size, built, build}
use Rattle.seg_tree.specs.Measures.{fresh, fresh_maybe, IsBalanced, IsBalancedMaybe}
use Rattle.seg_tree.proofs.Runs.{short_or, short_built, long_built, front_size-below, front_size-above}

-- the number of leaves
leaves : ℕ → ℕ
leaves n = (n + 7) / 8

half_leaves : (n : ℕ) → 8 < n → (front_size n + 7) / 8 ≡ ((n + 7) / 8 + 1) / 2
half_leaves n h = omega arith

rest_leaves : (n : ℕ) → 8 < n → (n - front_size n + 7) / 8 ≡ (n + 7) / 8 - ((n + 7) / 8 + 1) / 2
rest_leaves n h = omega arith

module _ {A : Type 0} where
  abbrev front : List A → List A
  front xs = take (front_size (length xs)) xs

  abbrev back : List A → List A
  back xs = drop (front_size (length xs)) xs

  front_length : (xs : List A) → 8 < length xs → length (front xs) ≡ front_size (length xs)
  front_length xs h = omega (arith, length-take (front_size (length xs)) xs, front_size-below (length xs) h)

  back_length : (xs : List A) → length (back xs) ≡ length xs - front_size (length xs)
  back_length xs = length-drop (front_size (length xs)) xs

  -- the leaves of the two sides
  front_leaves : (xs : List A) → 8 < length xs → (length (front xs) + 7) / 8 ≡ ((length xs + 7) / 8 + 1) / 2
  front_leaves xs h = ap (λ n. (n + 7) / 8) (front_length xs h) ∙ half_leaves (length xs) h

  back_leaves : (xs : List A) → 8 < length xs → (length (back xs) + 7) / 8 ≡ (length xs + 7) / 8 - ((length xs + 7) / 8 + 1) / 2
  back_leaves xs h = ap (λ n. (n + 7) / 8) (back_length xs) ∙ rest_leaves (length xs) h

  -- no higher with no more leaves
  mono : (f g : ℕ) (xs ys : List A) → length xs ≤ f → length ys ≤ g → (length xs + 7) / 8 ≤ (length ys + 7) / 8 → height (built f xs) ≤ height (built g ys)
  mono zero g xs ys h k l = omega arith
  mono (suc f) zero xs ys h k l = let e : height (built (suc f) xs) ≡ 0 = ap height (short_built f xs (omega arith)) in omega (arith, e)
  mono (suc f) (suc g) xs ys h k l = elim (short_or xs) [
    | inl s ↦ let e : height (built (suc f) xs) ≡ 0 = ap height (short_built f xs s) in omega (arith, e)
    | inr x ↦
        let y : 8 < length ys = omega (arith, l) in
        let e : height (built (suc f) xs) ≡ max (height (built f (front xs))) (height (built f (back xs))) + 1 = ap height (long_built f xs x) in
        let d : height (built (suc g) ys) ≡ max (height (built g (front ys))) (height (built g (back ys))) + 1 = ap height (long_built g ys y) in
        let p : height (built f (front xs)) ≤ height (built g (front ys)) = mono f g (front xs) (front ys) (omega (arith, front_length xs x, front_size-below (length xs) x)) (omega (arith, front_length ys y, front_size-below (length ys) y)) (omega (arith, front_leaves xs x, front_leaves ys y, l)) in
        let q : height (built f (back xs)) ≤ height (built g (back ys)) = mono f g (back xs) (back ys) (omega (arith, back_length xs, front_size-above (length xs) x)) (omega (arith, back_length ys, front_size-above (length ys) y)) (omega (arith, back_leaves xs x, back_leaves ys y, l)) in
        omega (arith, e, d, p, q)
  ]

  -- one more level for about twice the leaves
  twice : (f g : ℕ) (xs ys : List A) → length xs ≤ f → length ys ≤ g → ((length xs + 7) / 8 + 1) / 2 ≤ (length ys + 7) / 8 → height (built f xs) ≤ height (built g ys) + 1
  twice zero g xs ys h k l = omega arith
  twice (suc f) g xs ys h k l = elim (short_or xs) [
    | inl s ↦ let e : height (built (suc f) xs) ≡ 0 = ap height (short_built f xs s) in omega (arith, e)
    | inr x ↦
        let e : height (built (suc f) xs) ≡ max (height (built f (front xs))) (height (built f (back xs))) + 1 = ap height (long_built f xs x) in
        let p : height (built f (front xs)) ≤ height (built g ys) = mono f g (front xs) ys (omega (arith, front_length xs x, front_size-below (length xs) x)) k (omega (arith, front_leaves xs x, l)) in
        let q : height (built f (back xs)) ≤ height (built g ys) = mono f g (back xs) ys (omega (arith, back_length xs, front_size-above (length xs) x)) k (omega (arith, back_leaves xs x, l)) in
        omega (arith, e, p, q)
  ]

  balanced-built : (f : ℕ) (xs : List A) → length xs ≤ f → IsBalanced (built f xs)
  balanced-built zero xs h = tt
  balanced-built (suc f) xs h = elim (short_or xs) [
    | inl s ↦ subst IsBalanced (sym (short_built f xs s)) tt
    | inr x ↦
        let fl : length (front xs) ≤ f = omega (arith, front_length xs x, front_size-below (length xs) x) in
        let bl : length (back xs) ≤ f = omega (arith, back_length xs, front_size-above (length xs) x) in
        subst IsBalanced (sym (long_built f xs x)) (
          balanced-built f (front xs) fl,
          balanced-built f (back xs) bl,
          twice f f (front xs) (back xs) fl bl (omega (arith, front_leaves xs x, back_leaves xs x)),
          (let q : height (built f (back xs)) ≤ height (built f (front xs)) = mono f f (back xs) (front xs) bl fl (omega (arith, front_leaves xs x, back_leaves xs x)) in omega (arith, q)),
        )
  ]

  pub balanced-build : (xs : List A) → IsBalancedMaybe (build xs)
  unfolding build
  balanced-build [] = tt
  balanced-build (x ∷ xs) = balanced-built (length (x ∷ xs)) (x ∷ xs) (omega arith)

  fresh-built : (f : ℕ) (xs : List A) → 0 < length xs → length xs ≤ f → fresh (built f xs) < 2 * length xs
  fresh-built zero xs s h = omega arith
  fresh-built (suc f) xs s h = elim (short_or xs) [
    | inl q ↦ let e : fresh (built (suc f) xs) ≡ 1 = ap fresh (short_built f xs q) in omega (arith, e)
    | inr x ↦
        let e : fresh (built (suc f) xs) ≡ fresh (built f (front xs)) + fresh (built f (back xs)) + 1 = ap fresh (long_built f xs x) in
        omega (
          arith,
          e,
          front_length xs x,
          back_length xs,
          front_size-below (length xs) x,
          front_size-above (length xs) x,
          fresh-built f (front xs) (omega (arith, front_length xs x, front_size-above (length xs) x)) (omega (arith, front_length xs x, front_size-below (length xs) x)),
          fresh-built f (back xs) (omega (arith, back_length xs, front_size-below (length xs) x)) (omega (arith, back_length xs, front_size-above (length xs) x)),
        )
  ]

  pub fresh-build : (xs : List A) → fresh_maybe (build xs) ≤ 2 * length xs
  unfolding build
  fresh-build [] = omega arith
  fresh-build (x ∷ xs) = omega (arith, fresh-built (length (x ∷ xs)) (x ∷ xs) (omega arith) (omega arith))
