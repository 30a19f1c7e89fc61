-- The runs of the parts that a cut and a build give.
use Rattle.std.proofs.Common.{◌≡◌, ℕ, zero, suc, ◌+◌, ◌-◌, ◌*◌, ◌/◌, ◌<◌, ◌≤◌, ◌⊎◌, inl, inr, max, cond, List, [], ◌∷◌, ◌++◌, length, take, drop, refl, sym, ap, ◌∙◌, subst, arith, length-append, append_assoc, append-nil, length-take, length-drop, take-append-drop}
use Rattle.std.specs.Prelude.{Some, None, Option}
use Rattle.std.proofs.lemmas.List.{take_rest}
use Rattle.std.proofs.lemmas.Bool.Decides.{nat_tests}
use Rattle.seg_tree.specs.Trees.{Tree, leaf, branch, run, fork, concat, run_maybe, split, split_maybe, front_size, built, build, splice}
use Rattle.seg_tree.proofs.Cases.{split_start, split_end, split_leaf, split_left, split_between, split_right, run-concat, length-concat, leaf_inside, branch_left, branch_right, branch_between, branch_end}

pub which_end : (at e : ℕ) → at ≤ e → (at ≡ 0) ⊎ (((0 < at) × (at ≡ e)) ⊎ ((0 < at) × (at < e)))
which_end at e h = grind arith

pub which_side : (at e : ℕ) → (at < e) ⊎ ((at ≡ e) ⊎ (e < at))
which_side at e = grind arith

pub front_size-below : (n : ℕ) → 8 < n → front_size n < n
front_size-below n h = omega arith

pub front_size-above : (n : ℕ) → 8 < n → 0 < front_size n
front_size-above n h = omega arith

module _ {A : Type 0} where
  pub short_or : (xs : List A) → (length xs ≤ 8) ⊎ (8 < length xs)
  short_or xs = grind arith

  pub short_built : (f : ℕ) (xs : List A) → length xs ≤ 8 → built (suc f) xs ≡ leaf None xs
  short_built f xs h = grind (arith, nat_tests)

  pub long_built : (f : ℕ) (xs : List A) → 8 < length xs → built (suc f) xs ≡ fork (built f (take (front_size (length xs)) xs)) (built f (drop (front_size (length xs)) xs))
  long_built f xs h = grind (arith, nat_tests)

  -- how long the parts are
  pub record Cut (p : Option (Tree A) × Option (Tree A)) (t : Tree A) (at : ℕ) : Type 0 where
    pub front : length (run_maybe p.0) ≡ at
    pub back : length (run_maybe p.1) + at ≡ length (run t)

  pub cut_lengths : (t : Tree A) (at : ℕ) → at ≤ length (run t) → Cut (split t at) t at
  cut_lengths (leaf n xs) at h = elim (which_end at (length xs) h) [
    | inl z ↦ rw (z, split_start (leaf n xs)) (record { front = refl; back = omega arith })
    | inr rest ↦ elim rest [
      | inl e ↦ rw (split_end (leaf n xs) at e.0 e.1) (record { front = sym e.1; back = omega (arith, e.1) })
      | inr m ↦ rw (leaf_inside n xs at m.0 m.1) (record { front = omega (arith, length-take at xs, m.1); back = omega (arith, length-drop at xs, m.1) })
    ]
  ]
  cut_lengths (branch n l r) at h =
      let total : length (run l ++ run r) ≡ length (run l) + length (run r) = length-append (run l) (run r) in
      elim (which_end at (length (run l ++ run r)) h) [
        | inl z ↦ rw (z, split_start (branch n l r)) (record { front = refl; back = omega arith })
        | inr rest ↦ elim rest [
          | inl e ↦ rw (split_end (branch n l r) at e.0 e.1) (record { front = sym e.1; back = omega (arith, e.1) })
          | inr m ↦ elim (which_side at (length (run l))) [
            | inl low ↦
                let part : Cut (split l at) l at = cut_lengths l at (omega arith) in
                rw (branch_left n l r at m.0 low) (record { front = part.front; back = omega (arith, part.back, length-concat (split l at).1 (Some r), total) })
            | inr others ↦ elim others [
              | inl e ↦ rw (branch_between n l r at m.0 e (omega (arith, m.1))) (record { front = sym e; back = omega arith })
              | inr high ↦
                  let part : Cut (split r (at - length (run l))) r (at - length (run l)) = cut_lengths r (at - length (run l)) (omega (arith, m.1)) in
                  rw (branch_right n l r at high (omega (arith, m.1))) (record { front = omega (arith, part.front, length-concat (Some l) (split r (at - length (run l))).0, total); back = omega (arith, part.back, total) })
            ]
          ]
        ]
      ]

  pub front_length : (t : Tree A) (at : ℕ) → at ≤ length (run t) → length (run_maybe (split t at).0) ≡ at
  front_length t at h = (cut_lengths t at h).front

  pub back_length : (t : Tree A) (at : ℕ) → at ≤ length (run t) → length (run_maybe (split t at).1) + at ≡ length (run t)
  back_length t at h = (cut_lengths t at h).back

  built_any : (f g : ℕ) (xs : List A) → length xs ≤ f → length xs ≤ g → built f xs ≡ built g xs
  built_any zero zero xs h k = refl
  built_any zero (suc g) xs h k = sym (short_built g xs (omega arith))
  built_any (suc f) zero xs h k = short_built f xs (omega arith)
  built_any (suc f) (suc g) xs h k = elim (short_or xs) [
    | inl s ↦ short_built f xs s ∙ sym (short_built g xs s)
    | inr l ↦
        let below : front_size (length xs) < length xs = front_size-below (length xs) l in
        let above : 0 < front_size (length xs) = front_size-above (length xs) l in
        long_built f xs l ∙ cc (
          built_any f g (take (front_size (length xs)) xs) (omega (arith, length-take (front_size (length xs)) xs)) (omega (arith, length-take (front_size (length xs)) xs)),
          built_any f g (drop (front_size (length xs)) xs) (omega (arith, length-drop (front_size (length xs)) xs)) (omega (arith, length-drop (front_size (length xs)) xs)),
          long_built g xs l,
        )
  ]

  pub built_short : (xs : List A) → length xs ≤ 8 → built (length xs) xs ≡ leaf None xs
  built_short [] h = refl
  built_short (x ∷ xs) h = short_built (length xs) (x ∷ xs) h

  pub built_long : (xs : List A) → 8 < length xs → built (length xs) xs ≡ fork (built (length (take (front_size (length xs)) xs)) (take (front_size (length xs)) xs)) (built (length (drop (front_size (length xs)) xs)) (drop (front_size (length xs)) xs))
  built_long [] h = absurd (omega arith)
  built_long (x ∷ xs) h =
      let below : front_size (length (x ∷ xs)) < length (x ∷ xs) = front_size-below (length (x ∷ xs)) h in
      let above : 0 < front_size (length (x ∷ xs)) = front_size-above (length (x ∷ xs)) h in
      let all : List A = x ∷ xs in
      long_built (length xs) all h ∙ cc (
        built_any (length xs) (length (take (front_size (length all)) all)) (take (front_size (length all)) all) (omega (arith, length-take (front_size (length all)) all)) (omega arith),
        built_any (length xs) (length (drop (front_size (length all)) all)) (drop (front_size (length all)) all) (omega (arith, length-drop (front_size (length all)) all)) (omega arith),
      )

  pub run-built : (f : ℕ) (xs : List A) → run (built f xs) ≡ xs
  run-built zero xs = refl
  run-built (suc f) xs = elim (short_or xs) [
    | inl s ↦ ap run (short_built f xs s)
    | inr l ↦ ap run (long_built f xs l) ∙ (cc (run-built f (take (front_size (length xs)) xs), run-built f (drop (front_size (length xs)) xs), take-append-drop (front_size (length xs)) xs))
  ]

  pub front_length_maybe : (t : Option (Tree A)) (at : ℕ) → at ≤ length (run_maybe t) → length (run_maybe (split_maybe t at).0) ≡ at
  front_length_maybe None at h = omega arith
  front_length_maybe (Some t) at h = front_length t at h

  pub back_length_maybe : (t : Option (Tree A)) (at : ℕ) → at ≤ length (run_maybe t) → length (run_maybe (split_maybe t at).1) + at ≡ length (run_maybe t)
  back_length_maybe None at h = omega arith
  back_length_maybe (Some t) at h = back_length t at h

  pub build_none : (xs : List A) → length xs ≡ 0 → build xs ≡ None
  unfolding build
  build_none [] h = refl
  build_none (x ∷ xs) h = absurd (omega arith)

  pub build_some : (xs : List A) → 0 < length xs → build xs ≡ Some (built (length xs) xs)
  unfolding build
  build_some [] h = absurd (omega arith)
  build_some (x ∷ xs) h = refl

  pub run-build : (xs : List A) → run_maybe (build xs) ≡ xs
  unfolding build
  run-build [] = refl
  run-build (x ∷ xs) = run-built (length (x ∷ xs)) (x ∷ xs)

  pub length-build : (xs : List A) → length (run_maybe (build xs)) ≡ length xs
  length-build xs = ap length (run-build xs)

  pub splice_is : (t : Option (Tree A)) (from to : ℕ) (items : List A) → splice t from to items ≡ concat (concat (split_maybe t from).0 (build items)) (split_maybe (split_maybe t from).1 (to - from)).1
  unfolding splice
  splice_is t from to items = refl

pub ruleset splicing = (front_length_maybe, back_length_maybe, length-build, length-concat, splice_is)

pub ruleset build_cases = (build_none, build_some)

pub ruleset building = (built_short, built_long, run-built, length-take, length-drop, take_rest)

pub ruleset cutting = (front_length, back_length)
