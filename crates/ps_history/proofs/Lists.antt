-- Facts about lists: last elements, elements that are found, lists that extend others, and counts.
use Rattle.std.proofs.Common.{◌≡◌, ◌<◌, ◌≤◌, ◌+◌, ℕ, zero, suc, Bool, true, false, cond, List, [], ◌∷◌, ◌++◌, length, refl, sym, ap₂, arith, eqb}
use Rattle.std.specs.Prelude.{Option, Some, None, slice_get, slice_index_or, slice_set, count_by}
use Rattle.std.proofs.lemmas.Bool.{eq-eqb}
use Rattle.std.proofs.lemmas.List.Sums.{sum_by-cons}
use Rattle.std.proofs.lemmas.List.{get_or-set_same, get_or-set_other}

module _ {A : Type 0} where
  -- ---- last elements
  pub last_there : (xs : List A) (x : A) → xs ++ x ∷ [] ≡ [] → ⊥
  last_there [] x e = cc
  last_there (y ∷ ys) x e = cc

  pub one_is_first : (a b : A) (bs : List A) → a ∷ [] ≡ b ∷ bs → (bs ≡ []) × (a ≡ b)
  one_is_first a b bs e = (cc, cc)

  pub lasts : (xs ys : List A) (x y : A) → xs ++ x ∷ [] ≡ ys ++ y ∷ [] → (xs ≡ ys) × (x ≡ y)
  lasts [] [] x y e = (refl, cc)
  lasts [] (b ∷ ys) x y e = absurd (last_there ys y (one_is_first x b (ys ++ y ∷ []) e).0)
  lasts (a ∷ xs) [] x y e = absurd (last_there xs x (one_is_first y a (xs ++ x ∷ []) (sym e)).0)
  lasts (a ∷ xs) (b ∷ ys) x y e =
      let tails : xs ++ x ∷ [] ≡ ys ++ y ∷ [] = cc in
      let heads : a ≡ b = cc in
      let p = lasts xs ys x y tails in
      (ap₂ (λ c cs. c ∷ cs) heads p.0, p.1)

  pub nothing_more : (xs ys : List A) → xs ++ ys ≡ xs → ys ≡ []
  nothing_more [] ys e = e
  nothing_more (x ∷ xs) ys e = let tails : xs ++ ys ≡ xs = cc in nothing_more xs ys tails

  -- ---- what is found by number
  pub get_front : (xs ys : List A) (k : ℕ) (x : A) → slice_get xs k ≡ Some x → slice_get (xs ++ ys) k ≡ Some x
  get_front [] ys k x e = absurd (cc)
  get_front (z ∷ xs) ys zero x e = e
  get_front (z ∷ xs) ys (suc k) x e = get_front xs ys k x e

  pub get_last : (xs : List A) (x : A) → slice_get (xs ++ x ∷ []) (length xs) ≡ Some x
  get_last [] x = refl
  get_last (y ∷ xs) x = get_last xs x

  pub got_below : (xs : List A) (k : ℕ) (x : A) → slice_get xs k ≡ Some x → k < length xs
  got_below [] k x e = absurd (cc)
  got_below (z ∷ xs) zero x e = omega arith
  got_below (z ∷ xs) (suc k) x e = let h : k < length xs = got_below xs k x e in omega arith

  pub some_same : (a b : A) → Some a ≡ Some b → a ≡ b
  some_same a b e = cc

  -- ---- what is written at one place
  pub written : (xs : List (Option A)) (i : ℕ) (a : Option A) → i < length xs → slice_index_or (slice_set xs i a) i None ≡ a
  written xs i a h = get_or-set_same xs i a None h

  pub unwritten : (xs : List (Option A)) (i j : ℕ) (a : Option A) → eqb i j ≡ false → slice_index_or (slice_set xs i a) j None ≡ slice_index_or xs j None
  unwritten xs i j a e = get_or-set_other xs i j a None (λ s. not_same i j e s)
    where
      not_same : (i j : ℕ) → eqb i j ≡ false → j ≡ i → ⊥
      not_same i j e s = let t : eqb i j ≡ true = eq-eqb i j (sym s) in cc

  -- ---- counts
  pub count_step : (p : A → Bool) (x : A) (xs : List A) → count_by p (x ∷ xs) ≡ cond (p x) 1 0 + count_by p xs
  count_step p x xs = sum_by-cons (λ y. cond (p y) 1 0) x xs

  pub count_less : (p q : A → Bool) (xs : List A) → ((x : A) → q x ≡ true → p x ≡ true) → count_by q xs ≤ count_by p xs
  count_less p q [] h = omega arith
  count_less p q (x ∷ xs) h =
      let a : count_by p (x ∷ xs) ≡ cond (p x) 1 0 + count_by p xs = count_step p x xs in
      let b : count_by q (x ∷ xs) ≡ cond (q x) 1 0 + count_by q xs = count_step q x xs in
      let k : cond (q x) 1 0 + count_by q xs ≤ cond (p x) 1 0 + count_by p xs = by (p x) (q x) (h x) (count_less p q xs h) in
      omega (arith, a, b, k)
    where
      by : (a b : Bool) → (b ≡ true → a ≡ true) → count_by q xs ≤ count_by p xs → cond b 1 0 + count_by q xs ≤ cond a 1 0 + count_by p xs
      by true true h l = omega arith
      by true false h l = omega arith
      by false true h l = let e : false ≡ true = h refl in absurd (cc)
      by false false h l = omega arith
