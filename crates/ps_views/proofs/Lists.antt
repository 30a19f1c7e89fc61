-- What is true of each element of a list.
use Rattle.std.proofs.Common.{◌≡◌, ℕ, zero, suc, ◌<◌, List, [], ◌∷◌, ◌++◌, length, refl, sym, ap, ap₂, ◌∙◌, subst, arith, Bool, true, false, cond, ◌||◌}
use Rattle.std.specs.Prelude.{Option, Some, None, map, slice_get, Contains, slice_index_or}
use Rattle.std.specs.List.{AllByRecursion, list_any, find}

module _ {A : Type 0} (P : A → Type 0) where
  pub all_from : (xs : List A) → ((j : ℕ) (x : A) → slice_get xs j ≡ Some x → P x) → AllByRecursion P xs
  all_from [] h = tt
  all_from (x ∷ xs) h = (h zero x refl, all_from xs (λ j y e. h (suc j) y e))

  pub all_at : (xs : List A) (j : ℕ) (x : A) → AllByRecursion P xs → slice_get xs j ≡ Some x → P x
  all_at [] j x h e = cc
  all_at (y ∷ xs) zero x h e = let same : y ≡ x = cc in subst P same h.0
  all_at (y ∷ xs) (suc j) x h e = all_at xs j x h.1 e

  pub all_append : (xs ys : List A) → AllByRecursion P xs → AllByRecursion P ys → AllByRecursion P (xs ++ ys)
  all_append [] ys h k = k
  all_append (x ∷ xs) ys h k = (h.0, all_append xs ys h.1 k)

  pub all_left : (xs ys : List A) → AllByRecursion P (xs ++ ys) → AllByRecursion P xs
  all_left [] ys h = tt
  all_left (x ∷ xs) ys h = (h.0, all_left xs ys h.1)

  pub all_right : (xs ys : List A) → AllByRecursion P (xs ++ ys) → AllByRecursion P ys
  all_right [] ys h = h
  all_right (x ∷ xs) ys h = all_right xs ys h.1

  pub all_weaker : (Q : A → Type 0) → ((x : A) → P x → Q x) → (xs : List A) → AllByRecursion P xs → AllByRecursion Q xs
  all_weaker Q f [] h = tt
  all_weaker Q f (x ∷ xs) h = (f x h.0, all_weaker Q f xs h.1)

module _ {A : Type 0} where
  pub get_contained : (xs : List A) (j : ℕ) (x : A) → slice_get xs j ≡ Some x → Contains xs x
  get_contained [] j x e = cc
  get_contained (y ∷ xs) zero x e = (zero, omega arith, cc)
  get_contained (y ∷ xs) (suc j) x e = let c = get_contained xs j x e in (suc c.0, omega (arith, c.1), c.2)

  pub any_here : (p : A → Bool) (xs : List A) (j : ℕ) (x : A) → slice_get xs j ≡ Some x → p x ≡ true → list_any p xs ≡ true
  any_here p [] j x e h = cc
  any_here p (y ∷ xs) zero x e h = let same : y ≡ x = cc in ap (λ b. b || list_any p xs) (ap p same ∙ h)
  any_here p (y ∷ xs) (suc j) x e h = last (p y) (any_here p xs j x e h)
    where
      last : (b : Bool) → list_any p xs ≡ true → (b || list_any p xs) ≡ true
      last true q = refl
      last false q = q

  -- an element that passes a test, and its place
  pub record Passing (p : A → Bool) (xs : List A) : Type 0 where
    pub at : ℕ
    pub item : A
    pub there : slice_get xs at ≡ Some item
    pub passes : p item ≡ true

  pub any_passing : (p : A → Bool) (xs : List A) → list_any p xs ≡ true → Passing p xs
  any_passing p [] e = absurd (no e)
    where
      no : false ≡ true → ⊥
      no q = cc
  any_passing p (x ∷ xs) e = by (p x) refl e (any_passing p xs)
    where
      by : (b : Bool) → p x ≡ b → (b || list_any p xs) ≡ true → (list_any p xs ≡ true → Passing p xs) → Passing p (x ∷ xs)
      by true q e rest = record { at = zero; item = x; there = refl; passes = q }
      by false q e rest = let r = rest e in record { at = suc r.at; item = r.item; there = r.there; passes = r.passes }

  pub map_append : {B : Type 0} (f : A → B) (xs ys : List A) → map f (xs ++ ys) ≡ map f xs ++ map f ys
  map_append f [] ys = refl
  map_append f (x ∷ xs) ys = ap (λ zs. f x ∷ zs) (map_append f xs ys)
