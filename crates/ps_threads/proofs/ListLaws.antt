-- Lists side by side, and lists with one more at the end.
use Rattle.std.proofs.Common.{◌≡◌, ◌≢◌, ℕ, zero, suc, ◌+◌, ◌<◌, ◌≤◌, List, [], ◌∷◌, ◌++◌, length, set, get_or, refl, sym, ap, ◌∙◌, subst, ⊎_elim, arith}
use mathlib.Core.Option.{some, some-ne-none}
use lib.ListN.{get_elem?}
use Rattle.atomic_table.proofs.Lists.{at_longer, at_last}
use Rattle.ps_desk.proofs.ListLemmas.{at_end}

-- a place that is there
pub within : {A : Type 0} (l : List A) (k : ℕ) (a : A) → get_elem? l k ≡ some a → k < length l
within [] k a e = absurd (some-ne-none a (sym e))
within (x ∷ xs) zero a e = omega arith
within (x ∷ xs) (suc k) a e = let t = within xs k a e in omega arith

pub there : {A : Type 0} (l : List A) (k : ℕ) → k < length l → (a : A) × (get_elem? l k ≡ some a)
there [] k low = absurd (omega arith)
there (x ∷ xs) zero low = (x, refl)
there (x ∷ xs) (suc k) low = there xs k (omega arith)

module _ {A : Type 0} (xs xs' : List A) (x : A) (is : xs' ≡ xs ++ x ∷ []) where
  -- those before the last, and the last
  pub front_at : (k : ℕ) (a : A) → get_elem? xs k ≡ some a → get_elem? xs' k ≡ some a
  front_at k a e = ap (λ l. get_elem? l k) is ∙ at_longer xs (x ∷ []) k a e

  pub last_at : get_elem? xs' (length xs) ≡ some x
  last_at = ap (λ l. get_elem? l (length xs)) is ∙ at_last xs x (length xs) refl

  -- what holds of each, and of the last, holds of all
  pub all_more : (P : ℕ → A → Type 0) → ((k : ℕ) (a : A) → get_elem? xs k ≡ some a → P k a) → P (length xs) x
      → (k : ℕ) (a : A) → get_elem? xs' k ≡ some a → P k a
  all_more P all here k a e =
      ⊎_elim
      (λ t. all k a t.1)
      (λ t. subst (λ m. P m a) (sym t.0) (subst (λ z. P (length xs) z) t.1 here))
      (at_end xs x a k (ap (λ l. get_elem? l k) (sym is) ∙ e))

-- the same of pairs at one place of two lists
pub side_more : {A B : Type 0} (P : A → B → Type 0) (xs xs' : List A) (ys ys' : List B) (x : A) (y : B) → xs' ≡ xs ++ x ∷ [] → ys' ≡ ys ++ y ∷ []
    → length ys ≡ length xs → ((k : ℕ) (a : A) (b : B) → get_elem? xs k ≡ some a → get_elem? ys k ≡ some b → P a b) → P x y
    → (k : ℕ) (a : A) (b : B) → get_elem? xs' k ≡ some a → get_elem? ys' k ≡ some b → P a b
side_more P xs xs' ys ys' x y isx isy len all here k a b ea eb =
    let ea' = ap (λ l. get_elem? l k) (sym isx) ∙ ea in
    let eb' = ap (λ l. get_elem? l k) (sym isy) ∙ eb in
    ⊎_elim
    (λ t. ⊎_elim
    (λ u. all k a b t.1 u.1)
    (λ u. absurd (let low = within xs k a t.1 in let e = u.0 in omega arith))
    (at_end ys y b k eb'))
    (λ t. ⊎_elim
    (λ u. absurd (let e = t.0 in u.0 (omega arith)))
    (λ u. subst (λ z. P z b) t.1 (subst (λ z. P x z) u.1 here))
    (at_end ys y b k eb'))
    (at_end xs x a k ea')

-- the one behind others
pub at_middle : {A : Type 0} (xs ys : List A) (x : A) → get_elem? (xs ++ x ∷ ys) (length xs) ≡ some x
at_middle [] ys x = refl
at_middle (z ∷ xs) ys x = at_middle xs ys x

-- a place other than the one that was changed
pub set_else : {A : Type 0} (l : List A) (i k : ℕ) (b : A) → k ≢ i → get_elem? (set l i b) k ≡ get_elem? l k
set_else [] i k b ne = refl
set_else (x ∷ xs) zero zero b ne = absurd (ne refl)
set_else (x ∷ xs) zero (suc k) b ne = refl
set_else (x ∷ xs) (suc i) zero b ne = refl
set_else (x ∷ xs) (suc i) (suc k) b ne = set_else xs i k b (λ e. ne (ap suc e))

-- what an index reads
pub at_index : {A : Type 0} (l : List A) (i : ℕ) (d : A) → i < length l → get_elem? l i ≡ some (get_or l i d)
at_index [] i d low = absurd (omega arith)
at_index (x ∷ xs) zero d low = refl
at_index (x ∷ xs) (suc i) d low = at_index xs i d (omega (arith, low))

-- the same of pairs of which the second stands n places further on
pub offset_more : {A B : Type 0} (P : A → B → Type 0) (n : ℕ) (xs xs' : List A) (ys ys' : List B) (x : A) (y : B) → xs' ≡ xs ++ x ∷ [] → ys' ≡ ys ++ y ∷ []
    → length ys ≡ n + length xs → ((k : ℕ) (a : A) (b : B) → get_elem? xs k ≡ some a → get_elem? ys (n + k) ≡ some b → P a b) → P x y
    → (k : ℕ) (a : A) (b : B) → get_elem? xs' k ≡ some a → get_elem? ys' (n + k) ≡ some b → P a b
offset_more P n xs xs' ys ys' x y isx isy len all here k a b ea eb =
    let ea' = ap (λ l. get_elem? l k) (sym isx) ∙ ea in
    let eb' = ap (λ l. get_elem? l (n + k)) (sym isy) ∙ eb in
    ⊎_elim
    (λ t. ⊎_elim
    (λ u. all k a b t.1 u.1)
    (λ u. absurd (let low = within xs k a t.1 in let e = u.0 in omega arith))
    (at_end ys y b (n + k) eb'))
    (λ t. ⊎_elim
    (λ u. absurd (let e = t.0 in u.0 (omega arith)))
    (λ u. subst (λ z. P z b) t.1 (subst (λ z. P x z) u.1 here))
    (at_end ys y b (n + k) eb'))
    (at_end xs x a k ea')

-- pairs that stay where the second list grows
pub side_kept : {A B : Type 0} (P : A → B → Type 0) (xs : List A) (ys ys' : List B) (y : B) → ys' ≡ ys ++ y ∷ [] → length xs ≤ length ys
    → ((k : ℕ) (a : A) (b : B) → get_elem? xs k ≡ some a → get_elem? ys k ≡ some b → P a b)
    → (k : ℕ) (a : A) (b : B) → get_elem? xs k ≡ some a → get_elem? ys' k ≡ some b → P a b
side_kept P xs ys ys' y isy len all k a b ea eb =
    ⊎_elim
    (λ u. all k a b ea u.1)
    (λ u. absurd (let low = within xs k a ea in let e = u.0 in omega arith))
    (at_end ys y b k (ap (λ l. get_elem? l k) (sym isy) ∙ eb))
