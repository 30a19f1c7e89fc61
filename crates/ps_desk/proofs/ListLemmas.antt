-- Lists of numbers, beginnings of lists, and look-ups after a change.
use Rattle.std.proofs.Common.{◌≡◌, ◌≢◌, ◌⊎◌, ℕ, zero, suc, ◌+◌, ◌<◌, ◌≤◌, ◌==◌, Bool, true, false, map, cond, List, [], ◌∷◌, ◌++◌, length, append_assoc, append-nil, set, nat_lt, if◌then◌else◌, refl, sym, ap, ◌∙◌, subst, inl, inr, ⊎_elim, arith, eq-eqb, ne_eqb}
use mathlib.Core.Option.{some, some-injective, some-ne-none}
use mathlib.Core.Logic.{dite}
use native.Mathlib.Decide.{ℕ_discrete}
use lib.ListN.{get_elem?}
use Rattle.std.proofs.lemmas.Bool.Decides.{nat_tests}
use Rattle.std.proofs.lemmas.List.{append_cancel_left}
use Rattle.std.proofs.lemmas.List.Elements.{filter-append}
use Rattle.ps_desk.specs.declared.entry.Entry.{Entry}
use Rattle.ps_desk.specs.Views.{Has, take_out, IsBeginning, own_of, longer}

pub set_there : {A : Type 0} (l : List A) (i : ℕ) (a b : A) → get_elem? l i ≡ some a → get_elem? (set l i b) i ≡ some b
set_there [] i a b e = absurd (some-ne-none a (sym e))
set_there (x ∷ xs) zero a b e = refl
set_there (x ∷ xs) (suc i) a b e = set_there xs i a b e

pub map_of_set : {A B : Type 0} (f : A → B) (l : List A) (i : ℕ) (b : A) → map f (set l i b) ≡ set (map f l) i (f b)
map_of_set f [] i b = refl
map_of_set f (x ∷ xs) zero b = refl
map_of_set f (x ∷ xs) (suc i) b = ap (λ ys. f x ∷ ys) (map_of_set f xs i b)

-- What f does not see changes nothing.
pub map_set : {A B : Type 0} (f : A → B) (l : List A) (i : ℕ) (a b : A) → get_elem? l i ≡ some a → f b ≡ f a → map f (set l i b) ≡ map f l
map_set f [] i a b e same = refl
map_set f (x ∷ xs) zero a b e same = ap (λ y. y ∷ map f xs) (same ∙ ap f (sym (some-injective x a e)))
map_set f (x ∷ xs) (suc i) a b e same = ap (λ ys. f x ∷ ys) (map_set f xs i a b e same)

pub map_of_snoc : {A B : Type 0} (f : A → B) (l : List A) (b : A) → map f (l ++ b ∷ []) ≡ map f l ++ f b ∷ []
map_of_snoc f [] b = refl
map_of_snoc f (x ∷ xs) b = ap (λ ys. f x ∷ ys) (map_of_snoc f xs b)

-- In a list with one more at its end: an old one, or the new one at the place behind the old ones.
pub at_end : {A : Type 0} (l : List A) (a b : A) (j : ℕ) → get_elem? (l ++ a ∷ []) j ≡ some b
    → ((j ≢ length l) × (get_elem? l j ≡ some b)) ⊎ ((j ≡ length l) × (a ≡ b))
at_end [] a b zero e = inr (refl, some-injective a b e)
at_end [] a b (suc j) e = absurd (some-ne-none b (sym e))
at_end (x ∷ xs) a b zero e = inl ((λ h. omega arith), e)
at_end (x ∷ xs) a b (suc j) e =
    ⊎_elim (λ t. let n = t.0 in inl ((λ h. n (omega arith)), t.1)) (λ t. inr (ap suc t.0, t.1)) (at_end xs a b j e)

-- Only the number that was taken out is gone.
pub has_less : (xs : List ℕ) (k n : ℕ) → k ≢ n → Has xs k → Has (take_out n xs) k
has_less [] k n other h = h
has_less (x ∷ xs) k n other h =
    let P : Bool → Type 0 = λ b. Has (cond b xs (x ∷ take_out n xs)) k in
    dite (ℕ_discrete x n)
    (λ same. subst P (sym (eq-eqb x n same)) (⊎_elim (λ e. absurd (other (sym e ∙ same))) (λ t. t) h))
    (λ ne. subst P (sym (ne_eqb x n ne)) (⊎_elim (λ e. inl e) (λ t. inr (has_less xs k n other t)) h))

pub length_less : (xs : List ℕ) (n : ℕ) → Has xs n → length (take_out n xs) + 1 ≡ length xs
length_less [] n h = absurd h
length_less (x ∷ xs) n h =
    let P : Bool → Type 0 = λ b. length (cond b xs (x ∷ take_out n xs)) + 1 ≡ length (x ∷ xs) in
    dite (ℕ_discrete x n)
    (λ same. subst P (sym (eq-eqb x n same)) (omega arith))
    (λ ne. subst P (sym (ne_eqb x n ne)) (⊎_elim (λ e. absurd (ne e)) (λ t. let rest = length_less xs n t in omega arith) h))

pub no_length : {A : Type 0} (l : List A) → length l ≡ 0 → l ≡ []
no_length [] e = refl
no_length (x ∷ xs) e = absurd (omega arith)

nothing : {A : Type 0} (l m : List A) → l ++ m ≡ [] → l ≡ []
nothing [] m e = refl
nothing (x ∷ xs) m e = cc

pub begins_self : {A : Type 0} (xs : List A) → IsBeginning xs xs
begins_self xs = ([], sym (append-nil xs))

-- A beginning stays one where one more comes behind.
pub begins_more : {A : Type 0} (xs ys : List A) (y : A) → IsBeginning xs ys → IsBeginning xs (ys ++ y ∷ [])
begins_more xs ys y b = (b.0 ++ y ∷ [], ap (λ l. l ++ y ∷ []) b.1 ∙ append_assoc xs b.0 (y ∷ []))

-- Of two beginnings the shorter begins the longer.
pub begins_longer : {A : Type 0} (xs ys zs : List A) → IsBeginning xs zs → IsBeginning ys zs → length xs ≤ length ys → IsBeginning xs ys
begins_longer [] ys zs bx by le = (ys, refl)
begins_longer (x ∷ xs) [] zs bx by le = absurd (omega arith)
begins_longer {A} (x ∷ xs) (y ∷ ys) zs bx by le =
    let e : x ∷ (xs ++ bx.0) ≡ y ∷ (ys ++ by.0) = sym bx.1 ∙ by.1 in
    let head : x ≡ y = cc in
    let tail : xs ++ bx.0 ≡ ys ++ by.0 = cc in
    let t = begins_longer xs ys (ys ++ by.0) (bx.0, sym tail) (by.0, refl) (omega arith) in
    (t.0, ap (λ (k : A). k ∷ ys) (sym head) ∙ ap (λ (k : List A). x ∷ k) t.1)

-- A fact of both lists is one of the longer.
pub of_longer : {A : Type 0} (P : List A → Type 0) (xs ys : List A) → P xs → (length xs ≤ length ys → P ys) → P (longer xs ys)
of_longer P xs ys px py =
    let F : Bool → Type 0 = λ b. nat_lt (length xs) (length ys) ≡ b → P (if b then ys else xs) in
    (elim (nat_lt (length xs) (length ys)) as F [
      | true ↦ (λ e. py (let l : length xs < length ys = grind (arith, nat_tests) in omega arith))
      | false ↦ (λ e. px)
    ]) refl

-- Each of two beginnings of one list begins the longer.
pub begins_both : {A : Type 0} (xs ys zs : List A) → IsBeginning xs zs → IsBeginning ys zs → IsBeginning xs (longer xs ys) × IsBeginning ys (longer xs ys)
begins_both {A} xs ys zs bx by =
    let F : Bool → Type 0 = λ b. nat_lt (length xs) (length ys) ≡ b → IsBeginning xs (if b then ys else xs) × IsBeginning ys (if b then ys else xs) in
    (elim (nat_lt (length xs) (length ys)) as F [
      | true ↦ (λ e. (begins_longer xs ys zs bx by (let l : length xs < length ys = grind (arith, nat_tests) in omega arith), begins_self ys))
      | false ↦ (λ e. (begins_self xs, begins_longer ys xs zs by bx (let l : length ys ≤ length xs = grind (arith, nat_tests) in l)))
    ]) refl

module _ {C R : Type 0} where
  own_append : (n : ℕ) (xs ys : List (Entry C R)) → own_of n (xs ++ ys) ≡ own_of n xs ++ own_of n ys
  own_append n xs ys = filter-append (λ (e : Entry C R). e.seat == n) xs ys

  pub own_else : (xs : List (Entry C R)) (x : Entry C R) (n : ℕ) → x.seat ≢ n → own_of n (xs ++ x ∷ []) ≡ own_of n xs
  own_else xs x n other =
      own_append n xs (x ∷ []) ∙ (ap (λ b. own_of n xs ++ cond b (x ∷ []) []) (ne_eqb x.seat n other) ∙ append-nil (own_of n xs))

  pub own_here : (xs : List (Entry C R)) (x : Entry C R) (n : ℕ) → x.seat ≡ n → own_of n (xs ++ x ∷ []) ≡ own_of n xs ++ x ∷ []
  own_here xs x n same = own_append n xs (x ∷ []) ∙ ap (λ b. own_of n xs ++ cond b (x ∷ []) []) (eq-eqb x.seat n same)

  -- What is not in a list is not in a beginning of it.
  pub own_begins : (n : ℕ) (xs ys : List (Entry C R)) → IsBeginning xs ys → own_of n ys ≡ [] → own_of n xs ≡ []
  own_begins n xs ys b none = nothing (own_of n xs) (own_of n b.0) (sym (own_append n xs b.0) ∙ (ap (own_of n) (sym b.1) ∙ none))

  -- Between a beginning and the whole with the same entries of a seat, these stay the same.
  pub own_between : (n : ℕ) (xs ys zs : List (Entry C R)) (own : List (Entry C R)) → IsBeginning xs ys → IsBeginning ys zs
      → own ≡ own_of n xs → own ≡ own_of n zs → own ≡ own_of n ys
  own_between n xs ys zs own b c ex ez =
      let A = own_of n b.0 in
      let B = own_of n c.0 in
      let one : own_of n ys ≡ own ++ A = ap (own_of n) b.1 ∙ (own_append n xs b.0 ∙ ap (λ k. k ++ A) (sym ex)) in
      let two : own ≡ own ++ (A ++ B) = ez ∙ (ap (own_of n) c.1 ∙ (own_append n ys c.0 ∙ (ap (λ k. k ++ B) one ∙ append_assoc own A B))) in
      let none : [] ≡ A ++ B = append_cancel_left own [] (A ++ B) (append-nil own ∙ two) in
      sym (one ∙ (ap (λ k. own ++ k) (nothing A B (sym none)) ∙ append-nil own))

  -- A list with an entry of a seat does not lack this seat's entries.
  pub owned : (es : List (Entry C R)) (k : ℕ) (x : Entry C R) → get_elem? es k ≡ some x → own_of x.seat es ≡ [] → ⊥
  owned [] k x at none = some-ne-none x (sym at)
  owned (y ∷ es) zero x at none =
      let P : Entry C R → Type 0 = λ z. cond (z.seat == x.seat) (z ∷ own_of x.seat es) (own_of x.seat es) ≡ [] in
      let e : cond (x.seat == x.seat) (x ∷ own_of x.seat es) (own_of x.seat es) ≡ [] = subst P (some-injective y x at) none in
      let f : x ∷ own_of x.seat es ≡ [] = subst (λ b. cond b (x ∷ own_of x.seat es) (own_of x.seat es) ≡ []) (eq-eqb x.seat x.seat refl) e in
      cc
  owned (y ∷ es) (suc k) x at none =
      let F : Bool → Type 0 = λ b. cond b (y ∷ own_of x.seat es) (own_of x.seat es) ≡ [] → ⊥ in
      (elim (y.seat == x.seat) as F [ true ↦ (λ e. cc) | false ↦ (λ e. owned es k x at e) ]) none
