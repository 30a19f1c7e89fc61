-- A list whose elements are replaced one after another.
use Rattle.std.proofs.Common.{◌≡◌, false, ℕ, zero, suc, ◌+◌, refl, ap, ap₂, sym, ◌∙◌, arith, ◌<◌, ◌≤◌, add-one, List, [], ◌∷◌, ◌++◌, length, map, take, drop, set, get_or, append-nil, drop_of_length-le}
use Rattle.std.proofs.lemmas.List.{take_all}
use Rattle.ps_mono.specs.Sets.{stands}
use Rattle.ps_bool.specs.Polys.{occurs}
use Rattle.ps_sum.specs.Outs.{outs_occur}
use Rattle.ps_sum.proofs.Lifts.{mono_free}
use Rattle.ps_sum.proofs.Closings.{outs_get}

-- the first i of old are replaced
abbrev pub so_far : {A : Type 0} → (A → A) → List A → ℕ → List A
so_far f old i = map f (take i old) ++ drop i old

set_at : {A : Type 0} (f : A → A) (old : List A) (i : ℕ) (y d : A) → i < length old → y ≡ f (get_or old i d) → set (so_far f old i) i y ≡ so_far f old (suc i)
set_at f [] i y d h e = absurd (omega arith)
set_at f (x ∷ old) zero y d h e = ap (λ z. z ∷ old) e
set_at f (x ∷ old) (suc i) y d h e = ap (λ r. f x ∷ r) (set_at f old i y d (omega arith) e)

pub get_at : {A : Type 0} (f : A → A) (old : List A) (i : ℕ) (d : A) → i < length old → get_or (so_far f old i) i d ≡ get_or old i d
get_at f [] i d h = absurd (omega arith)
get_at f (x ∷ old) zero d h = refl
get_at f (x ∷ old) (suc i) d h = get_at f old i d (omega arith)

pub get_same : {A : Type 0} (old : List A) (i : ℕ) (d e : A) → i < length old → get_or old i d ≡ get_or old i e
get_same [] i d e h = absurd (omega arith)
get_same (x ∷ old) zero d e h = refl
get_same (x ∷ old) (suc i) d e h = get_same old i d e (omega arith)

length_map : {A : Type 0} (f : A → A) (xs : List A) → length (map f xs) ≡ length xs
length_map f [] = refl
length_map f (x ∷ xs) = ap suc (length_map f xs)

-- what stands at i is what stood there
pub was_at : {A : Type 0} (f : A → A) (old xs : List A) (i : ℕ) (d : A) → i < length old → xs ≡ so_far f old i → get_or xs i d ≡ get_or old i d
was_at f old xs i d h e = ap (λ r. get_or r i d) e ∙ get_at f old i d h

pub mapped_more : {A : Type 0} (f : A → A) (old xs : List A) (i : ℕ) (y d : A) → i < length old → y ≡ f (get_or xs i d) → xs ≡ so_far f old i → set xs i y ≡ so_far f old (i + 1)
mapped_more f old xs i y d h e s =
    ap (λ r. set r i y) s ∙ set_at f old i y d h (e ∙ ap f (was_at f old xs i d h s)) ∙ ap (so_far f old) (sym (add-one i))

pub mapped_end : {A : Type 0} (f : A → A) (old xs : List A) (i n : ℕ) → length old ≤ i → n ≡ length old → xs ≡ so_far f old i → take n (xs ++ drop (length xs) old) ≡ map f old
mapped_end f old xs i n h en s =
    let a : xs ≡ map f old = s ∙ ap₂ (λ r t. map f r ++ t) (take_all i old h) (drop_of_length-le old h) ∙ append-nil (map f old) in
    let l : length xs ≡ length old = ap (λ r. length r) a ∙ length_map f old in
    let b : drop (length xs) old ≡ [] = drop_of_length-le old (omega arith) in
    ap (λ t. take n (xs ++ t)) b ∙ ap (take n) (append-nil xs) ∙ take_all n xs (omega arith) ∙ a

-- ---- v is in none of what stood there
pub mono_at : (v : ℕ) (f : List ℕ → List ℕ) (old xs : List (List ℕ)) (i : ℕ) (d : List ℕ) → i < length old → xs ≡ so_far f old i → occurs v old ≡ false → stands v (get_or xs i d) ≡ false
mono_at v f old xs i d h e o = ap (stands v) (was_at f old xs i d h e) ∙ mono_free v old i (get_or old i d) h (get_same old i d _ h) o

pub poly_at : (v : ℕ) (f : List (List ℕ) → List (List ℕ)) (old xs : List (List (List ℕ))) (i : ℕ) (d g : List (List ℕ)) → i < length old → xs ≡ so_far f old i → g ≡ get_or xs i d → outs_occur v old ≡ false → occurs v g ≡ false
poly_at v f old xs i d g h e eg o = ap (occurs v) (eg ∙ was_at f old xs i d h e) ∙ outs_get v old i (get_or old i d) h (get_same old i d _ h) o
