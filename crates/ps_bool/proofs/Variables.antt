-- Which variables occur.
use Rattle.std.proofs.Common.{◌≡◌, ℕ, refl, ap₂, Bool, true, false, ◌||◌, List, [], ◌∷◌}
use Rattle.ps_mono.specs.Sets.{stands}
use Rattle.ps_bool.specs.Polys.{occurs, Each}
use Rattle.ps_bool.specs.Merging.{merge}
use Rattle.ps_bool.proofs.Bools.{no_first, no_second, unless}
use Rattle.ps_bool.proofs.Merges.{merge_each}

-- v is missing in each monomial
abbrev pub Misses : ℕ → List (List ℕ) → Type 0
Misses v f = Each (λ m. stands v m ≡ false) f

pub misses : (v : ℕ) (f : List (List ℕ)) → occurs v f ≡ false → Misses v f
unfolding occurs
misses v [] h = tt
misses v (m ∷ f) h = (no_first (stands v m) (occurs v f) h, misses v f (no_second (stands v m) (occurs v f) h))

pub missed : (v : ℕ) (f : List (List ℕ)) → Misses v f → occurs v f ≡ false
unfolding occurs
missed v [] h = refl
missed v (m ∷ f) h = ap₂ (λ (x y : Bool). x || y) h.0 (missed v f h.1)

pub occurs-merge : (v : ℕ) (xs ys : List (List ℕ)) → occurs v (merge xs ys) ≡ true → (occurs v xs || occurs v ys) ≡ true
occurs-merge v xs ys t =
    unless (occurs v (merge xs ys)) (occurs v xs || occurs v ys)
    (λ n. missed v (merge xs ys) (merge_each (λ m. stands v m ≡ false) xs ys (misses v xs (no_first (occurs v xs) (occurs v ys) n)) (misses v ys (no_second (occurs v xs) (occurs v ys) n)))) t
