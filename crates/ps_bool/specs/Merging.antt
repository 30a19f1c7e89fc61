-- What merging two lists in order makes.
use Rattle.std.specs.Prelude.{ℕ, List, [], ◌∷◌, cond, nat_eq}
use Rattle.std.specs.Cmp.Lexicographic.{pointwise}
use Rattle.std.specs.declared.cmp.Ordering.{Ordering}
use Rattle.std.specs.declared.cmp.Ordering.TheVariants.{Less, Equal, Greater}
use Rattle.ps_mono.specs.Sets.{mono_cmp}

-- what three-way comparing picks
unfoldable pub pick : Ordering → List (List ℕ) → List (List ℕ) → List (List ℕ) → List (List ℕ)
pick Less a b c = a
pick Equal a b c = b
pick Greater a b c = c

-- x in front of the list that `rest` makes with what comes behind x
unfoldable pub weave : List ℕ → (List (List ℕ) → List (List ℕ)) → List (List ℕ) → List (List ℕ)
weave x rest [] = x ∷ rest []
weave x rest (y ∷ ys) = pick (mono_cmp x y) (x ∷ rest (y ∷ ys)) (rest ys) (y ∷ weave x rest ys)

-- two lists in order as one, without what stands in both
unfoldable pub merge : List (List ℕ) → List (List ℕ) → List (List ℕ)
merge [] ys = ys
merge (x ∷ xs) ys = weave x (λ zs. merge xs zs) ys

-- equal neighbours dropped in pairs, from the front on
unfoldable pub cancelled : List (List ℕ) → List (List ℕ)
cancelled [] = []
cancelled (x ∷ []) = x ∷ []
cancelled (x ∷ y ∷ f) = cond (pointwise nat_eq x y) (cancelled f) (x ∷ cancelled (y ∷ f))
