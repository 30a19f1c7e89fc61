-- The order of monomials is total, and only equal ones tie.
use Rattle.std.proofs.Common.{◌≡◌, ℕ, refl, ap, ap₂, sym, ◌∙◌, arith, ◌≤◌, true, nat_eq, List, [], ◌∷◌, length, nat_cmp, Ordering, Less, Equal, Greater, Some}
use Rattle.std.specs.Bool.{Decides}
use Rattle.std.specs.Cmp.{IsTotalOrder, IsPartialOrder, po}
use Rattle.std.specs.Cmp.Lexicographic.{pointwise, slice_cmp}
use Rattle.std.specs.Ordering.{ordering_then, ordering_reverse, is_eq}
use Rattle.std.proofs.lemmas.Bool.Decides.{nat_tests, same_from_decides, Decides-eqb}
use Rattle.std.proofs.lemmas.Cmp.{nat_cmp_total, nat_list_cmp_total, on_total, then_total, tied_itself}
use Rattle.std.proofs.lemmas.Slice.Eq.{slice_eq-Decides}
use Rattle.ps_mono.specs.Sets.{mono_cmp}

pub mono_total : IsTotalOrder mono_cmp
mono_total = then_total (on_total (λ (m : List ℕ). length m) nat_cmp_total) nat_list_cmp_total

nat_equal : (x y : ℕ) → nat_cmp x y ≡ Equal → x ≡ y
nat_equal x y e = grind (arith, nat_tests)

both_equal : (o p : Ordering) → ordering_then o p ≡ Equal → (o ≡ Equal) × (p ≡ Equal)
both_equal Less p e = absurd (less_equal e)
  where
    less_equal : Less ≡ Equal → ⊥
    less_equal e = cc
both_equal Equal p e = (refl, e)
both_equal Greater p e = absurd (greater_equal e)
  where
    greater_equal : Greater ≡ Equal → ⊥
    greater_equal e = cc

list_equal : (m k : List ℕ) → slice_cmp nat_cmp m k ≡ Equal → m ≡ k
list_equal [] [] e = refl
list_equal [] (y ∷ k) e = cc
list_equal (x ∷ m) [] e = cc
list_equal (x ∷ m) (y ∷ k) e = let b = both_equal (nat_cmp x y) _ e in ap₂ (λ (v : ℕ) (r : List ℕ). v ∷ r) (nat_equal x y b.0) (list_equal m k b.1)

-- only equal monomials tie
pub mono_equal : (m k : List ℕ) → mono_cmp m k ≡ Equal → m ≡ k
mono_equal m k e = list_equal m k (both_equal (nat_cmp (length m) (length k)) _ e).1

-- each monomial ties with itself
pub mono_same : (m : List ℕ) → mono_cmp m m ≡ Equal
mono_same m = tied_itself mono_total m

pub mono_flip : (m k : List ℕ) → mono_cmp m k ≡ Greater → mono_cmp k m ≡ Less
mono_flip m k e = mono_total.antisymm k m ∙ ap ordering_reverse e

pub mono_trans : (m k n : List ℕ) → mono_cmp m k ≡ Less → mono_cmp k n ≡ Less → mono_cmp m n ≡ Less
mono_trans m k n a b = mono_total.trans m k n a b

-- no monomial comes before itself
pub never_self : (m : List ℕ) → mono_cmp m m ≡ Less → ⊥
never_self m e = tell (sym e ∙ mono_same m)
  where
    tell : Less ≡ Equal → ⊥
    tell e = cc

-- what comes before has no more variables
pub cmp_length : (m k : List ℕ) → mono_cmp m k ≡ Less → length m ≤ length k
cmp_length m k e = by (nat_cmp (length m) (length k)) refl e
  where
    by : (o : Ordering) → nat_cmp (length m) (length k) ≡ o → ordering_then o (slice_cmp nat_cmp m k) ≡ Less → length m ≤ length k
    by Less d f = grind (arith, nat_tests)
    by Equal d f = grind (arith, nat_tests)
    by Greater d f = absurd (far f)
      where
        far : Greater ≡ Less → ⊥
        far e = cc

tie_decides : (m k : List ℕ) → Decides (is_eq (mono_cmp m k)) (m ≡ k)
tie_decides m k = (λ e. mono_equal m k (tie (mono_cmp m k) e), λ e. ap (λ (x : List ℕ). is_eq (mono_cmp m x)) (sym e) ∙ ap is_eq (mono_same m))
  where
    tie : (o : Ordering) → is_eq o ≡ true → o ≡ Equal
    tie Less e = cc
    tie Equal e = refl
    tie Greater e = cc

-- what `==` answers
pub mono_ties : (m k : List ℕ) → pointwise nat_eq m k ≡ is_eq (mono_cmp m k)
mono_ties m k = same_from_decides {P = m ≡ k} (pointwise nat_eq m k) (is_eq (mono_cmp m k)) (slice_eq-Decides Decides-eqb m k (pointwise nat_eq m k) refl) (tie_decides m k)

pub mono_partial_order : IsPartialOrder (pointwise nat_eq) (λ m k. Some (mono_cmp m k))
mono_partial_order = po mono_total mono_ties
