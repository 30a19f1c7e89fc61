-- The empty monomial at the front: merging with it alone takes it out or puts it in.
use Rattle.std.proofs.Common.{◌≡◌, ℕ, suc, refl, ap, sym, ◌∙◌, arith, ◌<◌, true, false, nat_eq, List, [], ◌∷◌, length, drop, get_or, Greater}
use Rattle.std.specs.Ordering.{nat_cmp, ordering_then}
use Rattle.std.specs.Cmp.Lexicographic.{slice_cmp}
use Rattle.std.proofs.lemmas.Bool.Decides.{nat_tests}
use Rattle.ps_mono.specs.Sets.{mono_cmp, stands}
use Rattle.ps_mono.specs.Lists.{members_empty}
use Rattle.ps_mono.proofs.Orders.{mono_same}
use Rattle.ps_bool.specs.Polys.{IsPoly}
use Rattle.ps_bool.specs.Merging.{pick, weave, merge}
use Rattle.ps_bool.specs.Flips.{has_one}
use Rattle.ps_bool.proofs.Merges.{Mono, merge_nil_right}

more_than_none : (n : ℕ) → nat_cmp (suc n) 0 ≡ Greater
more_than_none n = grind (arith, nat_tests)

after_one : (v : ℕ) (m : Mono) → mono_cmp (v ∷ m) [] ≡ Greater
after_one v m = ap (λ o. ordering_then o (slice_cmp nat_cmp (v ∷ m) [])) (more_than_none (length m))

pub taken_out : (xs : List Mono) → has_one xs ≡ true → drop 1 xs ≡ merge xs ([] ∷ [])
unfolding has_one merge weave pick
taken_out [] h = cc
taken_out ([] ∷ xs) h = sym (ap (λ o. pick o ([] ∷ merge xs ([] ∷ [])) (merge xs []) ([] ∷ weave [] (λ zs. merge xs zs) [])) (mono_same []) ∙ merge_nil_right xs)
taken_out ((v ∷ m) ∷ xs) h = cc

pub put_in : (xs : List Mono) → has_one xs ≡ false → [] ∷ xs ≡ merge xs ([] ∷ [])
unfolding has_one merge weave pick
put_in [] h = refl
put_in ([] ∷ xs) h = cc
put_in ((v ∷ m) ∷ xs) h = sym (ap (λ o. pick o ((v ∷ m) ∷ merge xs ([] ∷ [])) (merge xs []) ([] ∷ weave (v ∷ m) (λ zs. merge xs zs) [])) (after_one v m) ∙ ap (λ (r : List Mono). [] ∷ (v ∷ m) ∷ r) (merge_nil_right xs))

pub none_first : (xs : List Mono) → length xs ≡ 0 → false ≡ has_one xs
unfolding has_one
none_first [] h = refl
none_first (x ∷ xs) h = absurd (omega arith)

pub first_one : (xs : List Mono) (x : Mono) → 0 < length xs → x ≡ get_or xs 0 x → nat_eq (length x) 0 ≡ has_one xs
unfolding has_one
first_one [] x h e = absurd (omega arith)
first_one (y ∷ xs) x h e = ap (λ (m : Mono). nat_eq (length m) 0) e ∙ by y
  where
    by : (y : Mono) → nat_eq (length y) 0 ≡ has_one (y ∷ xs)
    by [] = refl
    by (v ∷ m) = grind (arith, nat_tests)

pub one_inside : (xs : List Mono) → has_one xs ≡ true → 0 < length xs
unfolding has_one
one_inside [] h = cc
one_inside (x ∷ xs) h = omega arith

pub one_poly : IsPoly ([] ∷ [])
unfolding stands
one_poly = record { in_order = (tt, tt); sets = (members_empty (λ v. stands v []) 0 512 (λ v l. stands_none v), tt) }
  where
    stands_none : (v : ℕ) → stands v [] ≡ false
    stands_none v = refl
