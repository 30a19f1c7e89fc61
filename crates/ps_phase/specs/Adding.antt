-- Two polynomials added, term by term.
use Rattle.std.specs.Prelude.{ℕ, ◌+◌, ◌*◌, ◌%◌, cond, nat_eq, List, [], ◌∷◌, Bool, true, false}
use Rattle.std.specs.declared.cmp.Ordering.{Ordering}
use Rattle.std.specs.declared.cmp.Ordering.TheVariants.{Less, Equal, Greater}
use Rattle.ps_phase.specs.declared.terms.Term.{Term}
use Rattle.ps_mono.specs.Sets.{mono_cmp, stands}
use Rattle.ps_mono.specs.Truth.{differ}

unfoldable pub choose : Ordering → List Term → List Term → List Term → List Term
choose Less a b c = a
choose Equal a b c = b
choose Greater a b c = c

-- a term in front, where its phase is not zero
unfoldable pub put_term : List ℕ → ℕ → List Term → List Term
put_term m p ts = cond (nat_eq p 0) ts (record { mono = m; phase = p } ∷ ts)

unfoldable pub blend : Term → (List Term → List Term) → List Term → List Term
blend x rest [] = x ∷ rest []
blend x rest (y ∷ ys) = choose (mono_cmp x.mono y.mono) (x ∷ rest (y ∷ ys)) (put_term x.mono ((x.phase + y.phase) % 4294967296) (rest ys)) (y ∷ blend x rest ys)

-- both lists in order, terms of one monomial added
unfoldable pub add_terms : List Term → List Term → List Term
add_terms [] ys = ys
add_terms (x ∷ xs) ys = blend x (λ zs. add_terms xs zs) ys

-- each phase so many times, without those that come to zero
unfoldable pub scaled_terms : ℕ → List Term → List Term
scaled_terms by [] = []
scaled_terms by (t ∷ ts) = put_term t.mono ((by * t.phase) % 4294967296) (scaled_terms by ts)

-- the terms in which it is so, or not so, that v stands there, in order
unfoldable pub terms_where : Bool → ℕ → List Term → List Term
terms_where b v [] = []
terms_where b v (t ∷ ts) = cond (differ b (stands v t.mono)) (terms_where b v ts) (t ∷ terms_where b v ts)

-- the terms that contain v, and those that do not
abbrev pub terms_with : ℕ → List Term → List Term
terms_with v ts = terms_where true v ts

abbrev pub terms_without : ℕ → List Term → List Term
terms_without v ts = terms_where false v ts

-- the sum of each run of one monomial, after a run of m that has come to p
unfoldable pub combined_terms : List ℕ → ℕ → List Term → List Term
combined_terms m p [] = put_term m p []
combined_terms m p (t ∷ ts) = choose (mono_cmp m t.mono) (put_term m p (combined_terms t.mono t.phase ts)) (combined_terms m ((p + t.phase) % 4294967296) ts) (put_term m p (combined_terms t.mono t.phase ts))
