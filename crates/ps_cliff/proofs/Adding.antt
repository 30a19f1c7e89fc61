-- The sum of two quadratic phases is quadratic.
use Rattle.std.proofs.Common.{◌≡◌, ◌≢◌, ℕ, ◌+◌, ◌%◌, refl, ap, sym, ◌∙◌, arith, Bool, true, false, cond, nat_eq, List, [], ◌∷◌, length, Ordering, Less, Equal, Greater}
use Rattle.std.proofs.lemmas.Bool.Decides.{nat_tests}
use Rattle.ps_mono.specs.Sets.{mono_cmp}
use Rattle.ps_mono.proofs.Orders.{mono_equal}
use Rattle.ps_phase.specs.declared.terms.Term.{Term}
use Rattle.ps_phase.specs.Adding.{choose, put_term, blend, add_terms}
use Rattle.ps_overlap.specs.Overlapping.{EachTerm}
use Rattle.ps_cliff.specs.Quadratics.{IsQuadraticTerm}

choose_quadratic : (o : Ordering) (u v w : List Term) → (o ≡ Less → EachTerm IsQuadraticTerm u) → (o ≡ Equal → EachTerm IsQuadraticTerm v) → (o ≡ Greater → EachTerm IsQuadraticTerm w) → EachTerm IsQuadraticTerm (choose o u v w)
unfolding choose
choose_quadratic Less u v w l e g = l refl
choose_quadratic Equal u v w l e g = e refl
choose_quadratic Greater u v w l e g = g refl

-- a term whose phase is not 0 is quadratic
pub put_quadratic : (m : List ℕ) (p : ℕ) (ts : List Term) → (p ≢ 0 → IsQuadraticTerm (record { mono = m; phase = p })) → EachTerm IsQuadraticTerm ts → EachTerm IsQuadraticTerm (put_term m p ts)
unfolding put_term
put_quadratic m p ts q h = by (nat_eq p 0) refl
  where
    by : (t : Bool) → nat_eq p 0 ≡ t → EachTerm IsQuadraticTerm (cond (nat_eq p 0) ts (record { mono = m; phase = p } ∷ ts))
    by true e = rw e h
    by false e = rw e (q (λ z. grind (arith, nat_tests)), h)

-- two terms of one monomial
both_quadratic : (x y : Term) → x.mono ≡ y.mono → IsQuadraticTerm x → IsQuadraticTerm y → (x.phase + y.phase) % 4294967296 ≢ 0 → IsQuadraticTerm (record { mono = x.mono; phase = (x.phase + y.phase) % 4294967296 })
both_quadratic x y e p q d = record {
  degree = p.degree;
  quarters = λ o. let a = p.quarters o in let b = q.quarters (ap length (sym e) ∙ o) in omega arith;
  halves = λ o. let a = p.halves o in let b = q.halves (ap length (sym e) ∙ o) in absurd (d (omega arith));
}

blend_quadratic : (x : Term) (rest : List Term → List Term) → IsQuadraticTerm x → ((zs : List Term) → EachTerm IsQuadraticTerm zs → EachTerm IsQuadraticTerm (rest zs)) → (ys : List Term) → EachTerm IsQuadraticTerm ys → EachTerm IsQuadraticTerm (blend x rest ys)
unfolding blend
blend_quadratic x rest q h [] s = (q, h [] tt)
blend_quadratic x rest q h (y ∷ ys) s = choose_quadratic (mono_cmp x.mono y.mono) _ _ _
    (λ l. (q, h (y ∷ ys) s))
    (λ e. put_quadratic x.mono ((x.phase + y.phase) % 4294967296) (rest ys) (both_quadratic x y (mono_equal x.mono y.mono e) q s.0) (h ys s.1))
    (λ g. (s.0, blend_quadratic x rest q h ys s.1))

pub add_quadratic : (xs ys : List Term) → EachTerm IsQuadraticTerm xs → EachTerm IsQuadraticTerm ys → EachTerm IsQuadraticTerm (add_terms xs ys)
unfolding add_terms
add_quadratic [] ys s t = t
add_quadratic (x ∷ xs) ys s t = blend_quadratic x (λ zs. add_terms xs zs) s.0 (λ zs u. add_quadratic xs zs s.1 u) ys t
