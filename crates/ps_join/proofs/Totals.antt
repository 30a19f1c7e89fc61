-- Sums with terms that are still to be added to their phase.
use Rattle.std.proofs.Common.{◌≡◌, ℕ, ◌+◌, ◌%◌, refl, ap, ap₂, sym, ◌∙◌, subst, arith, ◌≤◌, Bool, true, false, ◌||◌, List, [], ◌∷◌, ◌++◌, length, Option, Some}
use Rattle.std.specs.Prelude.{IfSome}
use Rattle.ps_ring.specs.Truths.{Truths, bit}
use Rattle.ps_phase.specs.declared.terms.Term.{Term}
use Rattle.ps_phase.specs.Phases.{phase_value, phase_occurs, IsPhasePoly}
use Rattle.ps_phase.proofs.Adding.{add_value}
use Rattle.ps_sum.specs.declared.sums.PathSum.{PathSum}
use Rattle.ps_sum.specs.Outs.{values}
use Rattle.ps_sum.proofs.Uniqueness.{sum_only}
use Rattle.ps_prim.specs.declared.prims.Primitive.{Primitive as Prim}
use Rattle.ps_join.specs.Joining.{IsLeafOf}
use Rattle.ps_join.proofs.Only.{leaf_only}
use Rattle.ps_join.specs.Plainly.{IsBehind, IsAdded, IsLift, IsNear}
use Rattle.ps_join.specs.Totals.{IsNamed, with_more}

-- ---- the sum with all terms is that sum
pub total_only : (S T : PathSum) (more : List Term) (f : IsPhasePoly more) (b : IsNamed S more) → T.n ≡ S.n → T.m ≡ S.m → T.k ≡ S.k → T.outs ≡ S.outs
    → ((a : ℕ → Bool) → phase_value T.phase a % 4294967296 ≡ (phase_value S.phase a + phase_value more a) % 4294967296) → T ≡ with_more S more f b
total_only S T more f b n m k o p = sum_only T (with_more S more f b) (record {
  n_is = n;
  m_is = m;
  k_is = k;
  phase_is = λ x y lx ly. p (bit (x ++ y)) ∙ sym (add_value S.phase more (bit (x ++ y)));
  outs_is = λ x y lx ly. ap (λ os. values os (bit (x ++ y))) o;
})

none_value : (more : List Term) (a : ℕ → Bool) → length more ≡ 0 → phase_value more a ≡ 0
unfolding phase_value
none_value [] a e = refl
none_value (t ∷ ts) a e = absurd (omega (arith, e))

pub total_none : (S : PathSum) (more : List Term) (f : IsPhasePoly more) (b : IsNamed S more) → length more ≡ 0 → S ≡ with_more S more f b
total_none S more f b e = total_only S S more f b refl refl refl refl (λ a. let z = none_value more a e in ap (λ k. k % 4294967296) (kept (phase_value S.phase a) (phase_value more a) z))
  where
    kept : (x y : ℕ) → y ≡ 0 → x ≡ x + y
    kept x y e = omega (arith, e)

-- ---- a controlled not, and more terms
moved : (s t x y w : ℕ) → x % 4294967296 ≡ (s + w) % 4294967296 → y % 4294967296 ≡ (t + w) % 4294967296 → t % 4294967296 ≡ (s + 0) % 4294967296 → y % 4294967296 ≡ (x + 0) % 4294967296
moved s t x y w e f g = omega (arith, e, f, g)

pub total_behind : (f : Truths → Truths) (S T : PathSum) (more : List Term) (sf tf : IsPhasePoly more) (sb : IsNamed S more) (tb : IsNamed T more) → IsBehind S f (λ x. 0) T → IsBehind (with_more S more sf sb) f (λ x. 0) (with_more T more tf tb)
total_behind f S T more sf tf sb tb h = record {
  n_is = h.n_is;
  m_is = h.m_is;
  k_is = h.k_is;
  wide = h.wide;
  phase_is = λ a. moved (phase_value S.phase a) (phase_value T.phase a) _ _ (phase_value more a) (add_value S.phase more a) (add_value T.phase more a) (h.phase_is a);
  outs_are = h.outs_are;
}

pub behind_at : (f : Truths → Truths) (P : Truths → ℕ) (S S' T : PathSum) → S ≡ S' → IsBehind S f P T → IsBehind S' f P T
behind_at f P S S' T e h = subst (λ s. IsBehind s f P T) e h

gained : (s o m w x y : ℕ) → x % 4294967296 ≡ (s + o) % 4294967296 → y % 4294967296 ≡ (s + w) % 4294967296 → w % 4294967296 ≡ (o + m) % 4294967296 → y % 4294967296 ≡ (x + m) % 4294967296
gained s o m w x y e f g = omega (arith, e, f, g)

pub total_added : (S : PathSum) (old more new : List Term) (of : IsPhasePoly old) (nf : IsPhasePoly new) (ob : IsNamed S old) (nb : IsNamed S new)
    → ((a : ℕ → Bool) → phase_value new a % 4294967296 ≡ (phase_value old a + phase_value more a) % 4294967296) → IsAdded (with_more S old of ob) more (with_more S new nf nb)
total_added S old more new of nf ob nb h = record {
  n_is = refl;
  m_is = refl;
  k_is = refl;
  outs_are = refl;
  phase_is = λ a. gained (phase_value S.phase a) (phase_value old a) (phase_value more a) (phase_value new a) _ _ (add_value S.phase old a) (add_value S.phase new a) (h a);
}

pub nothing_added : (S : PathSum) (more : List Term) → length more ≡ 0 → IsAdded S more S
nothing_added S more e = record {
  n_is = refl;
  m_is = refl;
  k_is = refl;
  outs_are = refl;
  phase_is = λ a. let z = none_value more a e in ap (λ k. k % 4294967296) (kept (phase_value S.phase a) (phase_value more a) z);
}
  where
    kept : (x y : ℕ) → y ≡ 0 → x ≡ x + y
    kept x y e = omega (arith, e)

pub total_near : (S : PathSum) (more : List Term) (f : IsPhasePoly more) (b : IsNamed S more) → IsNear S → IsNear (with_more S more f b)
total_near S more f b h = record { named = h.named; short = h.short }

-- ---- no other name
neither : (p q r : Bool) → (p ≡ true → (q || r) ≡ true) → q ≡ false → r ≡ false → p ≡ false
neither false q r h e f = refl
neither true q r h e f = sym (h refl) ∙ ap₂ (λ x y. x || y) e f

pub named_both : (S T : PathSum) (old more new : List Term) → T.n ≡ S.n → T.m ≡ S.m → IsNamed S old → IsNamed S more → ((v : ℕ) → phase_occurs v new ≡ true → (phase_occurs v old || phase_occurs v more) ≡ true) → IsNamed T new
named_both S T old more new n m o w h = λ v l.
    let k = subst (λ x. x ≤ v) (ap₂ (λ x y. x + y) n m) l in
    neither (phase_occurs v new) (phase_occurs v old) (phase_occurs v more) (h v) (o v k) (w v k)

pub named_as : (S T : PathSum) (more : List Term) → T.n ≡ S.n → T.m ≡ S.m → IsNamed S more → IsNamed T more
named_as S T more n m o = λ v l. o v (subst (λ x. x ≤ v) (ap₂ (λ x y. x + y) n m) l)

pub none_named : (S : PathSum) (more : List Term) → more ≡ [] → IsNamed S more
unfolding phase_occurs
none_named S more e = λ v l. ap (phase_occurs v) e

-- ---- a lift that is there
pub lift_some : (f g : List (List ℕ)) (w : ℕ) (r : Option (List Term)) (more : List Term) → g ≡ f → r ≡ Some more → IfSome r (λ p. IsLift g w p) → IsLift f w more
lift_some f g w r more e s h = subst (λ x. IsLift x w more) e (subst (λ x. IfSome x (λ p. IsLift g w p)) s h)

-- ---- a leaf put behind a sum that is settled
pub leaf_at : (n m : ℕ) (g : Prim) (second S : PathSum) → n ≡ m → IsLeafOf n g second → IsLeafOf m g S → second ≡ S
leaf_at n m g second S e h l = leaf_only m g second S (subst (λ k. IsLeafOf k g second) e h) l
