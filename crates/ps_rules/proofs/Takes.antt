-- The sums that the steps make.
use mathlib.Core.Path.{fun_ext}
use Rattle.std.proofs.Common.{◌≡◌, ◌≢◌, ℕ, suc, ◌+◌, ◌-◌, ◌%◌, refl, ap, ap₂, sym, ◌∙◌, subst, arith, ◌<◌, ◌≤◌, Bool, true, false, cond, not, nat_eq, ◌&&◌, ◌||◌, List, [], ◌∷◌, length, min, max, zero-add, ◌⊎◌, inl, inr}
use Rattle.std.proofs.Math.IntN.{ℤ, pos, negsuc, ◌+ℤ◌}
use Rattle.std.proofs.Common.{◌≤ℤ◌}
use Rattle.std.proofs.lemmas.Int.{ints}
use Rattle.std.proofs.lemmas.Bool.{cases_lt}
use Rattle.std.proofs.lemmas.Bool.Decides.{nat_tests}
use Rattle.ps_mono.specs.Sets.{holds, stands}
use Rattle.ps_mono.specs.Lists.{nat_eq_true, nat_eq_same}
use Rattle.ps_mono.specs.Truth.{times, differ, with_value}
use Rattle.ps_bool.specs.Polys.{bool_value, occurs}
use Rattle.ps_bool.proofs.Unique.{bool_value-agree}
use Rattle.ps_bool.proofs.Replacing.{holds_apart}
use Rattle.ps_phase.specs.declared.terms.Term.{Term}
use Rattle.ps_phase.specs.Adding.{terms_where, terms_with, terms_without}
use Rattle.ps_phase.specs.Phases.{phase_value, phase_occurs, IsPhasePoly}
use Rattle.ps_phase.proofs.Adding.{neither, no_or}
use Rattle.ps_phase.proofs.Scaling.{selected_form, split_value}
use Rattle.ps_phase.proofs.Values.{phase_agree}
use Rattle.ps_ring.specs.Readings.{Assignment, closed_up}
use Rattle.ps_ring.specs.Readings as rings
use Rattle.ps_sum.specs.declared.sums.PathSum.{PathSum}
use Rattle.ps_sum.specs.Forms.{AllPolys, IsFormed}
use Rattle.ps_sum.specs.Names.{closed, opened}
use Rattle.ps_sum.specs.Outs.{values, outs_occur}
use Rattle.ps_sum.proofs.Closings.{opened_above}
use Rattle.ps_rules.specs.declared.steps.Step.TheVariants.{Hh, Omega}
use Rattle.ps_rules.specs.Closing.{closed_terms, closed_polys, IsReplaced}
use Rattle.ps_rules.specs.Rules.{ElimApplies, HhApplies, OmegaApplies, ElimApplied, HhApplied, OmegaApplied, rest_value}
use Rattle.ps_rules.specs.Plans.{IsQuotient}
use Rattle.ps_rules.proofs.Closes.{off, none_left, form_closed, value_closed, occurs_closed, values_closed, outs_closed, polys_closed, length_polys}
use Rattle.ps_rules.proofs.Splits.{phase_apart, holds_without}

-- ---- names back and forth
name_back : (v u : ℕ) → u ≢ v → rings.opened v (closed v u) ≡ u
unfolding rings.opened closed
name_back v u d = grind (arith, nat_tests)

-- the old value of a variable other than v
back : (v u : ℕ) (a : Assignment) → u ≢ v → closed_up v a (closed v u) ≡ a u
back v u a d = ap a (name_back v u d)

apart_from : (v u : ℕ) (ts : List Term) → phase_occurs v ts ≡ false → phase_occurs u ts ≡ true → u ≢ v
apart_from v u ts n o e = off (subst (λ (w : ℕ). phase_occurs w ts ≡ true) e o) n

outs_apart : (v u : ℕ) (f : List (List ℕ)) → occurs v f ≡ false → occurs u f ≡ true → u ≢ v
outs_apart v u f n o e = off (subst (λ (w : ℕ). occurs w f ≡ true) e o) n

closed_read : (v : ℕ) (ts : List Term) (a : Assignment) → phase_occurs v ts ≡ false → phase_value (closed_terms v ts) (closed_up v a) ≡ phase_value ts a
closed_read v ts a n = value_closed v ts (closed_up v a) ∙ phase_agree ts (λ u. closed_up v a (closed v u)) a (λ u o. back v u a (apart_from v u ts n o))

polys_agree : (v : ℕ) (a : Assignment) (fs : List (List (List ℕ))) → outs_occur v fs ≡ false → values fs (λ u. closed_up v a (closed v u)) ≡ values fs a
unfolding values outs_occur
polys_agree v a [] n = refl
polys_agree v a (f ∷ fs) n =
    let k = neither (occurs v f) (outs_occur v fs) n in
    ap₂ (λ (x : Bool) (y : List Bool). x ∷ y) (bool_value-agree f (λ u. closed_up v a (closed v u)) a (λ u o. back v u a (outs_apart v u f k.0 o))) (polys_agree v a fs k.1)

pub polys_read : (v : ℕ) (fs : List (List (List ℕ))) (a : Assignment) → outs_occur v fs ≡ false → values (closed_polys v fs) (closed_up v a) ≡ values fs a
polys_read v fs a n = values_closed v fs (closed_up v a) ∙ polys_agree v a fs n

-- ---- the terms without v are what all are where v is 0
pub without_false : (v : ℕ) (ts : List Term) (a : Assignment) → phase_value (terms_without v ts) a ≡ phase_value ts (with_value a v false)
unfolding terms_where differ phase_value times
without_false v [] a = refl
without_false v (t ∷ ts) a = by (stands v t.mono) refl (without_false v ts a)
  where
    by : (q : Bool) → stands v t.mono ≡ q → phase_value (terms_where false v ts) a ≡ phase_value ts (with_value a v false)
        → phase_value (cond (differ false q) (terms_where false v ts) (t ∷ terms_where false v ts)) a ≡ times (holds t.mono (with_value a v false)) t.phase + phase_value ts (with_value a v false)
    by true e r = r ∙ sym (zero-add _) ∙ ap (λ (b : Bool). times b t.phase + phase_value ts (with_value a v false)) (sym (holds_without t.mono v a e))
    by false e r = ap₂ (λ (b : Bool) (n : ℕ). times b t.phase + n) (sym (holds_apart t.mono v a false e)) r

-- the terms without v, closed up, at an assignment of the old variables
pub settled_value : (v : ℕ) (ts : List Term) (a : Assignment) → phase_value (closed_terms v (terms_without v ts)) (closed_up v a) ≡ phase_value ts (with_value a v false)
settled_value v ts a = closed_read v (terms_without v ts) a (none_left v ts) ∙ without_false v ts a

-- ---- which variables are left
abbrev pub Under : ℕ → List Term → Type 0
Under b ts = (u : ℕ) → b ≤ u → phase_occurs u ts ≡ false

without_free : (v u : ℕ) (ts : List Term) → phase_occurs u ts ≡ false → phase_occurs u (terms_where false v ts) ≡ false
unfolding terms_where phase_occurs
without_free v u [] n = n
without_free v u (t ∷ ts) n = let k = neither (stands u t.mono) (phase_occurs u ts) n in by (differ false (stands v t.mono)) k.0 (without_free v u ts k.1)
  where
    by : (q : Bool) → stands u t.mono ≡ false → phase_occurs u (terms_where false v ts) ≡ false → phase_occurs u (cond q (terms_where false v ts) (t ∷ terms_where false v ts)) ≡ false
    by true s r = r
    by false s r = no_or _ _ s r

pub settled_under : (v b : ℕ) (ts : List Term) → v < suc b → Under (suc b) ts → Under b (closed_terms v (terms_without v ts))
settled_under v b ts h f w l = occurs_closed v w (terms_without v ts) (none_left v ts) ∙ without_free v (opened v w) ts (f (opened v w) (opened_above v w (suc b) h (omega arith)))

pub settled_form : (v : ℕ) (ts : List Term) → IsPhasePoly ts → IsPhasePoly (closed_terms v (terms_without v ts))
settled_form v ts p = form_closed v (terms_without v ts) (none_left v ts) (selected_form false v ts p)

abbrev pub OutsUnder : ℕ → List (List (List ℕ)) → Type 0
OutsUnder b fs = (u : ℕ) → b ≤ u → outs_occur u fs ≡ false

pub polys_under : (v b : ℕ) (fs : List (List (List ℕ))) → v < suc b → outs_occur v fs ≡ false → OutsUnder (suc b) fs → OutsUnder b (closed_polys v fs)
polys_under v b fs h n f w l = outs_closed v w fs n ∙ f (opened v w) (opened_above v w (suc b) h (omega arith))

-- the same at another name of the variable
pub settled_at : (v w : ℕ) (ts xs : List Term) → v ≡ w → xs ≡ closed_terms v (terms_without v ts) → xs ≡ closed_terms w (terms_without w ts)
settled_at v w ts xs e f = f ∙ ap (λ u. closed_terms u (terms_without u ts)) e

pub polys_at : (v w : ℕ) (fs gs : List (List (List ℕ))) → v ≡ w → gs ≡ closed_polys v fs → gs ≡ closed_polys w fs
polys_at v w fs gs e f = f ∙ ap (λ u. closed_polys u fs) e

-- ---- what a sum keeps
pub record Kept (n m : ℕ) (phase : List Term) (outs : List (List (List ℕ))) : Type 0 where
  pub phase_below : Under (n + m) phase
  pub outs_below : OutsUnder (n + m) outs
  pub width : 0 < length outs → length outs ≡ n
  pub formed : IsFormed phase outs

under_is : (b c : ℕ) (ts : List Term) → b ≡ c → Under b ts → Under c ts
under_is b c ts e f = subst (λ (x : ℕ). Under x ts) e f

outs_under_is : (b c : ℕ) (fs : List (List (List ℕ))) → b ≡ c → OutsUnder b fs → OutsUnder c fs
outs_under_is b c fs e f = subst (λ (x : ℕ). OutsUnder x fs) e f

pub elim_kept : (S : PathSum) (y0 : ℕ) (phase : List Term) (outs : List (List (List ℕ))) → ElimApplies S y0 → phase ≡ closed_terms (S.n + y0) (terms_without (S.n + y0) S.phase) → outs ≡ closed_polys (S.n + y0) S.outs → Kept S.n (S.m - 1) phase outs
elim_kept S y0 phase outs h ep eo =
    let v = S.n + y0 in
    let b : S.n + S.m ≡ suc (S.n + (S.m - 1)) = (let i = h.inner.inside in omega arith) in
    let l : v < suc (S.n + (S.m - 1)) = (let i = h.inner.inside in omega arith) in
    record {
      phase_below = subst (Under (S.n + (S.m - 1))) (sym ep) (settled_under v (S.n + (S.m - 1)) S.phase l (under_is (S.n + S.m) _ S.phase b S.phase_below));
      outs_below = subst (OutsUnder (S.n + (S.m - 1))) (sym eo) (polys_under v (S.n + (S.m - 1)) S.outs l h.inner.silent (outs_under_is (S.n + S.m) _ S.outs b S.outs_below));
      width = λ k. let e = ap (λ (r : List (List (List ℕ))). length r) eo ∙ length_polys v S.outs in e ∙ S.width (omega (arith, e));
      formed = (subst IsPhasePoly (sym ep) (settled_form v S.phase S.formed.0), subst AllPolys (sym eo) (polys_closed v S.outs h.inner.silent S.formed.1));
    }

pub scale_bounds : (k l : ℤ) (e : ℕ) → k +ℤ pos e ≡ l → negsuc 1999999997 ≤ℤ l → l ≤ℤ pos 2000000000 → e ≤ 2 → (negsuc 1999999999 ≤ℤ k) × (k ≤ℤ pos 2000000000)
scale_bounds k l e q a b h = (omega (arith, ints), omega (arith, ints))

pub elim_taken : (S T : PathSum) (y0 : ℕ) → ElimApplies S y0 → T.n ≡ S.n → T.m ≡ S.m - 1 → T.k +ℤ pos 2 ≡ S.k → T.phase ≡ closed_terms (S.n + y0) (terms_without (S.n + y0) S.phase) → T.outs ≡ closed_polys (S.n + y0) S.outs → ElimApplied S y0 T
elim_taken S T y0 h en em ek ep eo = (
  record { n_is = en; m_is = (let i = h.inner.inside in omega arith); k_is = ek },
  record {
    phase_is = λ a. ap (λ (r : List Term). phase_value r (closed_up (S.n + y0) a) % 4294967296) ep ∙ ap (λ n. n % 4294967296) (settled_value (S.n + y0) S.phase a);
    outs_is = λ a. ap (λ (r : List (List (List ℕ))). values r (closed_up (S.n + y0) a)) eo ∙ polys_read (S.n + y0) S.outs a h.inner.silent;
  },
)

-- ---- one polynomial added to another
pub sum_under : (b : ℕ) (xs ys zs : List Term) → ((u : ℕ) → phase_occurs u zs ≡ true → (phase_occurs u xs || phase_occurs u ys) ≡ true) → Under b xs → Under b ys → Under b zs
sum_under b xs ys zs f p q u l = never (phase_occurs u zs) refl
  where
    never : (t : Bool) → phase_occurs u zs ≡ t → t ≡ false
    never true e = absurd (off (f u e) (no_or _ _ (p u l) (q u l)))
    never false e = refl

-- ---- Omega
pub omega_kept : (S : PathSum) (y0 : ℕ) (q : List (List ℕ)) (old extra added phase : List Term) (outs : List (List (List ℕ))) → OmegaApplies S y0 → IsQuotient S (Omega y0) q → old ≡ closed_terms (S.n + y0) (terms_without (S.n + y0) S.phase) → added ≡ closed_terms (S.n + y0) (terms_without (S.n + y0) extra)
    → ((u : ℕ) → occurs u q ≡ false → phase_occurs u extra ≡ false) → ((u : ℕ) → phase_occurs u phase ≡ true → (phase_occurs u old || phase_occurs u added) ≡ true) → IsPhasePoly phase → outs ≡ closed_polys (S.n + y0) S.outs → Kept S.n (S.m - 1) phase outs
omega_kept S y0 q old extra added phase outs h d eo ea xf af pf eu =
    let v = S.n + y0 in
    let b : S.n + S.m ≡ suc (S.n + (S.m - 1)) = (let i = h.inner.inside in omega arith) in
    let l : v < suc (S.n + (S.m - 1)) = (let i = h.inner.inside in omega arith) in
    record {
      phase_below =
          sum_under (S.n + (S.m - 1)) old added phase af (subst (Under (S.n + (S.m - 1))) (sym eo) (settled_under v (S.n + (S.m - 1)) S.phase l (under_is (S.n + S.m) _ S.phase b S.phase_below)))
          (subst (Under (S.n + (S.m - 1))) (sym ea) (settled_under v (S.n + (S.m - 1)) extra l (under_is (S.n + S.m) _ extra b (λ u k. xf u (d.known u (S.phase_below u k))))));
      outs_below = subst (OutsUnder (S.n + (S.m - 1))) (sym eu) (polys_under v (S.n + (S.m - 1)) S.outs l h.inner.silent (outs_under_is (S.n + S.m) _ S.outs b S.outs_below));
      width = λ k. let e = ap (λ (r : List (List (List ℕ))). length r) eu ∙ length_polys v S.outs in e ∙ S.width (omega (arith, e));
      formed = (pf, subst AllPolys (sym eu) (polys_closed v S.outs h.inner.silent S.formed.1));
    }

omega_sum : (p k x r t : ℕ) → p % 4294967296 ≡ (k + x) % 4294967296 → k ≡ r → x % 4294967296 ≡ (536870912 + t) % 4294967296 → p % 4294967296 ≡ (r + 536870912 + t) % 4294967296
omega_sum p k x r t e f g = omega arith

pub omega_taken : (S T : PathSum) (y0 : ℕ) (q : List (List ℕ)) (old extra added : List Term) → OmegaApplies S y0 → IsQuotient S (Omega y0) q → T.n ≡ S.n → T.m ≡ S.m - 1 → T.k +ℤ pos 1 ≡ S.k → old ≡ closed_terms (S.n + y0) (terms_without (S.n + y0) S.phase) → added ≡ closed_terms (S.n + y0) (terms_without (S.n + y0) extra)
    → ((a : Assignment) → phase_value extra a % 4294967296 ≡ (536870912 + times (bool_value q a) 3221225472) % 4294967296) → ((u : ℕ) → occurs u q ≡ false → phase_occurs u extra ≡ false)
    → ((a : Assignment) → phase_value T.phase a % 4294967296 ≡ (phase_value old a + phase_value added a) % 4294967296) → T.outs ≡ closed_polys (S.n + y0) S.outs → OmegaApplied S y0 T
omega_taken S T y0 q old extra added h d en em ek eo ea xv xf tv eu = (
  record { n_is = en; m_is = (let i = h.inner.inside in omega arith); k_is = ek },
  record {
    phase_is = λ a.
        let v = S.n + y0 in
        omega_sum _ _ _ (phase_value S.phase (with_value a v false)) (times (rest_value S (Omega y0) a) 3221225472) (tv (closed_up v a))
        (ap (λ (r : List Term). phase_value r (closed_up v a)) eo ∙ settled_value v S.phase a)
        (ap (λ (r : List Term). phase_value r (closed_up v a) % 4294967296) ea ∙ ap (λ n. n % 4294967296) (settled_value v extra a ∙ phase_apart v extra a false (xf v d.first_free)) ∙ xv a
        ∙ ap (λ b. (536870912 + times b 3221225472) % 4294967296) (d.poly.value a));
    outs_is = λ a. ap (λ (r : List (List (List ℕ))). values r (closed_up (S.n + y0) a)) eu ∙ polys_read (S.n + y0) S.outs a h.inner.silent;
  },
)

-- ---- two variables
-- a value put in for v, and one for w
with_swap : (a : Assignment) (v w : ℕ) (b c : Bool) → v ≢ w → with_value (with_value a w c) v b ≡ with_value (with_value a v b) w c
with_swap a v w b c d = fun_ext (λ u. by u (nat_eq u v) refl (nat_eq u w) refl)
  where
    by : (u : ℕ) (p : Bool) → nat_eq u v ≡ p → (r : Bool) → nat_eq u w ≡ r → cond p b (cond r c (a u)) ≡ cond r c (cond p b (a u))
    by u true e true f = absurd (d (sym (nat_eq_true u v e) ∙ nat_eq_true u w f))
    by u true e false f = refl
    by u false e true f = refl
    by u false e false f = refl

with_over : (a : Assignment) (w : ℕ) (b c : Bool) → with_value (with_value a w c) w b ≡ with_value a w b
with_over a w b c = fun_ext (λ u. by u (nat_eq u w))
  where
    by : (u : ℕ) (p : Bool) → cond p b (cond p c (a u)) ≡ cond p b (a u)
    by u true = refl
    by u false = refl

-- the names closed up in either order
name_order : (low high u : ℕ) → low < high → rings.opened low (rings.opened (closed low high) u) ≡ rings.opened high (rings.opened low u)
unfolding rings.opened closed
name_order low high u h = grind (arith, nat_tests)

name_same : (low high : ℕ) → low < high → closed high low ≡ low
unfolding closed
name_same low high h = grind (arith, nat_tests)

pub record Sorted (v w low high : ℕ) : Type 0 where
  pub order : low < high
  pub are : ((low ≡ v) × (high ≡ w)) ⊎ ((low ≡ w) × (high ≡ v))

pub sorted_of : (v w low high : ℕ) → w ≢ v → high ≡ max v w → low ≡ min v w → Sorted v w low high
sorted_of v w low high d eh el = record { order = omega arith; are = by (cases_lt v w) }
  where
    by : ((v < w) ⊎ (w ≤ v)) → ((low ≡ v) × (high ≡ w)) ⊎ ((low ≡ w) × (high ≡ v))
    by (inl l) = inl ((omega arith), (omega arith))
    by (inr l) = inr ((omega arith), (omega arith))

names_sorted : (v w low high : ℕ) (a : Assignment) → Sorted v w low high → closed_up (closed v w) (closed_up v a) ≡ closed_up low (closed_up high a)
names_sorted v w low high a s = by s.are
  where
    by : ((low ≡ v) × (high ≡ w)) ⊎ ((low ≡ w) × (high ≡ v)) → closed_up (closed v w) (closed_up v a) ≡ closed_up low (closed_up high a)
    by (inl p) =
        ap₂ (λ (x y : ℕ). closed_up (closed x y) (closed_up x a)) (sym p.0) (sym p.1)
        ∙ fun_ext (λ u. ap a (name_order low high u s.order))
    by (inr p) =
        ap₂ (λ (x y : ℕ). closed_up (closed x y) (closed_up x a)) (sym p.1) (sym p.0)
        ∙ ap (λ x. closed_up x (closed_up high a)) (name_same low high s.order)

falses_sorted : (v w low high : ℕ) (a : Assignment) → w ≢ v → Sorted v w low high → with_value (with_value a low false) high false ≡ with_value (with_value a w false) v false
falses_sorted v w low high a d s = by s.are
  where
    by : ((low ≡ v) × (high ≡ w)) ⊎ ((low ≡ w) × (high ≡ v)) → with_value (with_value a low false) high false ≡ with_value (with_value a w false) v false
    by (inl p) = ap₂ (λ (x y : ℕ). with_value (with_value a x false) y false) p.0 p.1 ∙ with_swap a w v false false d
    by (inr p) = ap₂ (λ (x y : ℕ). with_value (with_value a x false) y false) p.0 p.1

free_sorted : (v w low high : ℕ) (ts : List Term) → Sorted v w low high → phase_occurs v ts ≡ false → phase_occurs w ts ≡ false → (phase_occurs low ts ≡ false) × (phase_occurs high ts ≡ false)
free_sorted v w low high ts s n m = by s.are
  where
    by : ((low ≡ v) × (high ≡ w)) ⊎ ((low ≡ w) × (high ≡ v)) → (phase_occurs low ts ≡ false) × (phase_occurs high ts ≡ false)
    by (inl p) = (ap (λ x. phase_occurs x ts) p.0 ∙ n, ap (λ x. phase_occurs x ts) p.1 ∙ m)
    by (inr p) = (ap (λ x. phase_occurs x ts) p.0 ∙ m, ap (λ x. phase_occurs x ts) p.1 ∙ n)

pub outs_free_sorted : (v w low high : ℕ) (fs : List (List (List ℕ))) → Sorted v w low high → outs_occur v fs ≡ false → outs_occur w fs ≡ false → (outs_occur low fs ≡ false) × (outs_occur high fs ≡ false)
outs_free_sorted v w low high fs s n m = by s.are
  where
    by : ((low ≡ v) × (high ≡ w)) ⊎ ((low ≡ w) × (high ≡ v)) → (outs_occur low fs ≡ false) × (outs_occur high fs ≡ false)
    by (inl p) = (ap (λ x. outs_occur x fs) p.0 ∙ n, ap (λ x. outs_occur x fs) p.1 ∙ m)
    by (inr p) = (ap (λ x. outs_occur x fs) p.0 ∙ m, ap (λ x. outs_occur x fs) p.1 ∙ n)

high_small : (v w low high b : ℕ) → Sorted v w low high → v < b → w < b → high < b
high_small v w low high b s h k = by s.are
  where
    by : ((low ≡ v) × (high ≡ w)) ⊎ ((low ≡ w) × (high ≡ v)) → high < b
    by (inl p) = let e = p.1 in omega arith
    by (inr p) = let e = p.1 in omega arith

-- both dropped and closed up
abbrev pub settled : ℕ → List Term → List Term
settled v ts = closed_terms v (terms_without v ts)

open_test : (low high u : ℕ) → low < high → nat_eq u low ≡ nat_eq (rings.opened high u) low
unfolding rings.opened
open_test low high u h = grind (arith, nat_tests)

closing_false : (low high : ℕ) (a : Assignment) → low < high → with_value (closed_up high a) low false ≡ closed_up high (with_value a low false)
closing_false low high a h = fun_ext (λ u. ap (λ (b : Bool). cond b false (a (rings.opened high u))) (test u))
  where
    test : (u : ℕ) → nat_eq u low ≡ nat_eq (rings.opened high u) low
    test u = open_test low high u h

settled_twice : (low high : ℕ) (ts : List Term) (a : Assignment) → low < high → phase_value (settled low (settled high ts)) (closed_up low (closed_up high a)) ≡ phase_value ts (with_value (with_value a low false) high false)
settled_twice low high ts a h =
    settled_value low (settled high ts) (closed_up high a) ∙ ap (phase_value (settled high ts)) (closing_false low high a h) ∙ settled_value high ts (with_value a low false)

settled_apart : (low high : ℕ) (ts : List Term) (a : Assignment) → low < high → phase_occurs low ts ≡ false → phase_occurs high ts ≡ false → phase_value (settled low (settled high ts)) (closed_up low (closed_up high a)) ≡ phase_value ts a
settled_apart low high ts a h n m = settled_twice low high ts a h ∙ phase_apart high ts (with_value a low false) false m ∙ phase_apart low ts a false n

twice_under : (low high b : ℕ) (ts : List Term) → low < high → high < suc (suc b) → Under (suc (suc b)) ts → Under b (settled low (settled high ts))
twice_under low high b ts h k f = settled_under low b (settled high ts) (omega arith) (settled_under high (suc b) ts k f)

open_low : (low high : ℕ) → low < high → opened high low ≡ low
unfolding opened
open_low low high h = grind (arith, nat_tests)

pub low_free : (low high : ℕ) (fs : List (List (List ℕ))) → low < high → outs_occur low fs ≡ false → outs_occur high fs ≡ false → outs_occur low (closed_polys high fs) ≡ false
low_free low high fs h n m = outs_closed high low fs m ∙ ap (λ x. outs_occur x fs) (open_low low high h) ∙ n

-- ---- what Hh is made of
pub record HhParts (S : PathSum) (y0 y1 : ℕ) (q : List (List ℕ)) (low high : ℕ) (products old added phase : List Term) (replaced outs : List (List (List ℕ))) : Type 0 where
  pub sorted : Sorted (S.n + y0) (S.n + y1) low high
  pub product_value : (a : Assignment) → phase_value products a % 4294967296 ≡ phase_value (terms_without (S.n + y0) (terms_with (S.n + y1) S.phase)) (with_value a (S.n + y1) (bool_value q a)) % 4294967296
  pub product_known : (u : ℕ) → (phase_occurs u (terms_without (S.n + y0) (terms_with (S.n + y1) S.phase)) && not (nat_eq u (S.n + y1))) ≡ false → occurs u q ≡ false → phase_occurs u products ≡ false
  pub old_is : old ≡ settled low (settled high S.phase)
  pub added_is : added ≡ settled low (settled high products)
  pub phase_value_is : (a : Assignment) → phase_value phase a % 4294967296 ≡ (phase_value old a + phase_value added a) % 4294967296
  pub phase_known : (u : ℕ) → phase_occurs u phase ≡ true → (phase_occurs u old || phase_occurs u added) ≡ true
  pub phase_form : IsPhasePoly phase
  pub replaced_is : IsReplaced (S.n + y1) q S.outs replaced
  pub outs_are : outs ≡ closed_polys low (closed_polys high replaced)

and_left : (p q : Bool) → p ≡ false → (p && q) ≡ false
and_left p q e = ap (λ b. b && q) e

and_right : (p q : Bool) → q ≡ true → (p && not q) ≡ false
and_right true q e = ap not e
and_right false q e = refl

with_free : (w u : ℕ) (ts : List Term) → phase_occurs u ts ≡ false → phase_occurs u (terms_where true w ts) ≡ false
unfolding terms_where phase_occurs
with_free w u [] n = n
with_free w u (t ∷ ts) n = let k = neither (stands u t.mono) (phase_occurs u ts) n in by (differ true (stands w t.mono)) k.0 (with_free w u ts k.1)
  where
    by : (q : Bool) → stands u t.mono ≡ false → phase_occurs u (terms_where true w ts) ≡ false → phase_occurs u (cond q (terms_where true w ts) (t ∷ terms_where true w ts)) ≡ false
    by true s r = r
    by false s r = no_or _ _ s r

apart_names : (n y0 y1 : ℕ) → y1 ≢ y0 → n + y1 ≢ n + y0
apart_names n y0 y1 d e = d (omega arith)

-- the products know neither variable, nor do the outputs
products_free : (S : PathSum) (y0 y1 : ℕ) (q : List (List ℕ)) (low high : ℕ) (products old added phase : List Term) (replaced outs : List (List (List ℕ))) → IsQuotient S (Hh y0 y1) q → HhParts S y0 y1 q low high products old added phase replaced outs → (phase_occurs (S.n + y0) products ≡ false) × (phase_occurs (S.n + y1) products ≡ false)
products_free S y0 y1 q low high products old added phase replaced outs d p = (
  p.product_known (S.n + y0) (and_left _ _ (none_left (S.n + y0) (terms_with (S.n + y1) S.phase))) d.first_free,
  p.product_known (S.n + y1) (and_right _ _ (nat_eq_same (S.n + y1))) d.second_free,
)

pub replaced_free : (S : PathSum) (y0 y1 : ℕ) (q : List (List ℕ)) (replaced : List (List (List ℕ))) → HhApplies S y0 y1 → IsQuotient S (Hh y0 y1) q → IsReplaced (S.n + y1) q S.outs replaced → (outs_occur (S.n + y0) replaced ≡ false) × (outs_occur (S.n + y1) replaced ≡ false)
replaced_free S y0 y1 q replaced h d r = (
  r.known (S.n + y0) (and_left _ _ h.inner.silent) d.first_free,
  r.known (S.n + y1) (and_right _ _ (nat_eq_same (S.n + y1))) d.second_free,
)

-- the phase, where v and w are the variables and b the value of the polynomial
hh_sum : (n k x r s : ℕ) → n % 4294967296 ≡ (k + x) % 4294967296 → k ≡ r → x % 4294967296 ≡ s % 4294967296 → n % 4294967296 ≡ (r + s) % 4294967296
hh_sum n k x r s e f g = omega arith

split_at_false : (v w : ℕ) (ts : List Term) (a : Assignment) (b : Bool) → w ≢ v
    → phase_value ts (with_value (with_value a w false) v false) + phase_value (terms_without v (terms_with w ts)) (with_value a w b) ≡ phase_value ts (with_value (with_value a w b) v false)
split_at_false v w ts a b d =
    let c = with_value (with_value a w b) v false in
    let e : phase_value ts (with_value (with_value a w false) v false) ≡ phase_value (terms_without w ts) c =
    ap (phase_value ts) (ap (λ x. with_value x v false) (sym (with_over a w false b)) ∙ sym (with_swap (with_value a w b) w v false false d)) ∙ sym (without_false w ts c)
    in
    ap₂ (λ (x y : ℕ). x + y) e (without_false v (terms_with w ts) (with_value a w b)) ∙ split_value w ts c

pub hh_kept : (S : PathSum) (y0 y1 : ℕ) (q : List (List ℕ)) (low high : ℕ) (products old added phase : List Term) (replaced outs : List (List (List ℕ))) → HhApplies S y0 y1 → IsQuotient S (Hh y0 y1) q → HhParts S y0 y1 q low high products old added phase replaced outs → Kept S.n (S.m - 2) phase outs
hh_kept S y0 y1 q low high products old added phase replaced outs h d p =
    let b : S.n + S.m ≡ suc (suc (S.n + (S.m - 2))) = (let i = h.inner.inside in let j = h.second in let k = h.apart in omega arith) in
    let l : high < suc (suc (S.n + (S.m - 2))) = high_small (S.n + y0) (S.n + y1) low high _ p.sorted (let i = h.inner.inside in omega arith) (let i = h.second in omega arith) in
    let f = replaced_free S y0 y1 q replaced h d p.replaced_is in
    let g = outs_free_sorted (S.n + y0) (S.n + y1) low high replaced p.sorted f.0 f.1 in
    let under : OutsUnder (S.n + S.m) replaced = (λ u k. p.replaced_is.known u (and_left _ _ (S.outs_below u k)) (d.known u (S.phase_below u k))) in
    record {
      phase_below =
          sum_under (S.n + (S.m - 2)) old added phase p.phase_known (subst (Under (S.n + (S.m - 2))) (sym p.old_is) (twice_under low high (S.n + (S.m - 2)) S.phase p.sorted.order l (under_is (S.n + S.m) _ S.phase b S.phase_below)))
          (subst (Under (S.n + (S.m - 2))) (sym p.added_is) (twice_under low high (S.n + (S.m - 2)) products p.sorted.order l (under_is (S.n + S.m) _ products b (λ u k. p.product_known u (and_left _ _ (without_free (S.n + y0) u (terms_with (S.n + y1) S.phase) (with_free (S.n + y1) u S.phase (S.phase_below u k)))) (d.known u (S.phase_below u k))))));
      outs_below =
          subst (OutsUnder (S.n + (S.m - 2))) (sym p.outs_are)
          (polys_under low (S.n + (S.m - 2)) (closed_polys high replaced) (let o = p.sorted.order in omega arith) (low_free low high replaced p.sorted.order g.0 g.1)
          (polys_under high (suc (S.n + (S.m - 2))) replaced l g.1 (outs_under_is (S.n + S.m) _ replaced b under)));
      width = λ k.
          let e = ap (λ (r : List (List (List ℕ))). length r) p.outs_are ∙ length_polys low (closed_polys high replaced) ∙ length_polys high replaced ∙ p.replaced_is.size in
          e ∙ S.width (omega (arith, e));
      formed = (p.phase_form, subst AllPolys (sym p.outs_are) (polys_closed low (closed_polys high replaced) (low_free low high replaced p.sorted.order g.0 g.1) (polys_closed high replaced g.1 p.replaced_is.form)));
    }

pub hh_taken : (S T : PathSum) (y0 y1 : ℕ) (q : List (List ℕ)) (low high : ℕ) (products old added : List Term) (replaced : List (List (List ℕ))) → HhApplies S y0 y1 → IsQuotient S (Hh y0 y1) q → T.n ≡ S.n → T.m ≡ S.m - 2 → T.k +ℤ pos 2 ≡ S.k → HhParts S y0 y1 q low high products old added T.phase replaced T.outs → HhApplied S y0 y1 T
hh_taken S T y0 y1 q low high products old added replaced h d en em ek p = (
  record { n_is = en; m_is = (let i = h.inner.inside in let j = h.second in let k = h.apart in omega arith); k_is = ek },
  record {
    phase_is = λ a.
        let v = S.n + y0 in
        let w = S.n + y1 in
        let b = bool_value q a in
        let f = products_free S y0 y1 q low high products old added T.phase replaced T.outs d p in
        let g = free_sorted v w low high products p.sorted f.0 f.1 in
        let n = apart_names S.n y0 y1 h.apart in
        ap (λ c. phase_value T.phase c % 4294967296) (names_sorted v w low high a p.sorted)
        ∙ hh_sum _ _ _ (phase_value S.phase (with_value (with_value a w false) v false)) (phase_value (terms_without v (terms_with w S.phase)) (with_value a w b)) (p.phase_value_is (closed_up low (closed_up high a)))
        (ap (λ (r : List Term). phase_value r (closed_up low (closed_up high a))) p.old_is ∙ settled_twice low high S.phase a p.sorted.order ∙ ap (phase_value S.phase) (falses_sorted v w low high a n p.sorted))
        (ap (λ (r : List Term). phase_value r (closed_up low (closed_up high a)) % 4294967296) p.added_is ∙ ap (λ c. c % 4294967296) (settled_apart low high products a p.sorted.order g.0 g.1) ∙ p.product_value a)
        ∙ ap (λ c. c % 4294967296) (split_at_false v w S.phase a b n)
        ∙ ap (λ c. phase_value S.phase (with_value (with_value a w c) v false) % 4294967296) (d.poly.value a);
    outs_is = λ a.
        let v = S.n + y0 in
        let w = S.n + y1 in
        let f = replaced_free S y0 y1 q replaced h d p.replaced_is in
        let g = outs_free_sorted v w low high replaced p.sorted f.0 f.1 in
        ap (λ c. values T.outs c) (names_sorted v w low high a p.sorted) ∙ ap (λ (r : List (List (List ℕ))). values r (closed_up low (closed_up high a))) p.outs_are
        ∙ polys_read low (closed_polys high replaced) (closed_up high a) (low_free low high replaced p.sorted.order g.0 g.1) ∙ polys_read high replaced a g.1 ∙ p.replaced_is.value a
        ∙ ap (λ c. values S.outs (with_value a w c)) (d.poly.value a);
  },
)

-- the products as the call gives them
pub into_value : (S : PathSum) (y0 y1 : ℕ) (q : List (List ℕ)) (into products : List Term) → into ≡ terms_without (S.n + y0) (terms_with (S.n + y1) S.phase)
    → ((a : Assignment) → phase_value products a % 4294967296 ≡ phase_value into (with_value a (S.n + y1) (bool_value q a)) % 4294967296)
    → (a : Assignment) → phase_value products a % 4294967296 ≡ phase_value (terms_without (S.n + y0) (terms_with (S.n + y1) S.phase)) (with_value a (S.n + y1) (bool_value q a)) % 4294967296
into_value S y0 y1 q into products e f a = f a ∙ ap (λ (r : List Term). phase_value r (with_value a (S.n + y1) (bool_value q a)) % 4294967296) e

pub into_known : (S : PathSum) (y0 y1 : ℕ) (q : List (List ℕ)) (into products : List Term) → into ≡ terms_without (S.n + y0) (terms_with (S.n + y1) S.phase)
    → ((u : ℕ) → (phase_occurs u into && not (nat_eq u (S.n + y1))) ≡ false → occurs u q ≡ false → phase_occurs u products ≡ false)
    → (u : ℕ) → (phase_occurs u (terms_without (S.n + y0) (terms_with (S.n + y1) S.phase)) && not (nat_eq u (S.n + y1))) ≡ false → occurs u q ≡ false → phase_occurs u products ≡ false
into_known S y0 y1 q into products e f u h k = f u (ap (λ (r : List Term). phase_occurs u r && not (nat_eq u (S.n + y1))) e ∙ h) k

-- the parts as the calls give them
pub hh_parts : (S : PathSum) (y0 y1 : ℕ) (q : List (List ℕ)) (low high : ℕ) (products inner added outer old phase : List Term) (replaced mid outs : List (List (List ℕ))) → HhApplies S y0 y1 → high ≡ max (S.n + y0) (S.n + y1) → low ≡ min (S.n + y0) (S.n + y1)
    → ((a : Assignment) → phase_value products a % 4294967296 ≡ phase_value (terms_without (S.n + y0) (terms_with (S.n + y1) S.phase)) (with_value a (S.n + y1) (bool_value q a)) % 4294967296)
    → ((u : ℕ) → (phase_occurs u (terms_without (S.n + y0) (terms_with (S.n + y1) S.phase)) && not (nat_eq u (S.n + y1))) ≡ false → occurs u q ≡ false → phase_occurs u products ≡ false)
    → inner ≡ settled high products → added ≡ settled low inner → outer ≡ settled high S.phase → old ≡ settled low outer
    → ((a : Assignment) → phase_value phase a % 4294967296 ≡ (phase_value old a + phase_value added a) % 4294967296) → ((u : ℕ) → phase_occurs u phase ≡ true → (phase_occurs u old || phase_occurs u added) ≡ true) → IsPhasePoly phase
    → IsReplaced (S.n + y1) q S.outs replaced → mid ≡ closed_polys high replaced → outs ≡ closed_polys low mid → HhParts S y0 y1 q low high products old added phase replaced outs
hh_parts S y0 y1 q low high products inner added outer old phase replaced mid outs h eh el pv pk ei ea eo ed fv fk ff r em eu = record {
  sorted = sorted_of (S.n + y0) (S.n + y1) low high (apart_names S.n y0 y1 h.apart) eh el;
  product_value = pv;
  product_known = pk;
  old_is = ed ∙ ap (settled low) eo;
  added_is = ea ∙ ap (settled low) ei;
  phase_value_is = fv;
  phase_known = fk;
  phase_form = ff;
  replaced_is = r;
  outs_are = eu ∙ ap (closed_polys low) em;
}

-- what the calls on the terms and the outputs ask
pub products_under : (S : PathSum) (y0 y1 : ℕ) (q : List (List ℕ)) (products : List Term) → IsQuotient S (Hh y0 y1) q
    → ((u : ℕ) → (phase_occurs u (terms_without (S.n + y0) (terms_with (S.n + y1) S.phase)) && not (nat_eq u (S.n + y1))) ≡ false → occurs u q ≡ false → phase_occurs u products ≡ false) → Under (S.n + S.m) products
products_under S y0 y1 q products d f u k = f u (and_left _ _ (without_free (S.n + y0) u (terms_with (S.n + y1) S.phase) (with_free (S.n + y1) u S.phase (S.phase_below u k)))) (d.known u (S.phase_below u k))

pub outs_under : (S : PathSum) (y1 : ℕ) (q : List (List ℕ)) (replaced : List (List (List ℕ))) → ((u : ℕ) → phase_occurs u S.phase ≡ false → occurs u q ≡ false) → IsReplaced (S.n + y1) q S.outs replaced → OutsUnder (S.n + S.m) replaced
outs_under S y1 q replaced f r u k = r.known u (and_left _ _ (S.outs_below u k)) (f u (S.phase_below u k))

pub sorted_outs : (S : PathSum) (y0 y1 : ℕ) (q : List (List ℕ)) (low high : ℕ) (replaced : List (List (List ℕ))) → HhApplies S y0 y1 → IsQuotient S (Hh y0 y1) q → high ≡ max (S.n + y0) (S.n + y1) → low ≡ min (S.n + y0) (S.n + y1) → IsReplaced (S.n + y1) q S.outs replaced → (outs_occur low replaced ≡ false) × (outs_occur high replaced ≡ false)
sorted_outs S y0 y1 q low high replaced h d eh el r =
    let f = replaced_free S y0 y1 q replaced h d r in
    outs_free_sorted (S.n + y0) (S.n + y1) low high replaced (sorted_of (S.n + y0) (S.n + y1) low high (apart_names S.n y0 y1 h.apart) eh el) f.0 f.1
