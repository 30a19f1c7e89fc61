-- The polynomial of a step.
use Rattle.std.proofs.Common.{◌≡◌, ◌≢◌, ℕ, zero, suc, ◌+◌, refl, ap, ap₂, sym, ◌∙◌, subst, arith, ◌<◌, ◌≤◌, Bool, true, false, cond, not, nat_eq, nat_lt, ◌&&◌, ◌||◌, List, [], ◌∷◌, ◌++◌, length, take, get_or, ◌⊎◌, inl, inr}
use Rattle.std.specs.Cmp.Lexicographic.{pointwise}
use Rattle.std.proofs.lemmas.Bool.{cases_lt}
use Rattle.std.proofs.lemmas.Bool.Decides.{nat_tests}
use Rattle.std.proofs.lemmas.List.{take_more, take_all}
use Rattle.ps_mono.specs.Sets.{holds, stands, IsVarSet}
use Rattle.ps_mono.specs.Lists.{nat_eq_same, nat_eq_other, same_set}
use Rattle.ps_mono.specs.Truth.{differ, with_value}
use Rattle.ps_mono.proofs.Laws.{climbing_set}
use Rattle.ps_bool.specs.Polys.{bool_value, occurs, IsPoly}
use Rattle.ps_bool.proofs.Bools.{differ_comm}
use Rattle.ps_bool.proofs.Replacing.{holds_replaced}
use Rattle.ps_bool.proofs.Products.{occurs-push}
use Rattle.ps_phase.specs.declared.terms.Term.{Term}
use Rattle.ps_phase.specs.Phases.{phase_occurs, coefficient}
use Rattle.ps_phase.proofs.Adding.{neither, no_or}
use Rattle.ps_sum.specs.declared.sums.PathSum.{PathSum}
use Rattle.ps_sum.proofs.Lifts.{bool_push}
use Rattle.ps_rules.specs.declared.steps.Step.TheVariants.{Elim, Hh, Omega}
use Rattle.ps_rules.specs.Terms.{both, others}
use Rattle.ps_rules.specs.Rules.{HhApplies}
use Rattle.ps_rules.specs.Plans.{IsQuotient}
use Rattle.ps_rules.proofs.Keeps.{others_free}

off : {b : Bool} → b ≡ true → b ≡ false → ⊥
off e f = cc

never : (p q : Bool) → (p ≡ true → q ≡ true) → q ≡ false → p ≡ false
never true q f n = absurd (off (f refl) n)
never false q f n = refl

-- ---- the product of two variables
both_stands : (u v w : ℕ) → stands w (both u v) ≡ (nat_eq w u || nat_eq w v)
unfolding both stands
both_stands u v w = by (nat_lt u v)
  where
    swap : (p q : Bool) → (p || (q || false)) ≡ (q || p)
    swap true true = refl
    swap true false = refl
    swap false true = refl
    swap false false = refl

    end : (p q : Bool) → (p || (q || false)) ≡ (p || q)
    end true q = refl
    end false true = refl
    end false false = refl

    by : (b : Bool) → stands w (cond b (u ∷ v ∷ []) (v ∷ u ∷ [])) ≡ (nat_eq w u || nat_eq w v)
    by true = end (nat_eq w u) (nat_eq w v)
    by false = swap (nat_eq w v) (nat_eq w u)

both_set : (u v : ℕ) → u < 512 → v < 512 → v ≢ u → IsVarSet (both u v)
unfolding both
both_set u v h k d = by (cases_lt u v)
  where
    by : ((u < v) ⊎ (v ≤ u)) → IsVarSet (cond (nat_lt u v) (u ∷ v ∷ []) (v ∷ u ∷ []))
    by (inl l) = let e : nat_lt u v ≡ true = grind (arith, nat_tests) in subst (λ (t : Bool). IsVarSet (cond t (u ∷ v ∷ []) (v ∷ u ∷ []))) (sym e) (climbing_set (u ∷ v ∷ []) ((l, tt), (tt, tt)) (h, (k, tt)))
    by (inr l) =
        let e : nat_lt u v ≡ false = grind (arith, nat_tests) in
        let m : v < u = omega arith in
        subst (λ (t : Bool). IsVarSet (cond t (u ∷ v ∷ []) (v ∷ u ∷ []))) (sym e) (climbing_set (v ∷ u ∷ []) ((m, tt), (tt, tt)) (k, (h, tt)))

stands_one : (w u : ℕ) → stands w (u ∷ []) ≡ nat_eq w u
unfolding stands
stands_one w u = or_none (nat_eq w u)
  where
    or_none : (b : Bool) → (b || false) ≡ b
    or_none true = refl
    or_none false = refl

pub product_is : (u v : ℕ) (m k p : List ℕ) → u < 512 → v < 512 → v ≢ u → m ≡ u ∷ [] → k ≡ v ∷ [] → ((w : ℕ) → stands w p ≡ (stands w m || stands w k)) → IsVarSet p → p ≡ both u v
product_is u v m k p hu hv d em ek f s = same_set p (both u v) s (both_set u v hu hv d) (λ w. f w ∙ ap₂ (λ (x y : Bool). x || y) (ap (stands w) em ∙ stands_one w u) (ap (stands w) ek ∙ stands_one w v) ∙ sym (both_stands u v w))

-- ---- the other terms
others_push : (v : ℕ) (m : List ℕ) (ts : List Term) (t : Term) → others v m (ts ++ t ∷ []) ≡ others v m ts ++ cond (stands v t.mono && not (pointwise nat_eq m t.mono)) (t.mono ∷ []) []
unfolding others
others_push v m [] t = refl
others_push v m (x ∷ ts) t = by (stands v x.mono && not (pointwise nat_eq m x.mono)) (others_push v m ts t)
  where
    end : List (List ℕ)
    end = cond (stands v t.mono && not (pointwise nat_eq m t.mono)) (t.mono ∷ []) []

    by : (b : Bool) → others v m (ts ++ t ∷ []) ≡ others v m ts ++ end → cond b (x.mono ∷ others v m (ts ++ t ∷ [])) (others v m (ts ++ t ∷ [])) ≡ cond b (x.mono ∷ others v m ts) (others v m ts) ++ end
    by true e = ap (λ (r : List (List ℕ)). x.mono ∷ r) e
    by false e = e

append_none : (f : List (List ℕ)) → f ++ [] ≡ f
append_none [] = refl
append_none (m ∷ f) = ap (λ (r : List (List ℕ)). m ∷ r) (append_none f)

others_more : (v : ℕ) (m : List ℕ) (ts : List Term) (i : ℕ) (t : Term) → i < length ts → t ≡ get_or ts i t → others v m (take (i + 1) ts) ≡ others v m (take i ts) ++ cond (stands v t.mono && not (pointwise nat_eq m t.mono)) (t.mono ∷ []) []
others_more v m ts i t h e = ap (others v m) (take_more ts i t h ∙ ap (λ (r : Term). take i ts ++ r ∷ []) (sym e)) ∙ others_push v m (take i ts) t

others_get : (u v : ℕ) (m : List ℕ) (ts : List Term) (i : ℕ) (t : Term) → i < length ts → t ≡ get_or ts i t → (stands v t.mono && not (pointwise nat_eq m t.mono)) ≡ true → occurs u (others v m ts) ≡ false → stands u t.mono ≡ false
unfolding others occurs
others_get u v m [] i t h e k o = absurd (omega arith)
others_get u v m (x ∷ ts) zero t h e k o =
    let test : (stands v x.mono && not (pointwise nat_eq m x.mono)) ≡ true = ap (λ (y : Term). stands v y.mono && not (pointwise nat_eq m y.mono)) (sym e) ∙ k in
    ap (λ (y : Term). stands u y.mono) e ∙ (neither (stands u x.mono) (occurs u (others v m ts)) (ap (λ b. occurs u (cond b (x.mono ∷ others v m ts) (others v m ts))) (sym test) ∙ o)).0
others_get u v m (x ∷ ts) (suc i) t h e k o = by (stands v x.mono && not (pointwise nat_eq m x.mono)) o (others_get u v m ts i t (omega arith) e k)
  where
    by : (b : Bool) → occurs u (cond b (x.mono ∷ others v m ts) (others v m ts)) ≡ false → (occurs u (others v m ts) ≡ false → stands u t.mono ≡ false) → stands u t.mono ≡ false
    by true p r = r (neither (stands u x.mono) (occurs u (others v m ts)) p).1
    by false p r = r p

others_known : (u v : ℕ) (m : List ℕ) (ts : List Term) → phase_occurs u ts ≡ false → occurs u (others v m ts) ≡ false
unfolding others occurs phase_occurs
others_known u v m [] o = refl
others_known u v m (t ∷ ts) o = let k = neither (stands u t.mono) (phase_occurs u ts) o in by (stands v t.mono && not (pointwise nat_eq m t.mono)) k.0 (others_known u v m ts k.1)
  where
    by : (b : Bool) → stands u t.mono ≡ false → occurs u (others v m ts) ≡ false → occurs u (cond b (t.mono ∷ others v m ts) (others v m ts)) ≡ false
    by true n r = no_or _ _ n r
    by false n r = r

-- ---- the loop of `others_of`
pub record Dividing (v : ℕ) (m : List ℕ) (ts : List Term) (i : ℕ) (out : List (List ℕ)) : Type 0 where
  pub value : (a : ℕ → Bool) → bool_value out a ≡ bool_value (others v m (take i ts)) (with_value a v true)
  pub known : (u : ℕ) → occurs u (others v m ts) ≡ false → occurs u out ≡ false
  pub free : occurs v out ≡ false

pub dividing_start : (v : ℕ) (m : List ℕ) (ts : List Term) (out : List (List ℕ)) → out ≡ [] → Dividing v m ts 0 out
unfolding others bool_value occurs
dividing_start v m ts out e = record { value = λ a. ap (λ (r : List (List ℕ)). bool_value r a) e; known = λ u o. ap (occurs u) e; free = ap (occurs v) e }

and_end : (b : Bool) → (b && true) ≡ b
and_end true = refl
and_end false = refl

first_true : (p q : Bool) → (p && q) ≡ true → p ≡ true
first_true true q e = refl
first_true false q e = absurd (off e refl)

and_none : (p q : Bool) → p ≡ false → (p && q) ≡ false
and_none p q e = ap (λ b. b && q) e

and_not : (p q : Bool) → q ≡ true → (p && not q) ≡ false
and_not true q e = ap not e
and_not false q e = refl

pub dividing_more : (v : ℕ) (m : List ℕ) (ts : List Term) (i : ℕ) (t : Term) (r : List ℕ) (b : Bool) (out out' : List (List ℕ)) → i < length ts → t ≡ get_or ts i t → b ≡ (stands v t.mono && not (pointwise nat_eq m t.mono)) → b ≡ true → ((w : ℕ) → stands w r ≡ (stands w t.mono && not (nat_eq w v)))
    → out' ≡ out ++ r ∷ [] → Dividing v m ts i out → Dividing v m ts (i + 1) out'
dividing_more v m ts i t r b out out' h e eb y er eo s = record {
  value = λ a.
      let q : (stands v t.mono && not (pointwise nat_eq m t.mono)) ≡ true = sym eb ∙ y in
      ap (λ (x : List (List ℕ)). bool_value x a) eo ∙ bool_push out r a
      ∙ ap₂ differ (s.value a) (sym (and_end (holds r a)) ∙ sym (holds_replaced t.mono r v a true er (first_true _ _ q)))
      ∙ sym (ap (λ (x : List (List ℕ)). bool_value x (with_value a v true)) (others_more v m ts i t h e ∙ ap (λ (c : Bool). others v m (take i ts) ++ cond c (t.mono ∷ []) []) q) ∙ bool_push (others v m (take i ts)) t.mono (with_value a v true));
  known = λ u o. ap (occurs u) eo ∙ occurs-push u out r (s.known u o) (er u ∙ and_none _ _ (others_get u v m ts i t h e (sym eb ∙ y) o));
  free = ap (occurs v) eo ∙ occurs-push v out r s.free (er v ∙ and_not _ _ (nat_eq_same v));
}

pub dividing_skip : (v : ℕ) (m : List ℕ) (ts : List Term) (i : ℕ) (t : Term) (b : Bool) (out out' : List (List ℕ)) → i < length ts → t ≡ get_or ts i t → b ≡ (stands v t.mono && not (pointwise nat_eq m t.mono)) → b ≡ false → out' ≡ out → Dividing v m ts i out → Dividing v m ts (i + 1) out'
dividing_skip v m ts i t b out out' h e eb n eo s = record {
  value = λ a.
      let q : (stands v t.mono && not (pointwise nat_eq m t.mono)) ≡ false = sym eb ∙ n in
      ap (λ (x : List (List ℕ)). bool_value x a) eo ∙ s.value a
      ∙ sym (ap (λ (x : List (List ℕ)). bool_value x (with_value a v true)) (others_more v m ts i t h e ∙ ap (λ (c : Bool). others v m (take i ts) ++ cond c (t.mono ∷ []) []) q ∙ append_none (others v m (take i ts))));
  known = λ u o. ap (occurs u) eo ∙ s.known u o;
  free = ap (occurs v) eo ∙ s.free;
}

pub dividing_end : (v : ℕ) (m : List ℕ) (ts : List Term) (i : ℕ) (out : List (List ℕ)) → length ts ≤ i → Dividing v m ts i out → (a : ℕ → Bool) → bool_value out a ≡ bool_value (others v m ts) (with_value a v true)
dividing_end v m ts i out h s a = s.value a ∙ ap (λ (r : List Term). bool_value (others v m r) (with_value a v true)) (take_all i ts h)

-- ---- each step's
pub elim_quotient : (S : PathSum) (y0 : ℕ) (q : List (List ℕ)) → q ≡ [] → IsQuotient S (Elim y0) q
unfolding bool_value occurs
elim_quotient S y0 q e = record {
  poly = record { form = subst IsPoly (sym e) (record { in_order = tt; sets = tt }); value = λ a. ap (λ (r : List (List ℕ)). bool_value r a) e };
  first_free = ap (occurs (S.n + y0)) e;
  second_free = tt;
  known = λ u o. ap (occurs u) e;
}

-- what the sum of the collected monomials is
pub record Collected (v : ℕ) (m : List ℕ) (ts : List Term) (out q : List (List ℕ)) : Type 0 where
  pub value : (a : ℕ → Bool) → bool_value out a ≡ bool_value (others v m ts) (with_value a v true)
  pub known : (u : ℕ) → occurs u (others v m ts) ≡ false → occurs u out ≡ false
  pub free : occurs v out ≡ false
  pub form : IsPoly q

pub hh_quotient : (S : PathSum) (y0 y1 : ℕ) (m : List ℕ) (ts : List Term) (out q : List (List ℕ)) → HhApplies S y0 y1 → m ≡ both (S.n + y0) (S.n + y1) → ts ≡ S.phase → Collected (S.n + y0) m ts out q
    → ((a : ℕ → Bool) → bool_value q a ≡ bool_value out a) → ((u : ℕ) → occurs u q ≡ true → occurs u out ≡ true) → IsQuotient S (Hh y0 y1) q
hh_quotient S y0 y1 m ts out q h em et c qv qo =
    let v = S.n + y0 in
    let w = S.n + y1 in
    let e : others v m ts ≡ others v (both v w) S.phase = ap₂ (others v) em et in
    record {
      poly = record { form = c.form; value = λ a. qv a ∙ c.value a ∙ ap (λ (r : List (List ℕ)). bool_value r (with_value a v true)) e };
      first_free = never _ _ (qo v) c.free;
      second_free = never _ _ (qo w) (c.known w (ap (occurs w) e ∙ others_free v w (both v w) S.phase h.lone));
      known = λ u o. never _ _ (qo u) (c.known u (ap (occurs u) e ∙ others_known u v (both v w) S.phase o));
    }

-- one more where the variable alone turns by three quarters
one_more : (v : ℕ) (out out' : List (List ℕ)) (k : List ℕ) (b : Bool) (a : ℕ → Bool) → ((b ≡ true) × (k ≡ []) × (out' ≡ out ++ k ∷ [])) ⊎ ((b ≡ false) × (out' ≡ out)) → bool_value out' a ≡ differ b (bool_value out a)
unfolding holds differ
one_more v out out' k b a (inl p) = ap (λ (r : List (List ℕ)). bool_value r a) p.2 ∙ bool_push out k a ∙ ap (λ (r : List ℕ). differ (bool_value out a) (holds r a)) p.1 ∙ differ_comm (bool_value out a) true ∙ ap (λ c. differ c (bool_value out a)) (sym p.0)
one_more v out out' k b a (inr p) = ap (λ (r : List (List ℕ)). bool_value r a) p.1 ∙ none (bool_value out a) ∙ ap (λ c. differ c (bool_value out a)) (sym p.0)
  where
    none : (c : Bool) → c ≡ differ false c
    none true = refl
    none false = refl

one_free : (u : ℕ) (out out' : List (List ℕ)) (k : List ℕ) (b : Bool) → ((b ≡ true) × (k ≡ []) × (out' ≡ out ++ k ∷ [])) ⊎ ((b ≡ false) × (out' ≡ out)) → occurs u out ≡ false → occurs u out' ≡ false
unfolding stands
one_free u out out' k b (inl p) o = ap (occurs u) p.2 ∙ occurs-push u out k o (ap (stands u) p.1)
one_free u out out' k b (inr p) o = ap (occurs u) p.1 ∙ o

pub omega_quotient : (S : PathSum) (y0 : ℕ) (m k : List ℕ) (ts : List Term) (out out' q : List (List ℕ)) (b : Bool) → m ≡ (S.n + y0) ∷ [] → ts ≡ S.phase → Collected (S.n + y0) m ts out q → b ≡ nat_eq (coefficient ((S.n + y0) ∷ []) S.phase) 3221225472
    → ((b ≡ true) × (k ≡ []) × (out' ≡ out ++ k ∷ [])) ⊎ ((b ≡ false) × (out' ≡ out)) → ((a : ℕ → Bool) → bool_value q a ≡ bool_value out' a) → ((u : ℕ) → occurs u q ≡ true → occurs u out' ≡ true) → IsQuotient S (Omega y0) q
omega_quotient S y0 m k ts out out' q b em et c eb o qv qo =
    let v = S.n + y0 in
    let e : others v m ts ≡ others v (v ∷ []) S.phase = ap₂ (others v) em et in
    record {
      poly = record { form = c.form; value = λ a. qv a ∙ one_more v out out' k b a o ∙ ap₂ differ eb (c.value a ∙ ap (λ (r : List (List ℕ)). bool_value r (with_value a v true)) e) };
      first_free = never _ _ (qo v) (one_free v out out' k b o c.free);
      second_free = tt;
      known = λ u n. never _ _ (qo u) (one_free u out out' k b o (c.known u (ap (occurs u) e ∙ others_known u v (v ∷ []) S.phase n)));
    }

pub equal_test : (x y z : ℕ) → x ≡ y → x ≡ z → nat_eq y z ≡ true
equal_test x y z e f = subst (λ (w : ℕ). nat_eq w z ≡ true) e (subst (λ (w : ℕ). nat_eq w z ≡ true) (sym f) (nat_eq_same z))

pub other_test : (x y z : ℕ) → x ≡ y → (x ≡ z → ⊥) → nat_eq y z ≡ false
other_test x y z e n = nat_eq_other y z (λ f. n (e ∙ f))
