-- The one output that a gate changes, put among those of the sum before it.
use Rattle.std.proofs.Common.{◌≡◌, ℕ, zero, suc, ◌+◌, ◌%◌, refl, ap, sym, ◌∙◌, subst, arith, ◌<◌, ◌≤◌, Bool, true, false, not, ◌||◌, List, [], ◌∷◌, length, get_or, set, Some, None, ◌⊎◌, inl, inr}
use Rattle.std.proofs.lemmas.Bool.{cases_eq}
use Rattle.std.proofs.lemmas.List.{get_or_default, get_or-set_other, length-set}
use Rattle.ps_mono.specs.Truth.{differ}
use Rattle.ps_bool.specs.Polys.{bool_value, occurs, IsPoly}
use Rattle.ps_phase.specs.declared.terms.Term.{Term}
use Rattle.ps_phase.specs.Phases.{phase_value, IsPhasePoly}
use Rattle.ps_phase.specs.Adding.{add_terms}
use Rattle.ps_sum.specs.Outs.{outs_occur}
use Rattle.ps_sum.specs.declared.sums.PathSum.{PathSum}
use Rattle.ps_join.specs.declared.putting.Output.{Output}
use Rattle.ps_join.specs.declared.putting.Output.TheVariants.{Same, Flipped, Put}
use Rattle.ps_join.specs.Joining.{IsJoinOf}
use Rattle.ps_join.specs.Parts.{PhasePart, BoolPart}
use Rattle.ps_join.specs.Changing.{AllShort, NoLonger}
use Rattle.ps_join.specs.Plainly.{IsAdded}
use Rattle.ps_join.specs.Placing.{IsFlipOf, place_of, IsInside, OthersSame, IsPut, Becomes}
use Rattle.ps_join.specs.Totals.{IsNamed, with_more}
use Rattle.ps_join.specs.Widening.{CanWiden, IsWidened}
use Rattle.ps_join.proofs.Merging.{Outputs, joined, open_wide}
use Rattle.ps_join.proofs.Touching.{here, flip_part, one_value, one_free, gated_outputs}

-- ---- a flip
not_differ : (x : Bool) → differ x true ≡ not x
unfolding differ
not_differ true = refl
not_differ false = refl

first_of : (x y : Bool) → (x || y) ≡ true → y ≡ false → x ≡ true
first_of true y e f = refl
first_of false y e f = sym f ∙ e

either : (x y : Bool) → x ≡ true → (x || y) ≡ true
either true y e = refl
either false y e = absurd (never e)
  where
    never : false ≡ true → ⊥
    never e = cc

pub made_flip : (q : ℕ) (fs : List (List (List ℕ))) (f p : List (List ℕ)) → q < length fs → f ≡ get_or fs q f → IsPoly p
    → ((a : ℕ → Bool) → bool_value p a ≡ differ (bool_value f a) (bool_value ([] ∷ []) a)) → ((v : ℕ) → occurs v p ≡ true → (occurs v f || occurs v ([] ∷ [])) ≡ true) → IsFlipOf (get_or fs q []) p
made_flip q fs f p h e form value vars =
    let same : f ≡ get_or fs q [] = e ∙ get_or_default fs q f [] h in
    subst (λ (x : List (List ℕ)). IsFlipOf x p) same (record {
      form = form;
      value = λ a. value a ∙ ap (differ (bool_value f a)) (one_value a) ∙ not_differ (bool_value f a);
      variables = λ v k. first_of (occurs v f) (occurs v ([] ∷ [])) (vars v k) (one_free v);
    })

pub set_twice : (q : ℕ) (fs : List (List (List ℕ))) (f g : List (List ℕ)) → set (set fs q f) q g ≡ set fs q g
set_twice q [] f g = refl
set_twice zero (h ∷ fs) f g = refl
set_twice (suc q) (h ∷ fs) f g = ap (λ (r : List (List (List ℕ))). h ∷ r) (set_twice q fs f g)

put_flip : (n m1 m2 q : ℕ) (fs : List (List (List ℕ))) (g p : List (List ℕ)) → q < n → length fs ≡ n → ((v : ℕ) → n + m1 ≤ v → outs_occur v fs ≡ false) → g ≡ [] ∷ (q ∷ []) ∷ [] → IsFlipOf (get_or fs q []) p → BoolPart n m1 m2 fs g p
put_flip n m1 m2 q fs g p h w b d t =
    flip_part n m1 m2 q fs (get_or fs q []) ([] ∷ []) g p h w b (here fs q (omega (arith, h, w))) refl d t.form
    (λ a. t.value a ∙ sym (ap (differ (bool_value (get_or fs q []) a)) (one_value a) ∙ not_differ (bool_value (get_or fs q []) a)))
    (λ v k. either (occurs v (get_or fs q [])) (occurs v ([] ∷ [])) (t.variables v k))

-- ---- all outputs
pub put_outputs : (S1 S2 : PathSum) (rs : List (List (List ℕ))) (o : Output) → S1.n ≡ S2.n → 0 < length S1.outs → 0 < length S2.outs → Becomes S1.n S1.m S2.m S1.outs S2.outs o → IsPut S1.outs o rs → Outputs S1.n S1.m S2.m S1.outs S2.outs rs
put_outputs S1 S2 rs Same e o1 o2 b p = gated_outputs S1 S2 S1.outs rs rs None e o1 o2 refl p refl b
put_outputs S1 S2 rs (Flipped q) e o1 o2 b p =
    let wide : length S1.outs ≡ S1.n = S1.width o1 in
    let second_wide : length S2.outs ≡ S1.n = S2.width o2 ∙ sym e in
    gated_outputs S1 S2 S1.outs rs rs (Some (q, p.0)) e o1 o2 refl p.1.1 refl
    (b.0, (b.1.1, put_flip S1.n S1.m S2.m q S1.outs (get_or S2.outs q []) p.0 (omega (arith, b.0, second_wide)) wide S1.outs_below b.1.0 p.1.0))
put_outputs S1 S2 rs (Put q f) e o1 o2 b p = gated_outputs S1 S2 S1.outs rs rs (Some (q, f)) e o1 o2 refl p refl b

-- the place is below the width
pub becomes_inside : (n m1 m2 width : ℕ) (fs gs : List (List (List ℕ))) (o : Output) → length gs ≡ width → Becomes n m1 m2 fs gs o → IsInside width o
becomes_inside n m1 m2 width fs gs Same w b = tt
becomes_inside n m1 m2 width fs gs (Flipped q) w b = subst (λ k. q < k) w b.0
becomes_inside n m1 m2 width fs gs (Put q f) w b = subst (λ k. q < k) w b.0

pub inside_place : (width q : ℕ) (o : Output) → IsInside width o → place_of o ≡ Some q → q < width
inside_place width q Same h e = absurd (never e)
  where
    never : None ≡ Some q → ⊥
    never e = cc
inside_place width q (Flipped r) h e = subst (λ k. k < width) (same e) h
  where
    same : Some r ≡ Some q → r ≡ q
    same e = cc
inside_place width q (Put r f) h e = subst (λ k. k < width) (same e) h
  where
    same : Some r ≡ Some q → r ≡ q
    same e = cc

pub becomes_at : (S1 S2 : PathSum) (n m1 m2 : ℕ) (gs : List (List (List ℕ))) (o : Output) → n ≡ S1.n → m1 ≡ S1.m → m2 ≡ S2.m → gs ≡ S2.outs → ((fs : List (List (List ℕ))) → Becomes n m1 m2 fs gs o) → Becomes S1.n S1.m S2.m S1.outs S2.outs o
becomes_at S1 S2 n m1 m2 gs o en em1 em2 eg t =
    subst (λ (x : ℕ). Becomes x S1.m S2.m S1.outs S2.outs o) en (subst (λ (x : ℕ). Becomes n x S2.m S1.outs S2.outs o) em1
    (subst (λ (x : ℕ). Becomes n m1 x S1.outs S2.outs o) em2 (subst (λ (x : List (List (List ℕ))). Becomes n m1 m2 S1.outs x o) eg (t S1.outs))))

-- ---- the others
set_others : (q : ℕ) (fs : List (List (List ℕ))) (g : List (List ℕ)) → OthersSame q fs (set fs q g)
set_others q fs g = (length-set fs q g, λ i d. get_or-set_other fs q i g [] d)

pub others_there : (q : ℕ) (os fs rs : List (List (List ℕ))) (g : List (List ℕ)) → fs ≡ os → rs ≡ set fs q g → OthersSame q os rs
others_there q os fs rs g e r = subst (OthersSame q os) (sym (r ∙ ap (λ (o : List (List (List ℕ))). set o q g) e)) (set_others q os g)

pub longest_still : (q most more : ℕ) (fs gs : List (List (List ℕ))) → NoLonger most fs → most ≤ more → OthersSame q fs gs → length (get_or gs q []) ≤ more → NoLonger more gs
longest_still q most more fs gs s m o l = λ i h. by i h (cases_eq i q)
  where
    by : (i : ℕ) → i < length gs → ((i ≡ q) ⊎ (i ≡ q → ⊥)) → length (get_or gs i []) ≤ more
    by i h (inl e) = subst (λ k. length (get_or gs k []) ≤ more) (sym e) l
    by i h (inr d) = subst (λ (f : List (List ℕ)). length f ≤ more) (sym (o.1 i d)) (omega (arith, m, s i (omega (arith, h, o.0))))

pub put_longest : (o : Output) (most more : ℕ) (fs gs : List (List (List ℕ))) → IsPut fs o gs → NoLonger most fs → most ≤ more → ((q : ℕ) → place_of o ≡ Some q → length (get_or gs q []) ≤ more) → NoLonger more gs
put_longest Same most more fs gs p s m l = subst (NoLonger more) (sym p) (λ i h. omega (arith, m, s i h))
put_longest (Flipped q) most more fs gs p s m l = longest_still q most more fs gs s m (others_there q fs fs gs p.0 refl p.1.1) (l q refl)
put_longest (Put q f) most more fs gs p s m l = longest_still q most more fs gs s m (others_there q fs fs gs f refl p) (l q refl)

pub put_wide : (o : Output) (fs gs : List (List (List ℕ))) → IsPut fs o gs → length gs ≡ length fs
put_wide Same fs gs p = ap length p
put_wide (Flipped q) fs gs p = ap length p.1.1 ∙ length-set fs q p.0
put_wide (Put q f) fs gs p = ap length p ∙ length-set fs q f

-- ---- terms that wait
pub can_widen : (S S2 T : PathSum) (o : Output) (more : List Term) (f : IsPhasePoly more) (b : IsNamed S more) → with_more S more f b ≡ T → CanWiden T S2 o → CanWiden S S2 o
can_widen S S2 T o more f b e c =
    let w : CanWiden (with_more S more f b) S2 o = subst (λ (x : PathSum). CanWiden x S2 o) (sym e) c in
    record { qubits = w.qubits; first_open = w.first_open; second_open = w.second_open; named = w.named; scaled = w.scaled; output = w.output }

pub widened_named : (S S2 W : PathSum) (o : Output) (more : List Term) → IsNamed S more → IsWidened S S2 o W → IsNamed W more
widened_named S S2 W o more b w = λ v l. b v (omega (arith, l, w.n_is, w.m_is))

pub widened_total : (S S2 W T : PathSum) (o : Output) (more : List Term) (sf wf : IsPhasePoly more) (sb : IsNamed S more) (wb : IsNamed W more) → with_more S more sf sb ≡ T → IsWidened S S2 o W → IsWidened T S2 o (with_more W more wf wb)
widened_total S S2 W T o more sf wf sb wb e w = subst (λ (x : PathSum). IsWidened x S2 o (with_more W more wf wb)) e (record {
  n_is = w.n_is;
  m_is = w.m_is;
  k_is = w.k_is;
  phase_is = ap (λ (p : List Term). add_terms p more) w.phase_is;
  outs_are = w.outs_are;
})

-- ---- the join
pub part_named : (S1 S2 W : PathSum) (o : Output) (p : List Term) → PhasePart S1.n S1.m S2.m S1.outs S2.phase p → IsWidened S1 S2 o W → IsNamed W p
part_named S1 S2 W o p t w = λ v l. t.below v (omega (arith, l, w.n_is, w.m_is))

pub gate_outputs : (S1 S2 W S : PathSum) (o : Output) (p : List Term) → CanWiden S1 S2 o → IsWidened S1 S2 o W → IsAdded W p S → Outputs S1.n S1.m S2.m S1.outs S2.outs S.outs
gate_outputs S1 S2 W S o p c w a = put_outputs S1 S2 S.outs o c.qubits c.first_open c.second_open c.output (subst (IsPut S1.outs o) (sym a.outs_are) w.outs_are)

pub gate_joined : (S1 S2 W S : PathSum) (o : Output) (p : List Term) → CanWiden S1 S2 o → PhasePart S1.n S1.m S2.m S1.outs S2.phase p → IsWidened S1 S2 o W → IsAdded W p S → IsJoinOf S1 S2 S
gate_joined S1 S2 W S o p c t w a =
    joined S1 S2 S p c.qubits (open_wide S1 c.first_open) (a.n_is ∙ w.n_is) (a.m_is ∙ w.m_is) (a.k_is ∙ w.k_is) t
    (λ x. a.phase_is x ∙ ap (λ (q : List Term). (phase_value q x + phase_value p x) % 4294967296) w.phase_is) (gate_outputs S1 S2 W S o p c w a)
