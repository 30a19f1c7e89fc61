-- A step from a quadratic sum gives a quadratic one.
use Rattle.std.proofs.Common.{◌≡◌, ℕ, ◌+◌, ◌*◌, ◌%◌, refl, ap, ap₂, sym, ◌∙◌, arith, ◌<◌, ◌≤◌, ◌⊎◌, inl, inr, Bool, true, false, not, ◌&&◌, ◌||◌, cond, nat_eq, List, [], ◌∷◌, length}
use Rattle.std.proofs.lemmas.Bool.Decides.{nat_tests}
use mathlib.Core.Path.{fun_ext}
use Rattle.std.specs.Cmp.Lexicographic.{pointwise}
use Rattle.ps_ring.specs.Truths.{Truths, bit}
use Rattle.ps_ring.specs.Readings.{Assignment, opened, closed_up}
use Rattle.ps_mono.specs.Sets.{holds, stands}
use Rattle.ps_mono.specs.Truth.{times, with_value}
use Rattle.ps_bool.specs.Polys.{bool_value}
use Rattle.ps_phase.specs.declared.terms.Term.{Term}
use Rattle.ps_phase.specs.Phases.{phase_value, phase_occurs, coefficient}
use Rattle.ps_sum.specs.Names.{closed}
use Rattle.ps_sum.specs.Outs.{values}
use Rattle.ps_sum.specs.declared.sums.PathSum.{PathSum}
use Rattle.ps_rules.specs.declared.steps.Step.TheVariants.{Elim, Hh, Omega}
use Rattle.ps_rules.specs.Terms.{others, both}
use Rattle.ps_rules.specs.Rules.{Applied, Becomes, rest_value}
use Rattle.ps_overlap.specs.Overlapping.{EachTerm}
use Rattle.ps_cliff.specs.Quadratics.{IsQuadraticTerm, IsQuadratic}
use Rattle.ps_cliff.specs.Laws.{StepsStay}
use Rattle.ps_cliff.proofs.Values.{Turns, turns_same, turns_add, turns_scale, turns_constant, turns_quarter, turns_back, Parity, parity_same, parity_add, parity_none, parity_constant, parity_variable}
use Rattle.ps_cliff.proofs.Substitution.{Substitution, turns_substituted, or_left, or_right, and_true, scaled, stands_first, stands_second}
use Rattle.ps_cliff.proofs.Outputs.{parity_values, affine_as, phase_inside, outs_inside}

-- ---- names closed up, and back
abbrev back : ℕ → Assignment → Assignment
back v b u = b (closed v u)

closed_opened : (v u : ℕ) → closed v (opened v u) ≡ u
unfolding closed opened
closed_opened v u = grind (arith, nat_tests)

pub closed_below : (v u : ℕ) → closed v u ≤ u
unfolding closed
closed_below v u = grind (arith, nat_tests)

-- ---- the polynomial of a step
bool_first : (p q : Bool) → (p ≡ true) ⊎ (q ≡ true) → (p && q) ≡ cond p q p
bool_first true q h = refl
bool_first false q h = refl

either : (p q : Bool) → (p || q) ≡ true → (p ≡ true) ⊎ (q ≡ true)
either true q h = inl refl
either false q h = inr h

-- the variable that stands there is true, so at most one other is left
module _ (v : ℕ) (s : Substitution) (always : (b : Assignment) → s v b ≡ true) where
  eq_of : (u : ℕ) → nat_eq v u ≡ true → v ≡ u
  eq_of u e = grind (arith, nat_tests)

  none_stands : stands v [] ≡ true → ⊥
  unfolding stands
  none_stands e = cc

  pair : (u w : ℕ) → (nat_eq v u ≡ true) ⊎ (nat_eq v w ≡ true) → Parity (s u) → Parity (s w) → Parity (λ b. s u b && (s w b && true))
  pair u w (inl e) p q = parity_same (s w) (λ b. s u b && (s w b && true)) (λ b. sym (ap₂ (λ (x y : Bool). x && y) (ap (λ k. s k b) (sym (eq_of u e)) ∙ always b) (and_true (s w b)))) q
  pair u w (inr e) p q = parity_same (s u) (λ b. s u b && (s w b && true)) (λ b. sym (ap (λ x. s u b && x) (and_true (s w b) ∙ ap (λ k. s k b) (sym (eq_of w e)) ∙ always b) ∙ and_true (s u b))) p

  one_of_pair : (u w : ℕ) → stands v (u ∷ w ∷ []) ≡ true → (nat_eq v u ≡ true) ⊎ (nat_eq v w ≡ true)
  unfolding stands
  one_of_pair u w o = by (either (nat_eq v u) (nat_eq v w || false) o)
    where
      by : ((nat_eq v u ≡ true) ⊎ ((nat_eq v w || false) ≡ true)) → (nat_eq v u ≡ true) ⊎ (nat_eq v w ≡ true)
      by (inl e) = inl e
      by (inr e) = last (either (nat_eq v w) false e)
        where
          clash : false ≡ true → ⊥
          clash e = cc

          last : ((nat_eq v w ≡ true) ⊎ (false ≡ true)) → (nat_eq v u ≡ true) ⊎ (nat_eq v w ≡ true)
          last (inl d) = inr d
          last (inr d) = absurd (clash d)

  parity_with : (m : List ℕ) → length m ≤ 2 → stands v m ≡ true → ((u : ℕ) → stands u m ≡ true → Parity (s u)) → Parity (λ b. holds m (λ u. s u b))
  unfolding holds
  parity_with [] l o h = parity_constant true
  parity_with (u ∷ []) l o h = parity_same (s u) (λ b. s u b && true) (λ b. sym (and_true (s u b))) (h u (stands_first u []))
  parity_with (u ∷ w ∷ []) l o h = pair u w (one_of_pair u w o) (h u (stands_first u (w ∷ []))) (h w (stands_second u w []))
  parity_with (u ∷ w ∷ x ∷ m) l o h = absurd (omega arith)

  chosen : (b : Bool) (m : List ℕ) (ms : List (List ℕ)) → (b ≡ true → Parity (λ a. holds m (λ u. s u a))) → Parity (λ a. bool_value ms (λ u. s u a)) → Parity (λ a. bool_value (cond b (m ∷ ms) ms) (λ u. s u a))
  unfolding bool_value
  chosen true m ms p q = parity_add (λ a. holds m (λ u. s u a)) (λ a. bool_value ms (λ u. s u a)) (p refl) q
  chosen false m ms p q = q

  first_of_two : (p q : Bool) → (p && q) ≡ true → p ≡ true
  first_of_two true q e = refl
  first_of_two false q e = e

  parity_others : (m : List ℕ) (ts : List Term) → EachTerm IsQuadraticTerm ts → ((u : ℕ) → phase_occurs u ts ≡ true → Parity (s u)) → Parity (λ b. bool_value (others v m ts) (λ u. s u b))
  unfolding others bool_value phase_occurs
  parity_others m [] q h = parity_none
  parity_others m (t ∷ ts) q h = chosen (stands v t.mono && not (pointwise nat_eq m t.mono)) t.mono (others v m ts)
      (λ o. parity_with t.mono q.0.degree (first_of_two (stands v t.mono) (not (pointwise nat_eq m t.mono)) o) (λ u k. h u (or_left (stands u t.mono) (phase_occurs u ts) k)))
      (parity_others m ts q.1 (λ u k. h u (or_right (stands u t.mono) (phase_occurs u ts) k)))

-- ---- substitutions of the steps
-- variable v has the value c, and the others those that the renaming gives
parity_with_value : (v u : ℕ) (r : ℕ → ℕ) (c : Assignment → Bool) → u < 512 → r u ≤ u → Parity c → Parity (λ b. with_value (λ w. b (r w)) v (c b) u)
parity_with_value v u r c l d p = by (nat_eq u v) refl
  where
    by : (t : Bool) → nat_eq u v ≡ t → Parity (λ b. cond (nat_eq u v) (c b) (b (r u)))
    by true e = parity_same c (λ b. cond (nat_eq u v) (c b) (b (r u))) (λ b. sym (ap (λ t. cond t (c b) (b (r u))) e)) p
    by false e = parity_same (λ b. b (r u)) (λ b. cond (nat_eq u v) (c b) (b (r u))) (λ b. sym (ap (λ t. cond t (c b) (b (r u))) e)) (parity_variable (r u) (omega arith))

parity_two_values : (v1 v0 u : ℕ) (r : ℕ → ℕ) (c : Assignment → Bool) → u < 512 → r u ≤ u → Parity c → Parity (λ b. with_value (with_value (λ w. b (r w)) v1 (c b)) v0 false u)
parity_two_values v1 v0 u r c l d p = by (nat_eq u v0) refl
  where
    by : (t : Bool) → nat_eq u v0 ≡ t → Parity (λ b. cond (nat_eq u v0) false (with_value (λ w. b (r w)) v1 (c b) u))
    by true e = parity_same (λ b. false) (λ b. cond (nat_eq u v0) false (with_value (λ w. b (r w)) v1 (c b) u)) (λ b. sym (ap (λ t. cond t false (with_value (λ w. b (r w)) v1 (c b) u)) e)) parity_none
    by false e = parity_same (λ b. with_value (λ w. b (r w)) v1 (c b) u) (λ b. cond (nat_eq u v0) false (with_value (λ w. b (r w)) v1 (c b) u)) (λ b. sym (ap (λ t. cond t false (with_value (λ w. b (r w)) v1 (c b) u)) e)) (parity_with_value v1 u r c l d p)

nat_eq_self : (v : ℕ) → nat_eq v v ≡ true
nat_eq_self v = grind (arith, nat_tests)

-- the step's polynomial over the new names
rest_parity : (S : PathSum) (v : ℕ) (m : List ℕ) (r : ℕ → ℕ) → ((u : ℕ) → r u ≤ u) → IsQuadratic S → Parity (λ b. bool_value (others v m S.phase) (with_value (λ w. b (r w)) v true))
rest_parity S v m r d q = parity_others v (λ u b. with_value (λ w. b (r w)) v true u) (λ b. ap (λ t. cond t true (b (r v))) (nat_eq_self v)) m S.phase q.terms
    (λ u o. parity_with_value v u r (λ b. true) (phase_inside S u o) (d u) (parity_constant true))

-- ---- from a step's values to the one form
-- T's phase and outputs at b are P and O at an assignment that the names take to b
record Reads (T : PathSum) (P : Assignment → ℕ) (O : Assignment → Truths) : Type 0 where
  phase_is : (b : Assignment) → phase_value T.phase b % 4294967296 ≡ P b % 4294967296
  outs_is : (b : Assignment) → values T.outs b ≡ O b

reads : (T : PathSum) (names old : Assignment → Assignment) (P : Assignment → ℕ) (O : Assignment → Truths) → ((b : Assignment) (u : ℕ) → names (old b) u ≡ b u) → Becomes T names P O → Reads T (λ b. P (old b)) (λ b. O (old b))
reads T names old P O e c = record {
  phase_is = λ b. ap (λ (a : Assignment). phase_value T.phase a % 4294967296) (sym (fun_ext (e b))) ∙ c.phase_is (old b);
  outs_is = λ b. ap (λ (a : Assignment). values T.outs a) (sym (fun_ext (e b))) ∙ c.outs_is (old b);
}

quadratic_as : (T : PathSum) (P : Assignment → ℕ) (O : Assignment → Truths) → Reads T P O → Turns P → ((v : ℕ) → Parity (λ b. bit (O b) v)) → IsQuadratic T
quadratic_as T P O r t p = record {
  terms = turns_back T.phase T.formed.0 (turns_same P (phase_value T.phase) (λ a. sym (r.phase_is a)) t);
  outputs = affine_as T.outs O T.formed.1 p r.outs_is;
}

-- ---- the three steps
elim_stays : (S T : PathSum) (y0 : ℕ) → IsQuadratic S → Applied S (Elim y0) T → IsQuadratic T
elim_stays S T y0 q h = quadratic_as T _ _
    (reads T (closed_up v) (back v) _ _ (λ b u. ap b (closed_opened v u)) h.1)
    (turns_substituted S.phase (λ u b. with_value (back v b) v false u) q.terms (λ u o. parity_with_value v u (closed v) (λ b. false) (phase_inside S u o) (closed_below v u) parity_none))
    (parity_values S.outs (λ u b. b (closed v u)) q.outputs (λ u o. parity_variable (closed v u) (let l = outs_inside S u o in let d = closed_below v u in omega arith)))
  where
    v : ℕ
    v = S.n + y0

omega_stays : (S T : PathSum) (y0 : ℕ) → IsQuadratic S → Applied S (Omega y0) T → IsQuadratic T
omega_stays S T y0 q h = quadratic_as T _ _
    (reads T (closed_up v) (back v) _ _ (λ b u. ap b (closed_opened v u)) h.1)
    (turns_add (λ b. phase_value S.phase (with_value (back v b) v false) + 536870912) (λ b. times (rest_value S (Omega y0) (back v b)) 3221225472)
    (turns_add (λ b. phase_value S.phase (with_value (back v b) v false)) (λ b. 536870912)
    (turns_substituted S.phase (λ u b. with_value (back v b) v false u) q.terms (λ u o. parity_with_value v u (closed v) (λ b. false) (phase_inside S u o) (closed_below v u) parity_none))
    (turns_constant 536870912))
    (turns_same (λ b. 3 * times (rest_value S (Omega y0) (back v b)) 1073741824) (λ b. times (rest_value S (Omega y0) (back v b)) 3221225472) (λ b. ap (λ k. k % 4294967296) (scaled 3 (rest_value S (Omega y0) (back v b)) 3221225472 refl))
    (turns_scale 3 (λ b. times (rest_value S (Omega y0) (back v b)) 1073741824) (turns_quarter (λ b. rest_value S (Omega y0) (back v b)) rest))))
    (parity_values S.outs (λ u b. b (closed v u)) q.outputs (λ u o. parity_variable (closed v u) (let l = outs_inside S u o in let d = closed_below v u in omega arith)))
  where
    v : ℕ
    v = S.n + y0

    rest : Parity (λ b. rest_value S (Omega y0) (back v b))
    rest = parity_add (λ b. nat_eq (coefficient (v ∷ []) S.phase) 3221225472) (λ b. bool_value (others v (v ∷ []) S.phase) (with_value (back v b) v true)) (parity_constant (nat_eq (coefficient (v ∷ []) S.phase) 3221225472))
        (rest_parity S v (v ∷ []) (closed v) (closed_below v) q)

hh_stays : (S T : PathSum) (y0 y1 : ℕ) → IsQuadratic S → Applied S (Hh y0 y1) T → IsQuadratic T
hh_stays S T y0 y1 q h = quadratic_as T _ _
    (reads T (λ a. closed_up (closed v w) (closed_up v a)) old _ _ (λ b u. ap (λ k. b (closed (closed v w) k)) (closed_opened v (opened (closed v w) u)) ∙ ap b (closed_opened (closed v w) u)) h.1)
    (turns_substituted S.phase (λ u b. with_value (with_value (old b) w (rest_value S (Hh y0 y1) (old b))) v false u) q.terms
    (λ u o. parity_two_values w v u name (λ b. rest_value S (Hh y0 y1) (old b)) (phase_inside S u o) (name_below u) rest))
    (parity_values S.outs (λ u b. with_value (old b) w (rest_value S (Hh y0 y1) (old b)) u) q.outputs
    (λ u o. parity_with_value w u name (λ b. rest_value S (Hh y0 y1) (old b)) (outs_inside S u o) (name_below u) rest))
  where
    v : ℕ
    v = S.n + y0

    w : ℕ
    w = S.n + y1

    name : ℕ → ℕ
    name u = closed (closed v w) (closed v u)

    old : Assignment → Assignment
    old b u = b (name u)

    name_below : (u : ℕ) → name u ≤ u
    name_below u = let d = closed_below v u in let e = closed_below (closed v w) (closed v u) in omega arith

    rest : Parity (λ b. rest_value S (Hh y0 y1) (old b))
    rest = rest_parity S v (both v w) name name_below q

pub steps_stay : StepsStay
steps_stay S T (Elim y0) q h = elim_stays S T y0 q h
steps_stay S T (Hh y0 y1) q h = hh_stays S T y0 y1 q h
steps_stay S T (Omega y0) q h = omega_stays S T y0 q h
