-- Each step keeps the number of a sum at every input and output.
use mathlib.Core.Bool.{xor}
use Rattle.std.proofs.Common.{◌≡◌, ◌≢◌, ℕ, suc, ◌+◌, ◌%◌, refl, ap, ap₂, sym, ◌∙◌, subst, arith, ◌<◌, ◌≤◌, Bool, true, false, cond, not, ◌&&◌, nat_eq, nat_lt, List, [], ◌∷◌, ◌++◌, length, ◌⊎◌, inl, inr}
use Rattle.std.proofs.Math.IntN.{ℤ, pos, ◌+ℤ◌}
use Rattle.std.proofs.lemmas.Bool.Decides.{nat_tests}
use Rattle.ps_mono.specs.Sets.{holds, stands}
use Rattle.ps_mono.specs.Truth.{times, differ, with_value}
use Rattle.ps_bool.specs.Polys.{bool_value, occurs}
use Rattle.ps_bool.proofs.Unique.{bool_value-agree}
use Rattle.ps_phase.proofs.Values.{mono_eq}
use Rattle.std.specs.Cmp.Lexicographic.{pointwise}
use Rattle.ps_phase.specs.declared.terms.Term.{Term}
use Rattle.ps_phase.specs.Phases.{phase_value, coefficient, IsPhasePoly}
use Rattle.ps_phase.proofs.Adding.{no_or}
use Rattle.ps_ring.specs.Truths.{Truths, bit}
use Rattle.ps_ring.specs.Sums.{PathValues}
use Rattle.ps_ring.specs.Steps.{SameNumber}
use Rattle.ps_ring.specs.Readings.{Assignment, Ignores, opened, closed_up, read_sum, ElimReading, HhReading, OmegaReading}
use Rattle.ps_ring.proofs.StepLaws.{elim_keeps, hh_keeps, omega_keeps}
use Rattle.ps_ring.proofs.ReadSteps.{elim_read, hh_read, omega_read}
use Rattle.ps_sum.specs.declared.sums.PathSum.{PathSum}
use Rattle.ps_sum.specs.Names.{closed}
use Rattle.ps_sum.specs.Outs.{values}
use Rattle.ps_sum.specs.Sums.{path_values}
use Rattle.ps_sum.proofs.Closings.{length_values}
use Rattle.ps_rules.specs.declared.steps.Step.{Step}
use Rattle.ps_rules.specs.declared.steps.Step.TheVariants.{Elim, Hh, Omega}
use Rattle.ps_rules.specs.Terms.{EachWith, IsHalf, both, others}
use Rattle.ps_rules.specs.Rules.{ElimApplies, HhApplies, OmegaApplies, Applies, rest_value, ElimApplied, HhApplied, OmegaApplied, Applied}
use Rattle.ps_rules.proofs.Firsts.{both_first, alone_stands}
use Rattle.ps_rules.proofs.Splits.{with_same, with_agree, split_at, phase_apart, values_apart}

-- a sum by its values, where m and k are told
read_is : (S : PathSum) (m : ℕ) (k : ℤ) → m ≡ S.m → k ≡ S.k → read_sum m k (λ a. phase_value S.phase a) (λ a. values S.outs a) ≡ path_values S
read_is S m k e f = ap₂ (λ (x : ℕ) (y : ℤ). read_sum x y (λ a. phase_value S.phase a) (λ a. values S.outs a)) e f

moved : (P Q T : PathValues) (x z : Truths) → P ≡ Q → SameNumber P T x z → SameNumber Q T x z
moved P Q T x z e h = subst (λ (R : PathValues). SameNumber R T x z) e h

agrees : (X : Type 0) (v : ℕ) (F : Assignment → X) (b : Bool) → Ignores X v (λ a. F (with_value a v b))
agrees X v F b a c h = ap F (with_agree a c v b h)

-- ---- no terms
elim_reading : (S T : PathSum) (y0 : ℕ) → ElimApplies S y0 → ElimApplied S y0 T → ElimReading S.n T.m y0 (λ a. phase_value S.phase a) (λ a. phase_value T.phase a) (λ a. values S.outs a) (λ a. values T.outs a)
elim_reading S T y0 h (l, b) = record {
  at = (let i = h.inner.inside in let m = l.m_is in omega arith);
  phase_is = λ a. sym (b.phase_is a ∙ ap (λ n. n % 4294967296) (phase_apart (S.n + y0) S.phase a false h.absent));
  outs_is = λ a. sym (b.outs_is a);
}

pub elim_number : (S T : PathSum) (y0 : ℕ) → ElimApplies S y0 → ElimApplied S y0 T → (x z : Truths) → length x ≡ S.n → SameNumber (path_values S) (path_values T) x z
elim_number S T y0 h a x z e =
    moved _ (path_values S) (path_values T) x z (read_is S (suc T.m) (T.k +ℤ pos 2) (omega (arith, a.0.m_is)) a.0.k_is)
    (elim_keeps S.n _ _ y0 (elim_read S.n T.m y0 T.k (λ c. phase_value S.phase c) (λ c. phase_value T.phase c) (λ c. values S.outs c) (λ c. values T.outs c) (elim_reading S T y0 h a)) x z e)

-- ---- a quarter of a turn
quarter_was : (b q : Bool) (p r c : ℕ) → (c ≡ 1073741824) ⊎ (c ≡ 3221225472) → p % 4294967296 ≡ (r + times b (times true c + times q 2147483648)) % 4294967296
    → p % 4294967296 ≡ (r + cond b (1073741824 + cond (differ (nat_eq c 3221225472) q) 2147483648 0) 0) % 4294967296
unfolding times differ
quarter_was b q p r c (inl k) e = e ∙ ap (λ n. (r + times b (times true n + times q 2147483648)) % 4294967296) k ∙ one b q ∙ ap (λ n. (r + cond b (1073741824 + cond (differ (nat_eq n 3221225472) q) 2147483648 0) 0) % 4294967296) (sym k)
  where
    one : (b q : Bool) → (r + times b (1073741824 + times q 2147483648)) % 4294967296 ≡ (r + cond b (1073741824 + cond (differ false q) 2147483648 0) 0) % 4294967296
    one true true = refl
    one true false = refl
    one false q = refl
quarter_was b q p r c (inr k) e = e ∙ ap (λ n. (r + times b (times true n + times q 2147483648)) % 4294967296) k ∙ one b q ∙ ap (λ n. (r + cond b (1073741824 + cond (differ (nat_eq n 3221225472) q) 2147483648 0) 0) % 4294967296) (sym k)
  where
    one : (b q : Bool) → (r + times b (3221225472 + times q 2147483648)) % 4294967296 ≡ (r + cond b (1073741824 + cond (differ true q) 2147483648 0) 0) % 4294967296
    one true true = omega arith
    one true false = omega arith
    one false q = refl

alone_holds : (v : ℕ) (a : ℕ → Bool) → holds (v ∷ []) (with_value a v true) ≡ true
unfolding holds
alone_holds v a = ap (λ (t : Bool). cond t true (a v) && true) (same v)
  where
    same : (v : ℕ) → nat_eq v v ≡ true
    same v = grind (arith, nat_tests)

times_cond : (b : Bool) (n : ℕ) → times b n ≡ cond b n 0
unfolding times
times_cond true n = refl
times_cond false n = refl

omega_reading : (S T : PathSum) (y0 : ℕ) → IsPhasePoly S.phase → OmegaApplies S y0 → OmegaApplied S y0 T
    → OmegaReading S.n T.m y0 (λ a. phase_value S.phase a) (λ a. phase_value S.phase (with_value a (S.n + y0) false)) (λ a. phase_value T.phase a) (λ a. values S.outs a) (λ a. values T.outs a) (λ a. rest_value S (Omega y0) a)
omega_reading S T y0 p h (l, b) = record {
  at = (let i = h.inner.inside in let m = l.m_is in omega arith);
  rest_free = agrees ℕ (S.n + y0) (λ a. phase_value S.phase a) false;
  value_free = agrees Bool (S.n + y0) (λ a. differ (nat_eq (coefficient ((S.n + y0) ∷ []) S.phase) 3221225472) (bool_value (others (S.n + y0) ((S.n + y0) ∷ []) S.phase) a)) true;
  phase_was = λ a.
      let v = S.n + y0 in
      let q = bool_value (others v (v ∷ []) S.phase) (with_value a v true) in
      quarter_was (a v) q (phase_value S.phase a) (phase_value S.phase (with_value a v false)) (coefficient (v ∷ []) S.phase) h.quarter
      (split_at v (v ∷ []) S.phase p (alone_stands v) h.halves a ∙ ap (λ (t : Bool). (phase_value S.phase (with_value a v false) + times (a v) (times t (coefficient (v ∷ []) S.phase) + times q 2147483648)) % 4294967296) (alone_holds v a));
  phase_is = λ a. b.phase_is a ∙ ap (λ n. (phase_value S.phase (with_value a (S.n + y0) false) + 536870912 + n) % 4294967296) (times_cond (rest_value S (Omega y0) a) 3221225472);
  outs_is = λ a. sym (b.outs_is a);
}

pub omega_number : (S T : PathSum) (y0 : ℕ) → IsPhasePoly S.phase → OmegaApplies S y0 → OmegaApplied S y0 T → (x z : Truths) → length x ≡ S.n → SameNumber (path_values S) (path_values T) x z
omega_number S T y0 p h a x z e =
    moved _ (path_values S) (path_values T) x z (read_is S (suc T.m) (T.k +ℤ pos 1) (omega (arith, a.0.m_is)) a.0.k_is)
    (omega_keeps S.n _ _ y0 (λ x y. rest_value S (Omega y0) (bit (x ++ _))) (omega_read S.n T.m y0 T.k _ _ _ _ _ _ (omega_reading S T y0 p h a)) x z e)

-- ---- two variables
-- the names of the second, beside the first
second_place : (n y0 y1 : ℕ) → y1 ≢ y0 → opened (n + y0) (n + closed y0 y1) ≡ n + y1
unfolding opened closed
second_place n y0 y1 d = grind (arith, nat_tests)

place_moved : (n y0 y1 : ℕ) → n + closed y0 y1 ≡ closed (n + y0) (n + y1)
unfolding closed
place_moved n y0 y1 = grind (arith, nat_tests)

place_below : (y0 y1 m : ℕ) → y1 ≢ y0 → y0 < m + 2 → y1 < m + 2 → closed y0 y1 ≤ m
unfolding closed
place_below y0 y1 m d h k = grind (arith, nat_tests)

half_was : (b w q : Bool) (p r : ℕ) → p % 4294967296 ≡ (r + times b (times w 2147483648 + times q 2147483648)) % 4294967296 → p % 4294967296 ≡ (r + cond (b && xor w q) 2147483648 0) % 4294967296
unfolding times xor
half_was true true true p r e = omega arith
half_was true true false p r e = e
half_was true false true p r e = e
half_was true false false p r e = e
half_was false w q p r e = e

and_end : (b : Bool) → (b && true) ≡ b
and_end true = refl
and_end false = refl

-- the product of both holds where y1 is 1, once y0 is
both_holds : (u v : ℕ) (a : ℕ → Bool) → v ≢ u → holds (both u v) (with_value a u true) ≡ a v
unfolding both holds
both_holds u v a d = by (nat_lt u v)
  where
    own : cond (nat_eq u u) true (a u) ≡ true
    own = ap (λ (t : Bool). cond t true (a u)) (same u)
      where
        same : (v : ℕ) → nat_eq v v ≡ true
        same v = grind (arith, nat_tests)

    other : cond (nat_eq v u) true (a v) ≡ a v
    other = ap (λ (t : Bool). cond t true (a v)) (apart v u d)
      where
        apart : (v u : ℕ) → v ≢ u → nat_eq v u ≡ false
        apart v u d = grind (arith, nat_tests)

    by : (b : Bool) → holds (cond b (u ∷ v ∷ []) (v ∷ u ∷ [])) (with_value a u true) ≡ a v
    by true = ap₂ (λ (x y : Bool). x && (y && true)) own other ∙ and_end (a v)
    by false = ap₂ (λ (x y : Bool). x && (y && true)) other own ∙ and_end (a v)

pub each_weak : (v : ℕ) (R Q : Term → Type 0) (ts : List Term) → ((t : Term) → R t → Q t) → EachWith v R ts → EachWith v Q ts
each_weak v R Q [] f h = tt
each_weak v R Q (t ∷ ts) f h = (λ s. f t (h.0 s), each_weak v R Q ts f h.1)

-- y1 does not stand in the other terms
pub others_free : (v u : ℕ) (m : List ℕ) (ts : List Term) → EachWith v (λ t. stands u t.mono ≡ true → t.mono ≡ m) ts → occurs u (others v m ts) ≡ false
unfolding others occurs
others_free v u m [] h = refl
others_free v u m (t ∷ ts) h = by (stands v t.mono) refl (pointwise nat_eq m t.mono) refl (others_free v u m ts h.1)
  where
    off : {b : Bool} → b ≡ true → b ≡ false → ⊥
    off e f = cc

    free : stands v t.mono ≡ true → pointwise nat_eq m t.mono ≡ false → (b : Bool) → stands u t.mono ≡ b → b ≡ false
    free s w true e = absurd (off ((mono_eq m t.mono).1 (sym (h.0 s e))) w)
    free s w false e = refl

    by : (q : Bool) → stands v t.mono ≡ q → (w : Bool) → pointwise nat_eq m t.mono ≡ w → occurs u (others v m ts) ≡ false → occurs u (cond (q && not w) (t.mono ∷ others v m ts) (others v m ts)) ≡ false
    by false e w f r = r
    by true e true f r = r
    by true e false f r = no_or _ _ (free e f (stands u t.mono) refl) r

hh_reading : (S T : PathSum) (y0 y1 : ℕ) → IsPhasePoly S.phase → HhApplies S y0 y1 → HhApplied S y0 y1 T
    → HhReading S.n T.m y0 (closed y0 y1) (S.n + y1) (λ a. phase_value S.phase a) (λ a. phase_value S.phase (with_value a (S.n + y0) false)) (λ a. phase_value T.phase a) (λ a. values S.outs a) (λ a. values T.outs a) (λ a. rest_value S (Hh y0 y1) a)
hh_reading S T y0 y1 p h (l, b) = record {
  at = (let i = h.inner.inside in let m = l.m_is in omega arith);
  next = (let i = h.inner.inside in let j = h.second in let m = l.m_is in place_below y0 y1 T.m h.apart (omega arith) (omega arith));
  second = second_place S.n y0 y1 h.apart;
  rest_free = agrees ℕ (S.n + y0) (λ a. phase_value S.phase a) false;
  value_free = agrees Bool (S.n + y0) (λ a. bool_value (others (S.n + y0) (both (S.n + y0) (S.n + y1)) S.phase) a) true;
  value_other = λ a c k.
      let v = S.n + y0 in
      let u = S.n + y1 in
      bool_value-agree (others v (both v u) S.phase) (with_value a v true) (with_value c v true)
      (λ w o. ap (λ (x : Bool). cond (nat_eq w v) true x) (k w (λ e. off o (subst (λ (x : ℕ). occurs x (others v (both v u) S.phase) ≡ false) (sym e) (others_free v u (both v u) S.phase h.lone)))));
  phase_was = λ a.
      let v = S.n + y0 in
      let u = S.n + y1 in
      let q = bool_value (others v (both v u) S.phase) (with_value a v true) in
      half_was (a v) (a u) q (phase_value S.phase a) (phase_value S.phase (with_value a v false))
      (split_at v (both v u) S.phase p (both_first v u) (each_weak v IsHalf (λ t. t.mono ≢ both v u → IsHalf t) S.phase (λ t r n. r) h.halves) a
      ∙ ap₂ (λ (t : Bool) (c : ℕ). (phase_value S.phase (with_value a v false) + times (a v) (times t c + times q 2147483648)) % 4294967296) (both_holds v u a (apart_names S.n y0 y1 h.apart)) h.product);
  phase_is = λ a e. named a ∙ b.phase_is a ∙ ap (λ c. phase_value S.phase (with_value c (S.n + y0) false) % 4294967296) (with_same a (S.n + y1) _ e);
  outs_free = λ a c k.
      let v = S.n + y0 in
      sym (values_apart v S.outs a true h.inner.silent) ∙ ap (values S.outs) (with_agree a c v true k) ∙ values_apart v S.outs c true h.inner.silent;
  outs_is = λ a e. ap (λ w. values T.outs (closed_up w (closed_up (S.n + y0) a))) (place_moved S.n y0 y1) ∙ b.outs_is a ∙ ap (values S.outs) (with_same a (S.n + y1) _ e);
}
  where
    off : {b : Bool} → b ≡ true → b ≡ false → ⊥
    off e f = cc

    named : (a : Assignment) → phase_value T.phase (closed_up (S.n + closed y0 y1) (closed_up (S.n + y0) a)) % 4294967296 ≡ phase_value T.phase (closed_up (closed (S.n + y0) (S.n + y1)) (closed_up (S.n + y0) a)) % 4294967296
    named a = ap (λ w. phase_value T.phase (closed_up w (closed_up (S.n + y0) a)) % 4294967296) (place_moved S.n y0 y1)

    apart_names : (n y0 y1 : ℕ) → y1 ≢ y0 → n + y1 ≢ n + y0
    apart_names n y0 y1 d e = d (omega arith)

pub hh_number : (S T : PathSum) (y0 y1 : ℕ) → IsPhasePoly S.phase → HhApplies S y0 y1 → HhApplied S y0 y1 T → (x z : Truths) → length x ≡ S.n → SameNumber (path_values S) (path_values T) x z
hh_number S T y0 y1 p h a x z e =
    moved _ (path_values S) (path_values T) x z (read_is S (suc (suc T.m)) (T.k +ℤ pos 2) (omega (arith, a.0.m_is)) a.0.k_is)
    (hh_keeps S.n _ _ y0 (closed y0 y1) _ (hh_read S.n T.m y0 (closed y0 y1) (S.n + y1) T.k _ _ _ _ _ _ (hh_reading S T y0 y1 p h a)) x z e)

-- ---- each step
pub applied_keeps : (S T : PathSum) (s : Step) → IsPhasePoly S.phase → Applies S s → Applied S s T → (x z : Truths) → length x ≡ S.n → SameNumber (path_values S) (path_values T) x z
applied_keeps S T (Elim y0) p h a = elim_number S T y0 h a
applied_keeps S T (Hh y0 y1) p h a = hh_number S T y0 y1 p h a
applied_keeps S T (Omega y0) p h a = omega_number S T y0 p h a

-- ---- what else stays, and what falls
same_length : (fs gs : List (List (List ℕ))) (a b : ℕ → Bool) → values fs a ≡ values gs b → length fs ≡ length gs
same_length fs gs a b e = sym (length_values fs a) ∙ ap (λ (r : List Bool). length r) e ∙ length_values gs b

pub applied_width : (S T : PathSum) (s : Step) → Applied S s T → length T.outs ≡ length S.outs
applied_width S T (Elim y0) (l, b) = same_length T.outs S.outs _ _ (b.outs_is (λ u. false))
applied_width S T (Hh y0 y1) (l, b) = same_length T.outs S.outs _ _ (b.outs_is (λ u. false))
applied_width S T (Omega y0) (l, b) = same_length T.outs S.outs _ _ (b.outs_is (λ u. false))

pub applied_falls : (S T : PathSum) (s : Step) → Applied S s T → T.m < S.m
applied_falls S T (Elim y0) (l, b) = let m = l.m_is in omega arith
applied_falls S T (Hh y0 y1) (l, b) = let m = l.m_is in omega arith
applied_falls S T (Omega y0) (l, b) = let m = l.m_is in omega arith
