-- The phase of an overlap, and that it makes the overlap.
use Rattle.std.proofs.Common.{◌≡◌, ℕ, ◌+◌, ◌%◌, refl, ap, ap₂, sym, ◌∙◌, arith, ◌<◌, ◌≤◌, Bool, true, false, nat_lt, cond, List, [], ◌∷◌, ◌++◌, length}
use Rattle.std.proofs.Math.IntN.{pos, ◌+ℤ◌}
use Rattle.std.proofs.lemmas.Bool.Decides.{nat_tests}
use Rattle.ps_ring.specs.Truths.{Truths, bit}
use Rattle.ps_ring.specs.Joins.{pairing}
use Rattle.ps_ring.specs.Readings.{Assignment, IsUnder, taken, moved_name, OverlapReading}
use Rattle.ps_ring.proofs.ReadJoins.{overlap_read}
use Rattle.ps_bool.specs.Polys.{occurs}
use Rattle.ps_bool.proofs.Unique.{bool_value-agree}
use Rattle.ps_phase.specs.declared.terms.Term.{Term}
use Rattle.ps_phase.specs.Phases.{phase_value, phase_occurs}
use Rattle.ps_phase.proofs.Values.{phase_agree}
use Rattle.ps_phase.proofs.Adding.{neither}
use Rattle.ps_sum.specs.declared.sums.PathSum.{PathSum}
use Rattle.ps_sum.specs.Outs.{values, outs_occur}
use Rattle.ps_overlap.specs.Overlapping.{IsOverlapOf}
use Rattle.ps_overlap.proofs.Paired.{moved_at, OutsNotMoved}
use Rattle.ps_overlap.proofs.Moved.{TermsNotMoved}

clash : {b : Bool} → b ≡ true → b ≡ false → ⊥
clash e f = cc

below : (n u : ℕ) (b : Bool) → (n ≤ u → b ≡ false) → b ≡ true → u < n
below n u b h e = by (nat_lt u n) refl
  where
    by : (t : Bool) → nat_lt u n ≡ t → u < n
    by true l = grind (arith, nat_tests)
    by false l = absurd (clash e (h (grind (arith, nat_tests))))

-- ---- polynomials that know no variable from n on
pub phase_under : (n : ℕ) (ts : List Term) → ((v : ℕ) → n ≤ v → phase_occurs v ts ≡ false) → IsUnder ℕ n (phase_value ts)
phase_under n ts h a b e = phase_agree ts a b (λ u o. e u (below n u (phase_occurs u ts) (h u) o))

pub outs_under : (n : ℕ) (fs : List (List (List ℕ))) → ((v : ℕ) → n ≤ v → outs_occur v fs ≡ false) → IsUnder Truths n (values fs)
unfolding values outs_occur
outs_under n [] h a b e = refl
outs_under n (f ∷ fs) h a b e =
    ap₂ (λ (x : Bool) (r : List Bool). x ∷ r) (bool_value-agree f a b (λ u o. e u (below n u (occurs u f) (λ l. (neither _ _ (h u l)).0) o)))
    (outs_under n fs (λ v l. (neither _ _ (h v l)).1) a b e)

-- ---- the phase
abbrev pub PhaseIs : PathSum → PathSum → List Term → Type 0
PhaseIs S1 S2 p = (a : Assignment) → (phase_value p a + phase_value S1.phase a) % 4294967296
    ≡ (phase_value S2.phase (moved_at S1.n S1.m a) + pairing (taken (S1.n + (S1.m + S2.m)) S1.n a) (values S1.outs a) (values S2.outs (moved_at S1.n S1.m a))) % 4294967296

four : (t0 t1 t2 t3 p p1 p2 r : ℕ) → t0 ≡ 0 → t1 ≡ t0 + p2 → (t2 + p1) % 4294967296 ≡ t1 % 4294967296 → t3 % 4294967296 ≡ (t2 + r) % 4294967296 → p % 4294967296 ≡ t3 % 4294967296 → (p + p1) % 4294967296 ≡ (p2 + r) % 4294967296
four t0 t1 t2 t3 p p1 p2 r e0 e1 e2 e3 e4 = omega arith

pub phase_is : (S1 S2 : PathSum) (lo : ℕ) (t0 t1 t2 t3 p ts1 ts2 : List Term) (fs gs : List (List (List ℕ))) → lo ≡ S1.n + S1.m + S2.m → t0 ≡ [] → ts1 ≡ S1.phase → ts2 ≡ S2.phase → fs ≡ S1.outs → gs ≡ S2.outs → 0 < length S1.outs
    → ((a : Assignment) → phase_value t1 a ≡ phase_value t0 a + phase_value ts2 (moved_at S1.n S1.m a))
    → ((a : Assignment) → (phase_value t2 a + phase_value ts1 a) % 4294967296 ≡ phase_value t1 a % 4294967296)
    → ((a : Assignment) → phase_value t3 a % 4294967296 ≡ (phase_value t2 a + pairing (taken lo (length fs) a) (values fs a) (values gs (moved_at S1.n S1.m a))) % 4294967296)
    → ((a : Assignment) → phase_value p a % 4294967296 ≡ phase_value t3 a % 4294967296) → PhaseIs S1 S2 p
unfolding phase_value
phase_is S1 S2 lo t0 t1 t2 t3 p ts1 ts2 fs gs el e0 e1 e2 ef eg op v1 v2 v3 v4 a =
    let b = moved_at S1.n S1.m a in
    let wide : length fs ≡ S1.n = ap (λ (x : List (List (List ℕ))). length x) ef ∙ S1.width op in
    let place : lo ≡ S1.n + (S1.m + S2.m) = omega arith in
    let r = pairing (taken (S1.n + (S1.m + S2.m)) S1.n a) (values S1.outs a) (values S2.outs b) in
    let pr : pairing (taken lo (length fs) a) (values fs a) (values gs b) ≡ r =
    ap₂ (λ (x y : ℕ). pairing (taken x y a) (values fs a) (values gs b)) place wide
    ∙ ap₂ (λ (x y : List (List (List ℕ))). pairing (taken (S1.n + (S1.m + S2.m)) S1.n a) (values x a) (values y b)) ef eg in
    four (phase_value t0 a) (phase_value t1 a) (phase_value t2 a) (phase_value t3 a) (phase_value p a) (phase_value S1.phase a) (phase_value S2.phase b) r
    (ap (λ (x : List Term). phase_value x a) e0) (v1 a ∙ ap (λ (x : List Term). phase_value t0 a + phase_value x b) e2) (ap (λ (x : List Term). (phase_value t2 a + phase_value x a) % 4294967296) (sym e1) ∙ v2 a) (v3 a ∙ ap (λ x. (phase_value t2 a + x) % 4294967296) pr) (v4 a)

-- ---- its variables
moved_beyond : (n m1 m2 v w : ℕ) → n + (m1 + m2 + n) ≤ w → moved_name n m1 v ≡ w → n + m2 ≤ v
unfolding moved_name
moved_beyond n m1 m2 v w h e = by (nat_lt v n) refl
  where
    by : (t : Bool) → nat_lt v n ≡ t → n + m2 ≤ v
    by true l = let d : v ≡ w = sym (ap (λ b. cond b v (v + m1)) l) ∙ e in grind (arith, nat_tests)
    by false l = let d : v + m1 ≡ w = sym (ap (λ b. cond b v (v + m1)) l) ∙ e in omega arith

pub phase_free : (S1 S2 : PathSum) (lo : ℕ) (t0 t1 t2 t3 p ts1 ts2 : List Term) (fs gs : List (List (List ℕ))) → S1.n ≡ S2.n → lo ≡ S1.n + S1.m + S2.m → t0 ≡ [] → ts1 ≡ S1.phase → ts2 ≡ S2.phase → fs ≡ S1.outs → gs ≡ S2.outs → 0 < length S1.outs
    → ((w : ℕ) → TermsNotMoved S1.n S1.m w ts2 → phase_occurs w t0 ≡ false → phase_occurs w t1 ≡ false)
    → ((w : ℕ) → phase_occurs w ts1 ≡ false → phase_occurs w t1 ≡ false → phase_occurs w t2 ≡ false)
    → ((u : ℕ) → lo + length fs ≤ u → outs_occur u fs ≡ false → OutsNotMoved S1.n S1.m gs u → phase_occurs u t2 ≡ false → phase_occurs u t3 ≡ false)
    → ((v : ℕ) → phase_occurs v p ≡ true → phase_occurs v t3 ≡ true) → (w : ℕ) → S1.n + (S1.m + S2.m + S1.n) ≤ w → phase_occurs w p ≡ false
unfolding phase_occurs
phase_free S1 S2 lo t0 t1 t2 t3 p ts1 ts2 fs gs en el e0 e1 e2 ef eg op f1 f2 f3 f4 w h =
    let wide : length fs ≡ S1.n = ap (λ (x : List (List (List ℕ))). length x) ef ∙ S1.width op in
    let far : (v : ℕ) → moved_name S1.n S1.m v ≡ w → S2.n + S2.m ≤ v = λ v e. let l = moved_beyond S1.n S1.m S2.m v w h e in omega arith in
    let o1 : phase_occurs w t1 ≡ false = f1 w (λ v e. ap (phase_occurs v) e2 ∙ S2.phase_below v (far v e)) (ap (phase_occurs w) e0) in
    let o2 : phase_occurs w t2 ≡ false = f2 w (ap (phase_occurs w) e1 ∙ S1.phase_below w (omega arith)) o1 in
    let o3 : phase_occurs w t3 ≡ false = f3 w (omega arith) (ap (outs_occur w) ef ∙ S1.outs_below w (omega arith)) (λ v e. ap (outs_occur v) eg ∙ S2.outs_below v (far v e)) o2 in
    by (phase_occurs w p) refl o3
  where
    by : (t : Bool) → phase_occurs w p ≡ t → phase_occurs w t3 ≡ false → t ≡ false
    by true e o = absurd (clash (f4 w e) o)
    by false e o = refl

-- the second's variables stay below 512 under their new names
pub small_phase : (S1 S2 : PathSum) (ts : List Term) → S1.n ≡ S2.n → S1.n + S1.n + S1.m + S2.m ≤ 512 → ts ≡ S2.phase → (v : ℕ) → 512 ≤ v + S1.m → phase_occurs v ts ≡ false
small_phase S1 S2 ts en f e v h = ap (phase_occurs v) e ∙ S2.phase_below v (omega arith)

pub small_outs : (S1 S2 : PathSum) (gs : List (List (List ℕ))) → S1.n ≡ S2.n → S1.n + S1.n + S1.m + S2.m ≤ 512 → gs ≡ S2.outs → (v : ℕ) → 512 ≤ v + S1.m → outs_occur v gs ≡ false
small_outs S1 S2 gs en f e v h = ap (outs_occur v) e ∙ S2.outs_below v (omega arith)

-- ---- it makes the overlap
reading : (S1 S2 : PathSum) (p : List Term) → S1.n ≡ S2.n → PhaseIs S1 S2 p → OverlapReading S1.n S1.m S2.m (phase_value S1.phase) (phase_value S2.phase) (phase_value p) (values S1.outs) (values S2.outs) (λ a. [])
reading S1 S2 p en h = record {
  first_phase = phase_under (S1.n + S1.m) S1.phase S1.phase_below;
  first_outs = outs_under (S1.n + S1.m) S1.outs S1.outs_below;
  second_phase = phase_under (S1.n + S2.m) S2.phase (λ v l. S2.phase_below v (omega arith));
  second_outs = outs_under (S1.n + S2.m) S2.outs (λ v l. S2.outs_below v (omega arith));
  phase_is = h;
  outs_is = λ a. refl;
}

pub makes_overlap : (S1 S2 S : PathSum) → S1.n ≡ S2.n → S.n ≡ S1.n → S.m ≡ S1.m + S2.m + S1.n → S.k ≡ S1.k +ℤ S2.k +ℤ pos (S1.n + S1.n) → S.outs ≡ [] → PhaseIs S1 S2 S.phase → IsOverlapOf S1 S2 S
unfolding values
makes_overlap S1 S2 S en ne me ke oe h =
    let r = overlap_read S1.n S1.m S2.m S1.k S2.k (phase_value S1.phase) (phase_value S2.phase) (phase_value S.phase) (values S1.outs) (values S2.outs) (λ a. []) (reading S1 S2 S.phase en h) in
    record {
      qubits_are = ne;
      no_outs = oe;
      overlaps = record { m_is = omega arith; k_is = ke; phase_is = r.phase_is; outs_is = λ x y lx ly. ap (λ (fs : List (List (List ℕ))). values fs (bit (x ++ y))) oe };
    }
