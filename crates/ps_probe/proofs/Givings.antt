-- What is found where some inputs are fixed is justified.
use mathlib.Core.Path.{fun_ext}
use Rattle.std.proofs.Common.{◌≡◌, ℕ, zero, suc, ◌-◌, ◌%◌, ◌<◌, ◌≤◌, refl, ap, sym, ◌∙◌, subst, arith, Bool, true, false, ◌&&◌, cond, List, [], ◌∷◌, ◌++◌, length, take, inl, inr}
use Rattle.std.proofs.Math.IntN.{ℤ, pos, ◌-ℤ◌}
use Rattle.std.specs.Prelude.{nat_lt}
use Rattle.std.proofs.lemmas.Bool.Decides.{nat_tests}
use Rattle.ps_ring.specs.Truths.{Truths, bit, same_bits}
use Rattle.ps_ring.specs.Numbers.{one, when, root2, above}
use Rattle.ps_ring.specs.Sums.{PathValues, total, signed_count}
use Rattle.ps_ring.specs.Joins.{OverlapSum}
use Rattle.ps_ring.proofs.Turned.{one_number, turned_same}
use Rattle.ps_ring.proofs.Totals.{total_ext}
use Rattle.ps_ring.proofs.Roots.{same_sym, same_trans}
use Rattle.ps_ring.proofs.StepLaws.{signed_number}
use Rattle.ps_mono.specs.Sets.{stands, is_set}
use Rattle.ps_phase.specs.Phases.{phase_value, phase_occurs}
use Rattle.ps_phase.proofs.Values.{phase_agree}
use Rattle.ps_prim.specs.declared.prims.Primitive.{Primitive as Prim}
use Rattle.ps_prim.specs.Maps.{AllWithin, SameAt, DiffersAt}
use Rattle.ps_prim.specs.Overlaps.{IsOne}
use Rattle.ps_prim.proofs.Overlaps.{overlap_one, overlap_not_one}
use Rattle.ps_prim.proofs.ClosedSums.{plain_is_one}
use Rattle.ps_sum.specs.declared.sums.PathSum.{PathSum}
use Rattle.ps_sum.specs.Outs.{values}
use Rattle.ps_sum.specs.Sums.{path_values}
use Rattle.ps_rules.specs.declared.steps.Step.{Step}
use Rattle.ps_overlap.specs.Overlapping.{IsOverlapOf, point}
use Rattle.ps_overlap.proofs.LeastPoints.{point_bit, vanishing_not_one, first_point_not_one}
use Rattle.ps_reach.specs.Reductions.{Reduces, normal, ReducesTo}
use Rattle.ps_reach.specs.Normals.{IsNormalFor}
use Rattle.ps_reach.specs.Overruns.{Overrun, part, IsOver}
use Rattle.ps_reach.specs.Fillings.{Outcome}
use Rattle.ps_reach.specs.Findings.{Finding, IsUnit, IsOverIn}
use Rattle.ps_reach.proofs.Reducing.{reduces_n, reduces_width, reduces_number}
use Rattle.ps_reach.proofs.Denoting.{Stands, normal_stands}
use Rattle.ps_reach.proofs.Filling.{RightOutcome, take_whole}
use Rattle.ps_probe.specs.declared.pattern.Pattern.{Pattern}
use Rattle.ps_probe.specs.Patterns.{is_fixed, is_one, set_by, Matches, IsFilled, IsRestricted}
use Rattle.ps_probe.specs.Giving.{ShowsGiven, unit, no_unit, vanishing, all_one, first_other, left, EndsGiven, step_passes, shows, GivesOverlap, passes, ends, Gives, first_limit, second_limit, sums, IsGivenJustified}
use Rattle.ps_probe.proofs.Tables.{taken_long}
use Rattle.ps_probe.proofs.Searches.{bit_point}

-- ---- sums with the same scale and the same count are 1 at the same places
count_one : (S S' : PathValues) (x x' : Truths) → S.k ≡ S'.k → ((j : ℤ) → signed_count S x [] j ≡ signed_count S' x' [] j) → IsOne S x → IsOne S' x'
count_one S S' x x' e c h j =
    ap (λ n. root2 n (signed_count S' x' []) j) (ap (λ k. above k (pos 0)) (sym e)) ∙ ap (λ u. root2 (above S.k (pos 0)) u j) (sym (fun_ext c)) ∙ h j ∙ ap (λ n. root2 n one j) (ap (λ k. above (pos 0) k) e)

closed_count : (S : PathSum) (m : ℕ) (F : Truths → ℕ) (x : Truths) → S.m ≡ m → S.outs ≡ [] → ((y : Truths) → phase_value S.phase (bit (x ++ y)) % 4294967296 ≡ F y % 4294967296) → (j : ℤ) → signed_count (path_values S) x [] j ≡ total m (λ y. one (j -ℤ pos (F y)))
unfolding signed_count values same_bits when
closed_count S m F x e o f j =
    ap (λ k. total k (λ y. when (same_bits (values S.outs (bit (x ++ y))) []) (one (j -ℤ pos (phase_value S.phase (bit (x ++ y))))))) e
    ∙ total_ext m _ _ (λ y l. ap (λ (r : List (List (List ℕ))). when (same_bits (values r (bit (x ++ y))) []) (one (j -ℤ pos (phase_value S.phase (bit (x ++ y)))))) o ∙ turned_same one one_number (phase_value S.phase (bit (x ++ y))) (F y) (f y) j)

-- ---- an input that matches
fixed_len : (p : Pattern) (i : ℕ) → is_fixed p i ≡ true → i < p.len
fixed_len p i e = by (nat_lt i p.len) refl e
  where
    by : (b : Bool) → nat_lt i p.len ≡ b → (b && is_set p.fixed i) ≡ true → i < p.len
    by true l k = grind (arith, nat_tests, l)
    by false l k = absurd (never k)
      where
        never : false ≡ true → ⊥
        never q = cc

front : (x y : Truths) (i : ℕ) → i < length x → bit (x ++ y) i ≡ bit x i
front [] y i h = absurd (omega (arith, h))
front (b ∷ x) y zero h = refl
front (b ∷ x) y (suc i) h = front x y i (omega (arith, h))

set_same : (p : Pattern) (x y : Truths) → length x ≡ p.len → Matches p x → (v : ℕ) → set_by p (bit (x ++ y)) v ≡ bit (x ++ y) v
set_same p x y l m v = by (is_fixed p v) refl
  where
    by : (b : Bool) → is_fixed p v ≡ b → cond b (is_one p v) (bit (x ++ y) v) ≡ bit (x ++ y) v
    by true e = let h = fixed_len p v e in sym (front x y v (omega (arith, h, l)) ∙ m v e)
    by false e = refl

-- there a restricted sum counts as the sum itself
restricted_count : (p : Pattern) (S R : PathSum) (x : Truths) → IsRestricted p S R → S.outs ≡ [] → length x ≡ p.len → Matches p x → (j : ℤ) → signed_count (path_values R) x [] j ≡ signed_count (path_values S) x [] j
restricted_count p S R x r o l m j =
    closed_count R S.m (λ y. phase_value S.phase (bit (x ++ y))) x r.m_is r.no_outs (λ y. r.phase_is (bit (x ++ y)) ∙ ap (λ a. phase_value S.phase a % 4294967296) (fun_ext (set_same p x y l m))) j
    ∙ sym (closed_count S S.m (λ y. phase_value S.phase (bit (x ++ y))) x refl o (λ y. refl) j)

pub restricted_one : (p : Pattern) (S R : PathSum) (x : Truths) → IsRestricted p S R → S.outs ≡ [] → length x ≡ p.len → Matches p x → IsOne (path_values R) x → IsOne (path_values S) x
restricted_one p S R x r o l m = count_one (path_values R) (path_values S) x x r.k_is (restricted_count p S R x r o l m)

pub restricted_back : (p : Pattern) (S R : PathSum) (x : Truths) → IsRestricted p S R → S.outs ≡ [] → length x ≡ p.len → Matches p x → IsOne (path_values S) x → IsOne (path_values R) x
restricted_back p S R x r o l m = count_one (path_values S) (path_values R) x x (sym r.k_is) (λ j. sym (restricted_count p S R x r o l m j))

past : (xs zs : Truths) (y : Truths) (v : ℕ) → length xs ≡ length zs → length xs ≤ v → bit (xs ++ y) v ≡ bit (zs ++ y) v
past [] [] y v l h = refl
past [] (z ∷ zs) y v l h = absurd (omega (arith, l))
past (x ∷ xs) [] y v l h = absurd (omega (arith, l))
past (x ∷ xs) (z ∷ zs) y zero l h = absurd (omega (arith, h))
past (x ∷ xs) (z ∷ zs) y (suc v) l h = past xs zs y v (omega (arith, l)) (omega (arith, h))

-- ---- fixed inputs that are put into an input don't matter to a restricted sum
filled_bit : (p : Pattern) (n : ℕ) (bits at : List ℕ) (y : Truths) (v : ℕ) → IsFilled p bits at → is_fixed p v ≡ false → bit (point n bits ++ y) v ≡ bit (point n at ++ y) v
filled_bit p n bits at y v f e = by (nat_lt v n) refl
  where
    same : stands v at ≡ stands v bits
    same = f.values v ∙ ap (λ b. cond b (is_one p v) (stands v bits)) e

    by : (b : Bool) → nat_lt v n ≡ b → bit (point n bits ++ y) v ≡ bit (point n at ++ y) v
    by true l = point_bit n v bits y (grind (arith, nat_tests, l)) ∙ sym same ∙ sym (point_bit n v at y (grind (arith, nat_tests, l)))
    by false l = past (point n bits) (point n at) y v (taken_long n 0 (λ u. stands u bits) ∙ sym (taken_long n 0 (λ u. stands u at))) (let k = taken_long n 0 (λ u. stands u bits) in let g : n ≤ v = grind (arith, nat_tests, l) in omega (arith, k, g))

filled_count : (p : Pattern) (S R : PathSum) (n : ℕ) (bits at : List ℕ) → IsRestricted p S R → IsFilled p bits at → (j : ℤ) → signed_count (path_values R) (point n bits) [] j ≡ signed_count (path_values R) (point n at) [] j
filled_count p S R n bits at r f j =
    closed_count R R.m (λ y. phase_value R.phase (bit (point n at ++ y))) (point n bits) refl r.no_outs (λ y. ap (λ k. k % 4294967296) (phase_agree R.phase (bit (point n bits ++ y)) (bit (point n at ++ y)) (λ v o. filled_bit p n bits at y v f (free v o)))) j
    ∙ sym (closed_count R R.m (λ y. phase_value R.phase (bit (point n at ++ y))) (point n at) refl r.no_outs (λ y. refl) j)
  where
    free : (v : ℕ) → phase_occurs v R.phase ≡ true → is_fixed p v ≡ false
    free v o = by (is_fixed p v) refl
      where
        by : (b : Bool) → is_fixed p v ≡ b → b ≡ false
        by true e = absurd (never (sym o ∙ r.gone v e))
          where
            never : true ≡ false → ⊥
            never q = cc
        by false e = refl

filled_matches : (p : Pattern) (n : ℕ) (bits at : List ℕ) → p.len ≡ n → IsFilled p bits at → Matches p (point n at)
filled_matches p n bits at l f i e = let h = fixed_len p i e in bit_point n i at (omega (arith, h, l)) ∙ f.values i ∙ ap (λ b. cond b (is_one p i) (stands i bits)) e

-- ---- the overlap of two sums that stand for A and B, with the fixed inputs put in
record Fixed (n : ℕ) (A B : List Prim) (p : Pattern) (S1 S2 S R : PathSum) : Type 0 where
  first : Stands n A S1
  second : Stands n B S2
  overlap : IsOverlapOf S1 S2 S
  restricted : IsRestricted p S R
  first_within : AllWithin n A
  second_within : AllWithin n B
  len : p.len ≡ n

unit_is_one : (S : PathSum) (x : Truths) → S.outs ≡ [] → IsUnit S → IsOne (path_values S) x
unfolding values phase_value
unit_is_one S x o u = plain_is_one (path_values S) x u.paths (ap (λ fs. values fs (bit (x ++ []))) o) u.scale (ap (λ ts. phase_value ts (bit (x ++ [])) % 4294967296) u.phase)

one_before : {S T : PathSum} {ss : List Step} (x : Truths) → Reduces S ss T → length x ≡ S.n → IsOne (path_values T) x → IsOne (path_values S) x
one_before {S} {T} x r l h = same_trans S.k T.k (pos 0) _ _ _ (signed_number (path_values S) x []) one_number (reduces_number r x [] l) h

one_after : {S T : PathSum} {ss : List Step} (x : Truths) → Reduces S ss T → length x ≡ S.n → IsOne (path_values S) x → IsOne (path_values T) x
one_after {S} {T} x r l h = same_trans T.k S.k (pos 0) _ _ _ (signed_number (path_values T) x []) one_number (same_sym S.k T.k _ _ (reduces_number r x [] l)) h

no_outs : {S R T : PathSum} {p : Pattern} {ss : List Step} → IsRestricted p S R → Reduces R ss T → T.outs ≡ []
no_outs {T = T} e r = none T.outs (reduces_width r ∙ ap length e.no_outs)
  where
    none : (fs : List (List (List ℕ))) → length fs ≡ 0 → fs ≡ []
    none [] e = refl
    none (f ∷ fs) e = absurd (omega (arith, e))

start_n : {n : ℕ} {A B : List Prim} {p : Pattern} {S1 S2 S R : PathSum} → Fixed n A B p S1 S2 S R → R.n ≡ n
start_n v = v.restricted.n_is ∙ v.overlap.qubits_are ∙ v.first.n_is

one_same : {n : ℕ} {A B : List Prim} {p : Pattern} {S1 S2 S R T : PathSum} {ss : List Step} (x : Truths) → Fixed n A B p S1 S2 S R → Reduces R ss T → length x ≡ n → Matches p x → IsOne (path_values T) x → SameAt n A B x
one_same {n} {A} {B} {p} {S1} {S2} {S} {R} x v r l m h =
    overlap_one n (path_values S1) (path_values S2) (path_values S) A B (subst (λ k. OverlapSum k (path_values S1) (path_values S2) (path_values S)) v.first.n_is v.overlap.overlaps) v.first.denotes v.second.denotes v.first_within v.second_within x l
    (restricted_one p S R x v.restricted v.overlap.no_outs (l ∙ sym v.len) m (one_before x r (l ∙ sym (start_n v)) h))

not_one_differs : {n : ℕ} {A B : List Prim} {p : Pattern} {S1 S2 S R : PathSum} (x : Truths) → Fixed n A B p S1 S2 S R → length x ≡ n → Matches p x → ¬ (IsOne (path_values R) x) → DiffersAt n A B x
not_one_differs {n} {A} {B} {p} {S1} {S2} {S} {R} x v l m h =
    overlap_not_one n (path_values S1) (path_values S2) (path_values S) A B (subst (λ k. OverlapSum k (path_values S1) (path_values S2) (path_values S)) v.first.n_is v.overlap.overlaps) v.first.denotes v.second.denotes v.first_within v.second_within x l
    (λ one. h (restricted_back p S R x v.restricted v.overlap.no_outs (l ∙ sym v.len) m one))

-- at a point of the reduced sum, filled
filled_differs : {n : ℕ} {A B : List Prim} {p : Pattern} {S1 S2 S R T : PathSum} {ss : List Step} (bits at : List ℕ) → Fixed n A B p S1 S2 S R → Reduces R ss T → IsFilled p bits at → ¬ (IsOne (path_values T) (point T.n bits)) → Matches p (point n at) × DiffersAt n A B (point n at)
filled_differs {n} {A} {B} {p} {S1} {S2} {S} {R} {T} bits at v r f h =
    let tn : T.n ≡ n = reduces_n r ∙ start_n v in
    let m = filled_matches p n bits at v.len f in (
      m,
      not_one_differs (point n at) v (taken_long n 0 (λ u. stands u at)) m
          (λ one. subst (λ k. ¬ (IsOne (path_values T) (point k bits))) tn h
          (one_after (point n bits) r (taken_long n 0 (λ u. stands u bits) ∙ sym (start_n v)) (count_one (path_values R) (path_values R) (point n at) (point n bits) refl (λ j. sym (filled_count p S R n bits at v.restricted f j)) one))),
    )

at_differs : {n : ℕ} {A B : List Prim} {p : Pattern} {S1 S2 S R T : PathSum} {ss : List Step} (at : List ℕ) → Fixed n A B p S1 S2 S R → Reduces R ss T → Matches p (point T.n at) → ¬ (IsOne (path_values T) (point T.n at)) → Matches p (point n at) × DiffersAt n A B (point n at)
at_differs {n} {A} {B} {p} {S1} {S2} {S} {R} {T} at v r m h =
    let tn : T.n ≡ n = reduces_n r ∙ start_n v in
    let w : Matches p (point n at) = subst (λ k. Matches p (point k at)) tn m in
    (w, not_one_differs (point n at) v (taken_long n 0 (λ u. stands u at)) w (λ one. subst (λ k. ¬ (IsOne (path_values T) (point k at))) tn h (one_after (point n at) r (taken_long n 0 (λ u. stands u at) ∙ sym (start_n v)) one)))

-- ---- what a sum shows
shown : {n : ℕ} {A B : List Prim} {p : Pattern} {S1 S2 S R T : PathSum} {ss : List Step} {f : Finding} → IsNormalFor n A S1 → IsNormalFor n B S2 → Fixed n A B p S1 S2 S R → ReducesTo R ss (normal T) → ShowsGiven p T f → IsGivenJustified n A B p f
shown {T = T} a b v r (unit u) = λ x l m. one_same x v r.taken l m (unit_is_one T x (no_outs v.restricted r.taken) u)
shown {T = T} a b v r (no_unit {bits = bits} {at = at} e u q f) = filled_differs bits at v r.taken f (first_point_not_one T bits e q)
shown {T = T} a b v r (vanishing {y = y} {bits = bits} {at = at} w q f) = filled_differs bits at v r.taken f (vanishing_not_one T y bits w.vanishes q)
shown {n} {T = T} a b v r (all_one o c q) = λ x l m. one_same x v r.taken l m (q x (l ∙ sym (reduces_n r.taken ∙ start_n v)) m tt)
shown {T = T} a b v r (first_other {at = at} o c q) = at_differs at v r.taken q.matches q.other
shown {S1 = S1} {S2 = S2} {S = S} {R = R} {T = T} {ss = ss} a b v r (left o c) = record {
  start = R;
  steps = ss;
  begins = record { first = S1; second = S2; both = S; first_normal = a; second_normal = b; overlap = v.overlap; restricted = v.restricted };
  reduced = r;
  open_ = o;
  many = c;
}

whole_part : (A : List Prim) → part 0 (length A) A ≡ A
whole_part A =
    let e : length A - 0 ≡ length A = omega arith in
    ap (λ k. take k A) e ∙ take_whole A

in_whole : {n : ℕ} {A : List Prim} {e : Overrun} → IsOver n A e → IsOverIn n A e
in_whole {n} {A} {e} h = record { from = 0; to = length A; over = subst (λ B. IsOver n B e) (sym (whole_part A)) h }

ended : {n : ℕ} {A B : List Prim} {p : Pattern} {S1 S2 S R : PathSum} {f : Finding} → IsNormalFor n A S1 → IsNormalFor n B S2 → Fixed n A B p S1 S2 S R → EndsGiven p R f → IsGivenJustified n A B p f
ended {S1 = S1} {S2 = S2} {S = S} {R = R} a b v (step_passes {ss = ss} r) = inr (inr (R, (ss, (record { first = S1; second = S2; both = S; first_normal = a; second_normal = b; overlap = v.overlap; restricted = v.restricted }, r))))
ended a b v (shows r s) = shown a b v r s

overlap_justified : {n : ℕ} {A B : List Prim} {p : Pattern} {S1 S2 : PathSum} {f : Finding} → p.len ≡ n → IsNormalFor n A S1 → IsNormalFor n B S2 → AllWithin n A → AllWithin n B → GivesOverlap p S1 S2 f → IsGivenJustified n A B p f
overlap_justified l a b w v (passes h) = inr (inr ((a, b), h))
overlap_justified l a b w v (ends o r e) = ended a b (record { first = normal_stands a w; second = normal_stands b v; overlap = o; restricted = r; first_within = w; second_within = v; len = l }) e

pub gives_justified : (n : ℕ) (A B : List Prim) (p : Pattern) {o1 o2 : Outcome} {f : Finding} → p.len ≡ n → RightOutcome n A o1 → RightOutcome n B o2 → AllWithin n A → AllWithin n B → Gives p o1 o2 f → IsGivenJustified n A B p f
gives_justified n A B p l a b w v first_limit = inl (in_whole a)
gives_justified n A B p l a b w v second_limit = inr (inl (in_whole b))
gives_justified n A B p l a b w v (sums g) = overlap_justified l a.0 b.0 w v g
