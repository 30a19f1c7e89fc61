-- A word spells one pattern, and one thing is found at the inputs that match it.
use mathlib.Core.Path.{fun_ext}
use Rattle.std.proofs.Common.{◌≡◌, ℕ, zero, suc, ◌<◌, ◌≤◌, refl, ap, sym, ◌∙◌, subst, arith, Bool, true, false, nat_eq, None, Some, List, [], ◌∷◌, ◌++◌, length, ◌⊎◌, inl, inr}
use Rattle.std.specs.Int.{bit_at}
use Rattle.std.specs.Prelude.{nat_lt}
use Rattle.std.proofs.lemmas.Bool.Decides.{nat_tests}
use Rattle.std.proofs.lemmas.Nat.Bits.{bit_at-lt, same_from_bits}
use Rattle.ps_ring.specs.Truths.{Truths, bit}
use Rattle.ps_mono.specs.Sets.{is_set, stands, members, IsVarSet}
use Rattle.ps_sum.specs.declared.sums.PathSum.{PathSum}
use Rattle.ps_sum.specs.declared.faults.Passed.{Passed}
use Rattle.ps_sum.specs.Outs.{values}
use Rattle.ps_sum.proofs.Uniqueness.{sum_only}
use Rattle.ps_rules.specs.declared.steps.Step.{Step}
use Rattle.ps_overlap.specs.Overlapping.{LeastVanishing, IsLeastPoint, IsFirstPoint, point}
use Rattle.ps_overlap.proofs.Overlapped.{overlap_only, overlap_passes_once, overlap_passes_not}
use Rattle.ps_overlap.proofs.LeastPoints.{first_point_only, least_point_only}
use Rattle.ps_reach.specs.Fillings.{Outcome, overrun}
use Rattle.ps_reach.specs.Findings.{Finding, yes, no, stuck, limit, IsUnit}
use Rattle.ps_reach.proofs.FillsOnce.{overs_once, normals_once, normal_or_over}
use Rattle.ps_probe.specs.declared.pattern.Pattern.{Pattern}
use Rattle.ps_probe.specs.Patterns.{Spells, IsFilled, IsRestricted}
use Rattle.ps_probe.specs.Searching.{Before, AllOne, IsFirstOther}
use Rattle.ps_probe.specs.Giving.{IsOpen, counted_of, IsInput, ShowsGiven, unit, no_unit, vanishing, all_one, first_other, left, EndsGiven, step_passes, shows, GivesOverlap, passes, ends, Gives, first_limit, second_limit, sums}
use Rattle.ps_probe.proofs.Searches.{bit_point}
use Rattle.ps_probe.proofs.Tables.{taken_long}

-- ---- a word spells one pattern
same_digit : (x y : ℕ) → x < 2 → y < 2 → nat_eq x 1 ≡ nat_eq y 1 → x ≡ y
same_digit x y a b e = grind (arith, nat_tests)

same_number : (x y : ℕ) → ((i : ℕ) → is_set x i ≡ is_set y i) → x ≡ y
unfolding is_set
same_number x y e = same_from_bits x y (λ i. same_digit (bit_at x i) (bit_at y i) (bit_at-lt x i) (bit_at-lt y i) (e i))

abbrev pattern_of : ℕ → ℕ → ℕ → Pattern
pattern_of n fixed ones = record { len = n; fixed = fixed; ones = ones }

pub spells_once : (w : List ℕ) (p q : Pattern) → Spells w p → Spells w q → p ≡ q
spells_once w p q a b =
    ap (λ n. pattern_of n p.fixed p.ones) (a.len_is ∙ sym b.len_is)
    ∙ ap (λ n. pattern_of q.len n p.ones) (same_number p.fixed q.fixed (λ i. a.fixed_is i ∙ sym (b.fixed_is i)))
    ∙ ap (λ n. pattern_of q.len q.fixed n) (same_number p.ones q.ones (λ i. a.ones_is i ∙ sym (b.ones_is i)))

-- ---- a sum with the fixed inputs put in is one
restricted_once : (p : Pattern) (S R T : PathSum) → IsRestricted p S R → IsRestricted p S T → R ≡ T
restricted_once p S R T r t = sum_only R T (record {
  n_is = r.n_is ∙ sym t.n_is;
  m_is = r.m_is ∙ sym t.m_is;
  k_is = r.k_is ∙ sym t.k_is;
  phase_is = λ x y lx ly. r.phase_is (bit (x ++ y)) ∙ sym (t.phase_is (bit (x ++ y)));
  outs_is = λ x y lx ly. ap (λ (o : List (List (List ℕ))). values o (bit (x ++ y))) (r.no_outs ∙ sym t.no_outs);
})

-- ---- an input is one
same_set : (xs ys : List ℕ) → IsVarSet xs → IsVarSet ys → ((v : ℕ) → stands v xs ≡ stands v ys) → xs ≡ ys
same_set xs ys a b e = sym a ∙ ap (λ f. members f 0 512) (fun_ext e) ∙ b

filled_once : (p : Pattern) (bits bits' at at' : List ℕ) → bits ≡ bits' → IsFilled p bits at → IsFilled p bits' at' → at ≡ at'
filled_once p bits bits' at at' e f g =
    let h = subst (λ (b : List ℕ). IsFilled p b at) e f in
    same_set at at' h.form g.form (λ v. h.values v ∙ sym (g.values v))

-- of two inputs one comes before the other, or they are the same
later : (b : Bool) (x z : Truths) → Before x z → Before (b ∷ x) (b ∷ z)
later b x z h = record { place = suc h.place; lower = h.lower; higher = h.higher; equal = equal }
  where
    equal : (i : ℕ) → i < suc h.place → bit (b ∷ x) i ≡ bit (b ∷ z) i
    equal zero l = refl
    equal (suc i) l = h.equal i (omega (arith, l))

first_before : (x z : Truths) → Before (false ∷ x) (true ∷ z)
first_before x z = record { place = 0; lower = refl; higher = refl; equal = λ i l. absurd (omega (arith, l)) }

in_order : (x z : Truths) → length x ≡ length z → (x ≡ z) ⊎ ((Before x z) ⊎ (Before z x))
in_order [] [] e = inl refl
in_order [] (b ∷ z) e = absurd (omega (arith, e))
in_order (b ∷ x) [] e = absurd (omega (arith, e))
in_order (false ∷ x) (true ∷ z) e = inr (inl (first_before x z))
in_order (true ∷ x) (false ∷ z) e = inr (inr (first_before z x))
in_order (true ∷ x) (true ∷ z) e = elim (in_order x z (omega (arith, e))) [ inl q ↦ inl (ap (λ y. true ∷ y) q) | inr (inl h) ↦ inr (inl (later true x z h)) | inr (inr h) ↦ inr (inr (later true z x h)) ]
in_order (false ∷ x) (false ∷ z) e = elim (in_order x z (omega (arith, e))) [ inl q ↦ inl (ap (λ y. false ∷ y) q) | inr (inl h) ↦ inr (inl (later false x z h)) | inr (inr h) ↦ inr (inr (later false z x h)) ]

point_long : (n : ℕ) (at : List ℕ) → length (point n at) ≡ n
point_long n at = taken_long n 0 (λ u. stands u at)

below_or_not : (v n : ℕ) → (v < n) ⊎ (n ≤ v)
below_or_not v n = by (nat_lt v n) refl
  where
    by : (b : Bool) → nat_lt v n ≡ b → (v < n) ⊎ (n ≤ v)
    by true e = inl (grind (arith, nat_tests, e))
    by false e = inr (grind (arith, nat_tests, e))

first_other_once : (p : Pattern) (S : PathSum) (at to : List ℕ) → IsFirstOther p S IsInput at → IsFirstOther p S IsInput to → at ≡ to
first_other_once p S at to a b = by (in_order (point S.n at) (point S.n to) (point_long S.n at ∙ sym (point_long S.n to)))
  where
    by : (point S.n at ≡ point S.n to) ⊎ ((Before (point S.n at) (point S.n to)) ⊎ (Before (point S.n to) (point S.n at))) → at ≡ to
    by (inl e) = same_set at to a.form b.form same
      where
        same : (v : ℕ) → stands v at ≡ stands v to
        same v = elim (below_or_not v S.n) [ inl l ↦ sym (bit_point S.n v at l) ∙ ap (λ (y : Truths). bit y v) e ∙ bit_point S.n v to l | inr l ↦ a.below v l ∙ sym (b.below v l) ]
    by (inr (inl h)) = absurd (a.other (b.first (point S.n at) (point_long S.n at) a.matches (tt, h)))
    by (inr (inr h)) = absurd (b.other (a.first (point S.n to) (point_long S.n to) b.matches (tt, h)))

-- ---- one thing is shown
data Plain (p : Pattern) (T : PathSum) : Finding → Type 0 where
  is_unit : IsUnit T → Plain p T yes
  is_other : {bits at : List ℕ} → ¬ (IsUnit T) → IsFirstPoint T bits → IsFilled p bits at → Plain p T (no at)

data Counted (p : Pattern) (T : PathSum) : Finding → Type 0 where
  few_one : counted_of p T ≤ 16 → AllOne p T IsInput → Counted p T yes
  few_other : {at : List ℕ} → counted_of p T ≤ 16 → IsFirstOther p T IsInput at → Counted p T (no at)
  many : 16 < counted_of p T → Counted p T (stuck T)

data Group (p : Pattern) (T : PathSum) : Finding → Type 0 where
  plain : {f : Finding} → T.m ≡ 0 → Plain p T f → Group p T f
  vanishes : {y : ℕ} {bits at : List ℕ} → LeastVanishing T y → IsLeastPoint T y bits → IsFilled p bits at → Group p T (no at)
  counted : {f : Finding} → IsOpen T → Counted p T f → Group p T f

group : {p : Pattern} {T : PathSum} {f : Finding} → ShowsGiven p T f → Group p T f
group (unit u) = plain u.paths (is_unit u)
group (no_unit e n q f) = plain e (is_other n q f)
group (vanishing {y = y} v q f) = vanishes {y = y} v q f
group (all_one o c a) = counted o (few_one c a)
group (first_other o c a) = counted o (few_other c a)
group (left o c) = counted o (many c)

plain_once : {p : Pattern} {T : PathSum} {f g : Finding} → Plain p T f → Plain p T g → f ≡ g
plain_once (is_unit u) (is_unit v) = refl
plain_once (is_unit u) (is_other n q f) = absurd (n u)
plain_once (is_other n q f) (is_unit u) = absurd (n u)
plain_once {p} {T} (is_other {bits = b} {at = at} n q f) (is_other {bits = c} {at = to} m r g) = ap no (filled_once p b c at to (first_point_only T b c q r) f g)

counted_once : {p : Pattern} {T : PathSum} {f g : Finding} → Counted p T f → Counted p T g → f ≡ g
counted_once (few_one c a) (few_one d b) = refl
counted_once {p} {T} (few_one c a) (few_other {at = at} d b) = absurd (b.other (a (point T.n at) (point_long T.n at) b.matches tt))
counted_once (few_one c a) (many d) = absurd (omega (arith, c, d))
counted_once {p} {T} (few_other {at = at} d b) (few_one c a) = absurd (b.other (a (point T.n at) (point_long T.n at) b.matches tt))
counted_once {p} {T} (few_other {at = at} c a) (few_other {at = to} d b) = ap no (first_other_once p T at to a b)
counted_once (few_other c a) (many d) = absurd (omega (arith, c, d))
counted_once (many d) (few_one c a) = absurd (omega (arith, c, d))
counted_once (many d) (few_other c a) = absurd (omega (arith, c, d))
counted_once (many c) (many d) = refl

nat_cmp_cases : (y z : ℕ) → (y < z) ⊎ ((z < y) ⊎ (y ≡ z))
nat_cmp_cases y z = elim (below_or_not y z) [ inl l ↦ inl l | inr h ↦ elim (below_or_not z y) [ inl l ↦ inr (inl l) | inr k ↦ inr (inr (omega (arith, h, k))) ] ]

least_once : (T : PathSum) (y z : ℕ) → LeastVanishing T y → LeastVanishing T z → y ≡ z
least_once T y z a b = by (nat_cmp_cases y z)
  where
    by : (y < z) ⊎ ((z < y) ⊎ (y ≡ z)) → y ≡ z
    by (inl l) = absurd (b.first y l a.vanishes)
    by (inr (inl l)) = absurd (a.first z l b.vanishes)
    by (inr (inr e)) = e

no_path : (T : PathSum) (y : ℕ) → T.m ≡ 0 → LeastVanishing T y → ⊥
no_path T y e v = let h = v.vanishes.inside in omega (arith, e, h)

no_open_path : (T : PathSum) → T.m ≡ 0 → IsOpen T → ⊥
no_open_path T e o = let h = o.some in omega (arith, e, h)

group_once : {p : Pattern} {T : PathSum} {f g : Finding} → Group p T f → Group p T g → f ≡ g
group_once (plain e a) (plain d b) = plain_once a b
group_once {p} {T} (plain e a) (vanishes {y = y} v q f) = absurd (no_path T y e v)
group_once {p} {T} (plain e a) (counted o b) = absurd (no_open_path T e o)
group_once {p} {T} (vanishes {y = y} v q f) (plain e a) = absurd (no_path T y e v)
group_once {p} {T} (vanishes {y = y} {bits = b} {at = at} v q f) (vanishes {y = z} {bits = c} {at = to} w r g) =
    ap no (filled_once p b c at to (least_point_only T z b c (subst (λ u. IsLeastPoint T u b) (least_once T y z v w) q) r) f g)
group_once {p} {T} (vanishes {y = y} v q f) (counted o b) = absurd (o.none y v.vanishes)
group_once {p} {T} (counted o b) (plain e a) = absurd (no_open_path T e o)
group_once {p} {T} (counted o b) (vanishes {y = y} v q f) = absurd (o.none y v.vanishes)
group_once (counted o a) (counted u b) = counted_once a b

-- ---- and found
ends_once : {p : Pattern} {R : PathSum} {f g : Finding} → EndsGiven p R f → EndsGiven p R g → f ≡ g
ends_once {p} {R} (step_passes {T = T} {ss = ss} {q = q} r) (step_passes {T = T'} {ss = ss'} {q = q'} r') =
    let w = overs_once R R T T' ss ss' q q' refl r r' in
    ap (λ S. limit (overrun q 0 0 0 S None)) w.sums ∙ ap (λ k. limit (overrun k 0 0 0 T' None)) w.limits
ends_once {p} {R} (step_passes {T = T} {ss = ss} {q = q} r) (shows {T = T'} {ss = ss'} r' s) = absurd (normal_or_over R R T' T ss' ss q refl r' r)
ends_once {p} {R} (shows {T = T'} {ss = ss'} r' s) (step_passes {T = T} {ss = ss} {q = q} r) = absurd (normal_or_over R R T' T ss' ss q refl r' r)
ends_once {p} {R} (shows {T = T} {ss = ss} {f = f} r s) (shows {T = T'} {ss = ss'} {f = g} r' s') =
    let w = normals_once R R T T' ss ss' refl r r' in
    group_once (group s) (group (subst (λ S. ShowsGiven p S g) (sym w.sums) s'))

overlap_once : {p : Pattern} {S1 S2 : PathSum} {f g : Finding} → GivesOverlap p S1 S2 f → GivesOverlap p S1 S2 g → f ≡ g
overlap_once {p} {S1} {S2} (passes {q = q} h) (passes {q = r} k) = ap (λ l. limit (overrun l 0 0 0 S1 (Some S2))) (overlap_passes_once S1 S2 q r h k)
overlap_once {p} {S1} {S2} (passes {q = q} h) (ends {S = S} o r e) = absurd (overlap_passes_not S1 S2 S q h o)
overlap_once {p} {S1} {S2} (ends {S = S} o r e) (passes {q = q} h) = absurd (overlap_passes_not S1 S2 S q h o)
overlap_once {p} {S1} {S2} (ends {S = S} {R = R} {f = f} o r e) (ends {S = S'} {R = R'} {f = g} o' r' e') =
    let same : R ≡ R' = restricted_once p S' R R' (subst (λ T. IsRestricted p T R) (overlap_only S1 S2 S S' o o') r) r' in
    ends_once (subst (λ T. EndsGiven p T f) same e) e'

pub gives_once : {p : Pattern} {o1 o2 : Outcome} {f g : Finding} → Gives p o1 o2 f → Gives p o1 o2 g → f ≡ g
gives_once first_limit first_limit = refl
gives_once second_limit second_limit = refl
gives_once (sums a) (sums b) = overlap_once a b
