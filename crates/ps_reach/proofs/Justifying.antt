-- What comparing finds is one thing, and is justified.
use Rattle.std.proofs.Common.{◌≡◌, ◌≢◌, ℕ, ◌-◌, ◌%◌, ◌<◌, refl, ap, sym, ◌∙◌, subst, arith, Some, None, List, [], ◌∷◌, ◌++◌, length, take, ◌⊎◌, inl, inr}
use Rattle.std.proofs.lemmas.Bool.{cases_lt}
use Rattle.std.specs.Prelude.{pos}
use Rattle.std.specs.List.{Any}
use Rattle.ps_ring.specs.Truths.{Truths, bit}
use Rattle.ps_ring.specs.Joins.{OverlapSum}
use Rattle.ps_ring.proofs.Turned.{one_number}
use Rattle.ps_ring.proofs.Roots.{same_sym, same_trans}
use Rattle.ps_ring.proofs.StepLaws.{signed_number}
use Rattle.ps_prim.specs.declared.prims.Primitive.{Primitive as Prim}
use Rattle.ps_prim.specs.Maps.{AllWithin, SameAt, DiffersAt, SamePhaseAt, PhaseDiffersAt}
use Rattle.ps_prim.specs.Overlaps.{IsOne, IsTurn}
use Rattle.ps_prim.proofs.Overlaps.{overlap_one, overlap_not_one}
use Rattle.ps_prim.proofs.ClosedSums.{plain_is_one}
use Rattle.ps_prim.proofs.Phases.{overlap_turn, overlap_no_turn, plain_is_turn, turn_is_plain}
use Rattle.ps_prim.proofs.Different.{one_turned}
use Rattle.ps_phase.specs.Phases.{phase_value}
use Rattle.ps_sum.specs.declared.sums.PathSum.{PathSum}
use Rattle.ps_sum.specs.Outs.{values}
use Rattle.ps_sum.specs.Sums.{path_values}
use Rattle.ps_sum.proofs.Uniqueness.{taken_length}
use Rattle.ps_rules.specs.declared.steps.Step.{Step}
use Rattle.ps_overlap.specs.Overlapping.{IsOverlapOf, Vanishes, LeastVanishing, point, IsLeastPoint, IsTurningPoint}
use Rattle.ps_reach.specs.Reductions.{Reduces, normal, ReducesTo}
use Rattle.ps_reach.specs.Normals.{IsNormalFor}
use Rattle.ps_reach.specs.Overruns.{Overrun, part, IsOver}
use Rattle.ps_reach.specs.Fillings.{Outcome, overrun}
use Rattle.ps_reach.specs.Findings.{Finding, yes_phase, no, no_pair, limit, IsUnit, ShowsPlain, unit, no_unit, scaled, constant, turning, Shows, no_paths, vanishing, nothing, Overlaps, passes, step_passes, shows, Compares, first_limit, second_limit, sums, IsOverIn, DiffersIn, IsJustified}
use Rattle.ps_reach.specs.declared.mode.Mode.{Mode}
use Rattle.ps_reach.specs.declared.mode.Mode.TheVariants.{Exact, Phase}
use Rattle.ps_reach.proofs.Reducing.{reduces_n, reduces_width, reduces_number}
use Rattle.ps_reach.proofs.Denoting.{Stands, normal_stands}
use Rattle.ps_reach.proofs.FillsOnce.{normals_once, overs_once, normal_or_over}
use Rattle.ps_reach.proofs.Filling.{RightOutcome, take_whole}
use Rattle.ps_overlap.proofs.Overlapped.{overlap_only, overlap_passes_once, overlap_passes_not}
use Rattle.ps_overlap.proofs.LeastPoints.{vanishing_not_one, vanishing_no_turn, first_point_not_one, first_point_only, least_point_only}
use Rattle.ps_overlap.proofs.Turning.{constant_turn, constant_only, constant_not_turning, turning_only, turning_no_turn}

-- ---- one finding
paths_none : (S : PathSum) (y : ℕ) → S.m ≡ 0 → Vanishes S y → ⊥
paths_none S y e v = let h = v.inside in omega (arith, e, h)

nat_cmp_cases : (y z : ℕ) → (y < z) ⊎ ((z < y) ⊎ (y ≡ z))
nat_cmp_cases y z = elim (cases_lt y z) [ inl l ↦ inl l | inr h ↦ elim (cases_lt z y) [ inl l ↦ inr (inl l) | inr k ↦ inr (inr (omega (arith, h, k))) ] ]

least_only : (S : PathSum) (y z : ℕ) → LeastVanishing S y → LeastVanishing S z → y ≡ z
least_only S y z a b = by (nat_cmp_cases y z)
  where
    by : (y < z) ⊎ ((z < y) ⊎ (y ≡ z)) → y ≡ z
    by (inl l) = absurd (b.first y l a.vanishes)
    by (inr (inl l)) = absurd (a.first z l b.vanishes)
    by (inr (inr e)) = e

plain_only : {S : PathSum} {mode : Mode} {f g : Finding} → ShowsPlain S mode f → ShowsPlain S mode g → f ≡ g
plain_only (unit u) (unit v) = refl
plain_only (unit u) (no_unit n p) = absurd (n u)
plain_only (no_unit n p) (unit u) = absurd (n u)
plain_only {S} (no_unit {bits = b} n p) (no_unit {bits = c} n' q) = ap no (first_point_only S b c p q)
plain_only (scaled k) (scaled k') = refl
plain_only (scaled k) (constant z c) = absurd (k z)
plain_only (scaled k) (turning z q) = absurd (k z)
plain_only (constant z c) (scaled k) = absurd (k z)
plain_only {S} (constant {p = p} z c) (constant {p = q} z' d) = ap yes_phase (constant_only S.phase p q c d)
plain_only {S} (constant {p = p} z c) (turning {bits = b} z' q) = absurd (constant_not_turning S.phase p b c q)
plain_only (turning z q) (scaled k) = absurd (k z)
plain_only {S} (turning {bits = b} z' q) (constant {p = p} z c) = absurd (constant_not_turning S.phase p b c q)
plain_only {S} (turning {bits = b} z q) (turning {bits = c} z' r) = ap (no_pair []) (turning_only S.phase b c q r)

pub shows_only : {mode : Mode} {S : PathSum} {f g : Finding} → Shows mode S f → Shows mode S g → f ≡ g
shows_only (no_paths e p) (no_paths e' q) = plain_only p q
shows_only {S = S} (no_paths e p) (vanishing {y = y} v q) = absurd (paths_none S y e v.vanishes)
shows_only (no_paths e p) (nothing h n) = absurd (omega (arith, e, h))
shows_only {S = S} (vanishing {y = y} v q) (no_paths e p) = absurd (paths_none S y e v.vanishes)
shows_only {S = S} (vanishing {y = y} {bits = b} v p) (vanishing {y = z} {bits = c} w q) = ap no (least_point_only S z b c (subst (λ u. IsLeastPoint S u b) (least_only S y z v w) p) q)
shows_only (vanishing {y = y} v p) (nothing h n) = absurd (n y v.vanishes)
shows_only (nothing h n) (no_paths e p) = absurd (omega (arith, e, h))
shows_only (nothing h n) (vanishing {y = y} v p) = absurd (n y v.vanishes)
shows_only (nothing h n) (nothing h' n') = refl

pub record OneFinding (ss ss' : List Step) (f g : Finding) : Type 0 where
  pub steps : ss ≡ ss'
  pub found : f ≡ g

pub overlaps_only : {mode : Mode} {S1 S2 : PathSum} {ss ss' : List Step} {f g : Finding} → Overlaps mode S1 S2 ss f → Overlaps mode S1 S2 ss' g → OneFinding ss ss' f g
overlaps_only {mode} {S1} {S2} (passes {p = p} h) (passes {p = q} k) = record { steps = refl; found = ap (λ r. limit (overrun r 0 0 0 S1 (Some S2))) (overlap_passes_once S1 S2 p q h k) }
overlaps_only {mode} {S1} {S2} (passes {p = p} h) (step_passes {S0 = S0} o r) = absurd (overlap_passes_not S1 S2 S0 p h o)
overlaps_only {mode} {S1} {S2} (passes {p = p} h) (shows {S0 = S0} o r s) = absurd (overlap_passes_not S1 S2 S0 p h o)
overlaps_only {mode} {S1} {S2} (step_passes {S0 = S0} o r) (passes {p = p} h) = absurd (overlap_passes_not S1 S2 S0 p h o)
overlaps_only {mode} {S1} {S2} (shows {S0 = S0} o r s) (passes {p = p} h) = absurd (overlap_passes_not S1 S2 S0 p h o)
overlaps_only {mode} {S1} {S2} (step_passes {S0 = S0} {T = T} {ss = ss} {p = p} o r) (step_passes {S0 = R0} {T = T'} {ss = ss'} {p = p'} o' r') =
    let w = overs_once S0 R0 T T' ss ss' p p' (overlap_only S1 S2 S0 R0 o o') r r' in
    record { steps = w.steps; found = ap (λ R. limit (overrun p 0 0 0 R None)) w.sums ∙ ap (λ q. limit (overrun q 0 0 0 T' None)) w.limits }
overlaps_only {mode} {S1} {S2} (shows {S0 = S0} {T = T} {ss = ss} {f = f} o r s) (step_passes {S0 = R0} {T = T'} {ss = ss'} {p = p} o' r') = absurd (normal_or_over S0 R0 T T' ss ss' p (overlap_only S1 S2 S0 R0 o o') r r')
overlaps_only {mode} {S1} {S2} (step_passes {S0 = R0} {T = T'} {ss = ss'} {p = p} o' r') (shows {S0 = S0} {T = T} {ss = ss} {f = f} o r s) = absurd (normal_or_over S0 R0 T T' ss ss' p (overlap_only S1 S2 S0 R0 o o') r r')
overlaps_only {mode} {S1} {S2} (shows {S0 = S0} {T = T} {ss = ss} {f = f} o r s) (shows {S0 = R0} {T = T'} {ss = ss'} {f = g} o' r' s') =
    let w = normals_once S0 R0 T T' ss ss' (overlap_only S1 S2 S0 R0 o o') r r' in
    record { steps = w.steps; found = shows_only s (subst (λ R. Shows mode R g) (sym w.sums) s') }

pub compares_only : {mode : Mode} {o1 o2 : Outcome} {ss ss' : List Step} {f g : Finding} → Compares mode o1 o2 ss f → Compares mode o1 o2 ss' g → OneFinding ss ss' f g
compares_only first_limit first_limit = record { steps = refl; found = refl }
compares_only second_limit second_limit = record { steps = refl; found = refl }
compares_only (sums a) (sums b) = overlaps_only a b

-- ---- justified
closed : {S1 S2 S T : PathSum} {ss : List Step} → IsOverlapOf S1 S2 S → Reduces S ss T → T.outs ≡ []
closed {T = T} o r = none T.outs (reduces_width r ∙ ap length o.no_outs)
  where
    none : (fs : List (List (List ℕ))) → length fs ≡ 0 → fs ≡ []
    none [] e = refl
    none (f ∷ fs) e = absurd (omega (arith, e))

unit_is_one : (S : PathSum) (x : Truths) → S.outs ≡ [] → IsUnit S → IsOne (path_values S) x
unfolding values phase_value
unit_is_one S x o u = plain_is_one (path_values S) x u.paths (ap (λ fs. values fs (bit (x ++ []))) o) u.scale (ap (λ ts. phase_value ts (bit (x ++ [])) % 4294967296) u.phase)

one_before : {S T : PathSum} {ss : List Step} (x : Truths) → Reduces S ss T → length x ≡ S.n → IsOne (path_values T) x → IsOne (path_values S) x
one_before {S} {T} x r l h = same_trans S.k T.k (pos 0) _ _ _ (signed_number (path_values S) x []) one_number (reduces_number r x [] l) h

one_after : {S T : PathSum} {ss : List Step} (x : Truths) → Reduces S ss T → length x ≡ S.n → IsOne (path_values S) x → IsOne (path_values T) x
one_after {S} {T} x r l h = same_trans T.k S.k (pos 0) _ _ _ (signed_number (path_values T) x []) one_number (same_sym S.k T.k _ _ (reduces_number r x [] l)) h

-- the overlap of two sums that stand for A and B, on n qubits
record Overlapped (n : ℕ) (A B : List Prim) (S1 S2 S : PathSum) : Type 0 where
  first : Stands n A S1
  second : Stands n B S2
  overlap : IsOverlapOf S1 S2 S
  first_within : AllWithin n A
  second_within : AllWithin n B

one_same : {n : ℕ} {A B : List Prim} {S1 S2 S : PathSum} (x : Truths) → Overlapped n A B S1 S2 S → length x ≡ n → IsOne (path_values S) x → SameAt n A B x
one_same {n} {A} {B} {S1} {S2} {S} x v l h =
    overlap_one n (path_values S1) (path_values S2) (path_values S) A B (subst (λ k. OverlapSum k (path_values S1) (path_values S2) (path_values S)) v.first.n_is v.overlap.overlaps) v.first.denotes v.second.denotes v.first_within v.second_within x l h

not_one_differs : {n : ℕ} {A B : List Prim} {S1 S2 S : PathSum} (x : Truths) → Overlapped n A B S1 S2 S → length x ≡ n → ¬ (IsOne (path_values S) x) → DiffersAt n A B x
not_one_differs {n} {A} {B} {S1} {S2} {S} x v l h =
    overlap_not_one n (path_values S1) (path_values S2) (path_values S) A B (subst (λ k. OverlapSum k (path_values S1) (path_values S2) (path_values S)) v.first.n_is v.overlap.overlaps) v.first.denotes v.second.denotes v.first_within v.second_within x l h

differs : {n : ℕ} {A B : List Prim} {S1 S2 S T : PathSum} {ss : List Step} (bits : List ℕ) → Overlapped n A B S1 S2 S → Reduces S ss T → ¬ (IsOne (path_values T) (point T.n bits)) → DiffersAt n A B (point n bits)
differs {n} {A} {B} {S1} {S2} {S} {T} bits v r h =
    let sn : S.n ≡ n = v.overlap.qubits_are ∙ v.first.n_is in
    let tn : T.n ≡ n = reduces_n r ∙ sn in
    not_one_differs (point n bits) v (taken_length 0 n _)
    (λ one. subst (λ k. ¬ (IsOne (path_values T) (point k bits))) tn h (one_after (point n bits) r (taken_length 0 n _ ∙ sym sn) one))

-- ---- up to a phase
turn_before : {S T : PathSum} {ss : List Step} (x : Truths) (p : ℕ) → Reduces S ss T → length x ≡ S.n → IsTurn (path_values T) x p → IsTurn (path_values S) x p
turn_before {S} {T} x p r l h = same_trans S.k T.k (pos 0) _ _ _ (signed_number (path_values S) x []) (one_turned p) (reduces_number r x [] l) h

turn_after : {S T : PathSum} {ss : List Step} (x : Truths) (p : ℕ) → Reduces S ss T → length x ≡ S.n → IsTurn (path_values S) x p → IsTurn (path_values T) x p
turn_after {S} {T} x p r l h = same_trans T.k S.k (pos 0) _ _ _ (signed_number (path_values T) x []) (one_turned p) (same_sym S.k T.k _ _ (reduces_number r x [] l)) h

turn_same : {n : ℕ} {A B : List Prim} {S1 S2 S T : PathSum} {ss : List Step} (x : Truths) (p : ℕ) → Overlapped n A B S1 S2 S → Reduces S ss T → length x ≡ n → IsTurn (path_values T) x p → SamePhaseAt n A B p x
turn_same {n} {A} {B} {S1} {S2} {S} x p v r l h =
    let sn : S.n ≡ n = v.overlap.qubits_are ∙ v.first.n_is in
    overlap_turn n (path_values S1) (path_values S2) (path_values S) A B (subst (λ k. OverlapSum k (path_values S1) (path_values S2) (path_values S)) v.first.n_is v.overlap.overlaps) v.first.denotes v.second.denotes v.first_within v.second_within x l p
    (turn_before x p r (l ∙ sym sn) h)

no_turn_differs : {n : ℕ} {A B : List Prim} {S1 S2 S T : PathSum} {ss : List Step} (bits : List ℕ) (p : ℕ) → Overlapped n A B S1 S2 S → Reduces S ss T → ¬ (IsTurn (path_values T) (point T.n bits) p) → PhaseDiffersAt n A B p (point n bits)
no_turn_differs {n} {A} {B} {S1} {S2} {S} {T} bits p v r h =
    let sn : S.n ≡ n = v.overlap.qubits_are ∙ v.first.n_is in
    let tn : T.n ≡ n = reduces_n r ∙ sn in
    overlap_no_turn n (path_values S1) (path_values S2) (path_values S) A B (subst (λ k. OverlapSum k (path_values S1) (path_values S2) (path_values S)) v.first.n_is v.overlap.overlaps) v.first.denotes v.second.denotes v.first_within v.second_within (point n bits) (taken_length 0 n _) p
    (λ t. subst (λ k. ¬ (IsTurn (path_values T) (point k bits) p)) tn h (turn_after (point n bits) p r (taken_length 0 n _ ∙ sym sn) t))

-- one input, or one of two, in place of a list of them
only : (P : Truths → Type 0) (x : Truths) → P x → Any P (x ∷ [])
only P x h = (0, x, omega arith, refl, h)

first_of_two : (P : Truths → Type 0) (x y : Truths) → P x → Any P (x ∷ y ∷ [])
first_of_two P x y h = (0, x, omega arith, refl, h)

second_of_two : (P : Truths → Type 0) (x y : Truths) → P y → Any P (x ∷ y ∷ [])
second_of_two P x y h = (1, y, omega arith, refl, h)

-- a closed sum without path variables and scale stands for a phase or does not
turn_or_not : (S : PathSum) (x : Truths) (p : ℕ) → S.outs ≡ [] → S.m ≡ 0 → S.k ≡ pos 0 → IsTurn (path_values S) x p ⊎ ¬ (IsTurn (path_values S) x p)
unfolding values
turn_or_not S x p o m k =
    elim (told (phase_value S.phase (bit (x ++ [])) % 4294967296) (p % 4294967296)) [
      | inl e ↦ inl (plain_is_turn (path_values S) x p m (ap (λ (fs : List (List (List ℕ))). values fs (bit (x ++ []))) o) k e)
      | inr d ↦ inr (λ t. d (turn_is_plain (path_values S) x p m (ap (λ (fs : List (List (List ℕ))). values fs (bit (x ++ []))) o) t).1)
    ]
  where
    told : (a b : ℕ) → (a ≡ b) ⊎ (a ≢ b)
    told a b = elim (nat_cmp_cases a b) [ inl l ↦ inr (λ e. omega (arith, l, e)) | inr h ↦ elim h [ inl l ↦ inr (λ e. omega (arith, l, e)) | inr e ↦ inl e ] ]

scaled_no_turn : (S : PathSum) (x : Truths) (p : ℕ) → S.outs ≡ [] → S.m ≡ 0 → S.k ≢ pos 0 → ¬ (IsTurn (path_values S) x p)
unfolding values
scaled_no_turn S x p o m k t = k (turn_is_plain (path_values S) x p m (ap (λ (fs : List (List (List ℕ))). values fs (bit (x ++ []))) o) t).0

-- at the input without a bit, or else where the phase turns
pair_differs : {n : ℕ} {A B : List Prim} {S1 S2 S T : PathSum} {ss : List Step} (bits : List ℕ) (p : ℕ) → Overlapped n A B S1 S2 S → Reduces S ss T → T.outs ≡ [] → T.m ≡ 0 → T.k ≡ pos 0 → IsTurningPoint T.phase bits
    → Any (PhaseDiffersAt n A B p) (point n [] ∷ point n bits ∷ [])
pair_differs {n} {A} {B} {T = T} bits p v r o m k q =
    elim (turn_or_not T (point T.n []) p o m k) [
      | inl t ↦ second_of_two (PhaseDiffersAt n A B p) (point n []) (point n bits) (no_turn_differs bits p v r (turning_no_turn T bits p o m q t))
      | inr d ↦ first_of_two (PhaseDiffersAt n A B p) (point n []) (point n bits) (no_turn_differs [] p v r d)
    ]

-- ---- what a sum shows
plainly : {n : ℕ} {A B : List Prim} {S1 S2 S T : PathSum} {ss : List Step} {mode : Mode} {f : Finding} → Overlapped n A B S1 S2 S → Reduces S ss T → T.m ≡ 0 → ShowsPlain T mode f → IsJustified n A B mode f
plainly {n} {A} {B} {S1} {S2} {S} {T} v r e (unit u) = (
  refl,
  λ x l.
      let sn : S.n ≡ n = v.overlap.qubits_are ∙ v.first.n_is in
      one_same x v l (one_before x r (l ∙ sym sn) (unit_is_one T x (closed v.overlap r) u)),
)
plainly {T = T} v r e (no_unit {bits = bits} u p) = differs bits v r (first_point_not_one T bits e p)
plainly {n} {A} {B} {T = T} v r e (scaled k) = λ p. only (PhaseDiffersAt n A B p) (point n []) (no_turn_differs [] p v r (scaled_no_turn T (point T.n []) p (closed v.overlap r) e k))
plainly {T = T} v r e (constant {p = p} k c) = (refl, λ x l. turn_same x p v r l (constant_turn T p x (closed v.overlap r) e k c))
plainly {T = T} v r e (turning {bits = bits} k q) = (refl, λ p. pair_differs bits p v r (closed v.overlap r) e k q)

vanishing_differs : {n : ℕ} {A B : List Prim} {S1 S2 S T : PathSum} {ss : List Step} {y : ℕ} (mode : Mode) (bits : List ℕ) → Overlapped n A B S1 S2 S → Reduces S ss T → Vanishes T y → IsLeastPoint T y bits → DiffersIn mode n A B (point n bits)
vanishing_differs {T = T} {y = y} Exact bits v r w p = differs bits v r (vanishing_not_one T y bits w p)
vanishing_differs {n} {A} {B} {T = T} {y = y} Phase bits v r w l = λ p. only (PhaseDiffersAt n A B p) (point n bits) (no_turn_differs bits p v r (vanishing_no_turn T y bits p w l))

shown : {n : ℕ} {A B : List Prim} {S1 S2 S T : PathSum} {ss : List Step} {mode : Mode} {f : Finding} → IsNormalFor n A S1 → IsNormalFor n B S2 → Overlapped n A B S1 S2 S → ReducesTo S ss (normal T) → Shows mode T f → IsJustified n A B mode f
shown a b v r (no_paths e p) = plainly v r.taken e p
shown {mode = mode} a b v r (vanishing {bits = bits} w p) = vanishing_differs mode bits v r.taken w.vanishes p
shown {n} {A} {B} {S1} {S2} {S} {T} {ss} a b v r (nothing h w) = record { first = S1; second = S2; both = S; steps = ss; first_normal = a; second_normal = b; overlap = v.overlap; reduced = r; paths = h; none = w }

whole_part : (A : List Prim) → part 0 (length A) A ≡ A
whole_part A =
    let e : length A - 0 ≡ length A = omega arith in
    ap (λ k. take k A) e ∙ take_whole A

in_whole : {n : ℕ} {A : List Prim} {e : Overrun} → IsOver n A e → IsOverIn n A e
in_whole {n} {A} {e} h = record { from = 0; to = length A; over = subst (λ B. IsOver n B e) (sym (whole_part A)) h }

overlaps_justified : {n : ℕ} {A B : List Prim} {mode : Mode} {S1 S2 : PathSum} {ss : List Step} {f : Finding} → IsNormalFor n A S1 → IsNormalFor n B S2 → AllWithin n A → AllWithin n B → Overlaps mode S1 S2 ss f → IsJustified n A B mode f
overlaps_justified a b w v (passes h) = inr (inr ((a, b), h))
overlaps_justified {S1 = S1} {S2 = S2} a b w v (step_passes {S0 = S0} {ss = ss} o r) = inr (inr (S1, (S2, (S0, (ss, ((a, b), (o, r)))))))
overlaps_justified a b w v (shows o r s) = shown a b (record { first = normal_stands a w; second = normal_stands b v; overlap = o; first_within = w; second_within = v }) r s

pub compares_justified : (n : ℕ) (A B : List Prim) {mode : Mode} {o1 o2 : Outcome} {ss : List Step} {f : Finding} → RightOutcome n A o1 → RightOutcome n B o2 → AllWithin n A → AllWithin n B → Compares mode o1 o2 ss f → IsJustified n A B mode f
compares_justified n A B a b w v first_limit = inl (in_whole a)
compares_justified n A B a b w v second_limit = inr (inl (in_whole b))
compares_justified n A B a b w v (sums o) = overlaps_justified a.0 b.0 w v o
