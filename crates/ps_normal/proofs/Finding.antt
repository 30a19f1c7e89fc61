-- What comparing finds.
use Rattle.std.proofs.Common.{◌≡◌, ◌≢◌, ℕ, ◌+◌, ◌-◌, ◌*◌, ◌<◌, ◌≤◌, refl, ap, sym, ◌∙◌, subst, arith, Option, Some, None, List, [], ◌∷◌, length, take}
use Rattle.std.proofs.lemmas.Int.{ints}
use Rattle.std.proofs.lemmas.Bool.Decides.{nat_tests}
use Rattle.std.specs.Prelude.{pos, negsuc, ◌+ℤ◌, ◌-ℤ◌, ◌≤ℤ◌, Bool, true, false, nat_eq, IsTrue, IsNone}
use Rattle.ps_mono.specs.Lists.{nat_eq_true}
use mathlib.Core.Logic.{∥∥₁_elim, ∥∥₁_map}
use Rattle.std.specs.declared.sync.Arc.{Arc}
use Rattle.std.specs.declared.alloc.Global.{Global}
use Rattle.ps_prim.specs.declared.prims.Primitive.{Primitive as Prim}
use Rattle.ps_prim.specs.Maps.{AllWithin}
use Rattle.ps_prim.specs.Amplitudes.{turns}
use Rattle.ps_sum.specs.declared.sums.PathSum.{PathSum}
use Rattle.ps_sum.specs.declared.faults.Passed.{Passed}
use Rattle.ps_sum.specs.declared.faults.JoinFault.{JoinFault}
use Rattle.ps_sum.specs.declared.faults.JoinFault.TheVariants as fault
use Rattle.ps_rules.specs.declared.steps.Step.{Step}
use Rattle.ps_overlap.specs.Overlapping.{IsOverlapOf, OverlapPasses, NoneVanishes, IsFirstPoint, IsTurningPoint}
use Rattle.ps_overlap.specs.Faults.{IsOverlapFault}
use Rattle.ps_reach.specs.declared.evidence.Evidence.{Evidence}
use Rattle.ps_reach.specs.declared.evidence.Body.TheVariants as body
use Rattle.ps_reach.specs.declared.record.Record.{Record}
use Rattle.ps_reach.specs.declared.judged.Judged.{Judged}
use Rattle.ps_reach.specs.declared.verdict.Verdict.{Verdict}
use Rattle.ps_reach.specs.declared.verdict.Verdict.TheVariants as verdict
use Rattle.ps_reach.specs.declared.mode.Mode.{Mode}
use Rattle.ps_reach.specs.declared.mode.Mode.TheVariants.{Exact, Phase}
use Rattle.ps_reach.specs.Overruns.{Overrun, part, IsOver}
use Rattle.ps_reach.specs.Runs.{AllItems, run_of}
use Rattle.ps_reach.specs.Parts.{IsRight, overrun_of, outcome_by}
use Rattle.ps_reach.specs.Fillings.{kept, passed, overrun, Fills}
use Rattle.ps_reach.specs.Findings.{Finding, yes, yes_phase, no, no_pair, limit, IsUnit, ShowsPlain, unit, no_unit, scaled, constant, turning, Shows, no_paths, Overlaps, passes, step_passes, shows, Compares, first_limit, second_limit, sums}
use Rattle.ps_reach.specs.Judging.{outcome_of, finding_of, IsJudged}
use Rattle.ps_reach.proofs.Reducing.{reduces_width}
use Rattle.ps_reach.proofs.Denoting.{turns_few}
use Rattle.ps_reach.proofs.Replaying.{length_both}
use Rattle.ps_reach.proofs.Filling.{take_whole, fills_right}
use Rattle.ps_normal.specs.declared.parts.Ended.{Ended}
use Rattle.ps_normal.specs.declared.parts.Ended.TheVariants as ended
use Rattle.ps_normal.specs.declared.comparing.Found.{Found}
use Rattle.ps_normal.specs.Ends.{IsEnded}
use Rattle.ps_normal.specs.Comparing.{Comparable, Decides, PassesFirst, IsBoth}
use Rattle.ps_normal.specs.Fillings.{CanRun, IsRecordOf}
use Rattle.ps_normal.specs.Founds.{Finds}
use Rattle.ps_normal.specs.Founds as founds
use Rattle.ps_normal.proofs.Recording.{right_outcome}
use Rattle.ps_normal.proofs.Pairs.{record_usable}
use Rattle.ps_reach.proofs.Justifying.{compares_justified}

-- ---- what a closed sum shows
pub shown_unit : (S : PathSum) (b : Bool) → (IsTrue b → IsUnit S) × (IsUnit S → IsTrue b) → b ≡ true → ShowsPlain S Exact yes
shown_unit S b w e = unit (w.0 e)

pub shown_no : (S : PathSum) (b : Bool) (bits : List ℕ) → (IsTrue b → IsUnit S) × (IsUnit S → IsTrue b) → b ≡ false → IsFirstPoint S bits → ShowsPlain S Exact (no bits)
shown_no S b bits w e p = no_unit (λ u. clash (w.1 u) e) p
  where
    clash : {c : Bool} → c ≡ true → c ≡ false → ⊥
    clash x y = cc

pub shown_scaled : (S : PathSum) (b : List ℕ) → S.k ≢ pos 0 → b ≡ [] → ShowsPlain S Phase (no b)
shown_scaled S b k e = subst (λ x. ShowsPlain S Phase (no x)) (sym e) (scaled k)

pub shown_turning : (S : PathSum) (a b : List ℕ) → S.k ≡ pos 0 → a ≡ [] → IsTurningPoint S.phase b → ShowsPlain S Phase (no_pair a b)
shown_turning S a b k e q = subst (λ x. ShowsPlain S Phase (no_pair x b)) (sym e) (turning k q)

pub some_path : (m : ℕ) → (m ≡ 0 → ⊥) → 0 < m
some_path m h = by (nat_eq m 0) refl
  where
    by : (t : Bool) → nat_eq m 0 ≡ t → 0 < m
    by true e = absurd (h (nat_eq_true m 0 e))
    by false e = grind (arith, nat_tests)

pub none_vanishes : (S : PathSum) (o : Option ℕ) → o ≡ None → (IsNone o → NoneVanishes S) × (NoneVanishes S → IsNone o) → NoneVanishes S
none_vanishes S o e w = w.0 (subst IsNone (sym e) refl)

-- ---- a reduced overlap
no_length : (fs : List (List (List ℕ))) → length fs ≡ 0 → fs ≡ []
no_length [] e = refl
no_length (f ∷ fs) e = absurd (omega (arith, e))

pub closed_ended : (S T : PathSum) (ss : List Step) (e : Ended) → e ≡ ended.Normal T → IsEnded S ss e → S.outs ≡ [] → T.outs ≡ []
closed_ended S T ss e is h o = no_length T.outs (reduces_width (subst (IsEnded S ss) is h).taken ∙ ap length o)

pub found_shown : (mode : Mode) (S T : PathSum) (f : Found) (e : Ended) (v : Verdict) → e ≡ ended.Normal T → IsEnded S f.steps.items e → f.verdict ≡ v → Shows mode T (finding_of v) → Finds mode S f
found_shown mode S T f e v is h ev s = founds.shows T (subst (IsEnded S f.steps.items) is h) (subst (λ x. Shows mode T (finding_of x)) (sym ev) s)

pub found_over : (mode : Mode) (S T : PathSum) (p : Passed) (f : Found) (e : Ended) (w : Evidence) → e ≡ ended.Over p T → IsEnded S f.steps.items e → f.verdict ≡ verdict.Passed w → overrun_of w ≡ overrun p 0 0 0 T None → Finds mode S f
found_over mode S T p f e w is h ev o = founds.passes T p (subst (IsEnded S f.steps.items) is h) (ap finding_of ev ∙ ap limit o)

-- ---- the overlap of two sums
pub overlap_at : (a b a' b' S : PathSum) → a ≡ a' → b ≡ b' → IsOverlapOf a b S → IsOverlapOf a' b' S
overlap_at a b a' b' S e f j = subst (λ x. IsOverlapOf a' x S) f (subst (λ x. IsOverlapOf x b S) e j)

pub overlap_found : (mode : Mode) (S1 S2 S : PathSum) (f : Found) → IsOverlapOf S1 S2 S → Finds mode S f → Overlaps mode S1 S2 f.steps.items (finding_of f.verdict)
overlap_found mode S1 S2 S f o (founds.shows T r s) = shows o r s
overlap_found mode S1 S2 S f o (founds.passes T p r e) = subst (Overlaps mode S1 S2 f.steps.items) (sym e) (step_passes o r)

pub overlap_passed : (mode : Mode) (a b x y S1 S2 : PathSum) (p : Passed) (e : JoinFault) (ss : List Step) (o : Overrun) → e ≡ fault.Passed p → IsOverlapFault a b e → a ≡ S1 → b ≡ S2 → x ≡ S1 → y ≡ S2 → ss ≡ [] → o ≡ overrun p 0 0 0 x (Some y)
    → Overlaps mode S1 S2 ss (limit o)
overlap_passed mode a b x y S1 S2 p e ss o is h ea eb ex ey es v =
    let k : OverlapPasses S1 S2 p = subst (λ z. OverlapPasses S1 z p) eb (subst (λ z. OverlapPasses z b p) ea (subst (IsOverlapFault a b) is h)) in
    let w : o ≡ overrun p 0 0 0 S1 (Some S2) = v ∙ ap (λ z. overrun p 0 0 0 z (Some y)) ex ∙ ap (λ z. overrun p 0 0 0 S1 (Some z)) ey in
    subst (λ q. Overlaps mode S1 S2 q (limit o)) (sym es) (subst (λ q. Overlaps mode S1 S2 [] (limit q)) (sym w) (passes k))

pub comparable_scaled : (S1 S2 : PathSum) → Comparable S1 S2 → (negsuc 1999999999 ≤ℤ (S1.k +ℤ S2.k +ℤ pos (S1.n + S1.n))) × ((S1.k +ℤ S2.k +ℤ pos (S1.n + S1.n)) ≤ℤ pos 2000000000)
comparable_scaled S1 S2 c = (
  omega (arith, ints, c.first_few, c.second_few, c.first.scale.least, c.second.scale.least),
  omega (arith, ints, c.first.scale.most, c.second.scale.most, S1.named, S2.named, S1.qubits.1),
)

pub comparable_floor : (S1 S2 S : PathSum) → Comparable S1 S2 → IsOverlapOf S1 S2 S → negsuc 1999999999 ≤ℤ (S.k -ℤ pos (2 * S.m))
comparable_floor S1 S2 S c o = omega (arith, ints, o.overlaps.m_is, o.overlaps.k_is, c.first_few, c.second_few, c.first.scale.least, c.second.scale.least)

-- ---- records
pub items_few : (L : List (List Prim)) → AllItems L → length (run_of L) ≤ 4096 * length L
unfolding run_of
items_few [] h = omega arith
items_few (i ∷ L) h = omega (arith, h.0.0, items_few L h.1, length_both i (run_of L))

pub records_comparable : (first second : Record) (s t : Arc PathSum Global) → first.n ≡ second.n → AllItems first.items.value → AllItems second.items.value → first.body ≡ body.Sum s → second.body ≡ body.Sum t → Comparable s.value t.value
records_comparable first second s t e h k b c = record {
  n = first.n;
  before = turns (run_of first.items.value);
  behind = turns (run_of second.items.value);
  some = first.qubits.0;
  first_few = omega (arith, turns_few (run_of first.items.value), items_few first.items.value h, first.few);
  second_few = omega (arith, turns_few (run_of second.items.value), items_few second.items.value k, second.few);
  first = record_usable first.n first s refl b;
  second = record_usable first.n second t (sym e) c;
}

pub first_passed : (mode : Mode) (first second : Record) (e : Evidence) (ss : List Step) (f : Finding) → first.body ≡ body.Passed e → (ss ≡ []) × (f ≡ limit (overrun_of e)) → Compares mode (outcome_of first) (outcome_of second) ss f
first_passed mode first second e ss f b h =
    subst (λ x. Compares mode (outcome_by first.moves x) (outcome_of second) ss f) (sym b)
    (subst (λ q. Compares mode (passed (overrun_of e) first.moves) (outcome_of second) q f) (sym h.0) (subst (Compares mode (passed (overrun_of e) first.moves) (outcome_of second) []) (sym h.1) first_limit))

pub second_passed : (mode : Mode) (first second : Record) (s : Arc PathSum Global) (e : Evidence) (ss : List Step) (f : Finding) → first.body ≡ body.Sum s → second.body ≡ body.Passed e → (ss ≡ []) × (f ≡ limit (overrun_of e)) → Compares mode (outcome_of first) (outcome_of second) ss f
second_passed mode first second s e ss f b c h =
    subst (λ x. Compares mode (outcome_by first.moves x) (outcome_of second) ss f) (sym b)
    (subst (λ x. Compares mode (kept s.value first.moves) (outcome_by second.moves x) ss f) (sym c)
    (subst (λ q. Compares mode (kept s.value first.moves) (passed (overrun_of e) second.moves) q f) (sym h.0) (subst (Compares mode (kept s.value first.moves) (passed (overrun_of e) second.moves) []) (sym h.1) second_limit)))

pub both_sums : (mode : Mode) (first second : Record) (s t : Arc PathSum Global) (ss : List Step) (f : Finding) → first.body ≡ body.Sum s → second.body ≡ body.Sum t → Overlaps mode s.value t.value ss f → Compares mode (outcome_of first) (outcome_of second) ss f
both_sums mode first second s t ss f b c h =
    subst (λ x. Compares mode (outcome_by first.moves x) (outcome_of second) ss f) (sym b) (subst (λ x. Compares mode (kept s.value first.moves) (outcome_by second.moves x) ss f) (sym c) (sums h))

pub compares_at : (mode : Mode) (a b first second : Record) (ss : List Step) (f : Finding) → a ≡ first → b ≡ second → Compares mode (outcome_of a) (outcome_of b) ss f → Compares mode (outcome_of first) (outcome_of second) ss f
compares_at mode a b first second ss f e d h = subst (λ r. Compares mode (outcome_of first) (outcome_of r) ss f) d (subst (λ r. Compares mode (outcome_of r) (outcome_of b) ss f) e h)

-- ---- judged
pub judged_right : (mode : Mode) (first second : Record) (ss : List Step) (v : Verdict) → first.n ≡ second.n → Compares mode (outcome_of first) (outcome_of second) ss (finding_of v) → ∥ IsJudged first second mode ss v ∥₁
judged_right mode first second ss v e c = ∥∥₁_elim first.right squash₁ (λ q. ∥∥₁_map second.right (λ r. record {
  found = c;
  justified = compares_justified first.n (run_of first.items.value) (run_of second.items.value)
      (right_outcome first.n (run_of first.items.value) first.moves first.body q) (right_outcome first.n (run_of second.items.value) second.moves second.body (subst (λ k. IsRight k (run_of second.items.value) second.moves second.body) (sym e) r))
      first.within (subst (λ k. AllWithin k (run_of second.items.value)) (sym e) second.within) c;
}))

pub judged_decides : (mode : Mode) (n : ℕ) (A B : List (List Prim)) (first second : Record) (ss : List Step) (f : Finding) → CanRun n A → CanRun n B → IsRecordOf n A (Fills n (run_of A)) first → IsRecordOf n B (Fills n (run_of B)) second
    → Compares mode (outcome_of first) (outcome_of second) ss f → Decides n (run_of A) (run_of B) mode ss f
judged_decides mode n A B first second ss f a b p q c = record {
  first = outcome_of first;
  second = outcome_of second;
  first_fills = p.outcome;
  second_fills = q.outcome;
  compares = c;
  justified = compares_justified n (run_of A) (run_of B) (fills_right (run_of A) p.outcome) (fills_right (run_of B) q.outcome) a.within b.within c;
}

-- ---- decided
whole_run : (A : List Prim) → part 0 (length A) A ≡ A
whole_run A =
    let e : length A - 0 ≡ length A = omega arith in
    ap (λ k. take k A) e ∙ take_whole A

pub first_passes : (n : ℕ) (I : List (List Prim)) (r : Record) (e : Evidence) → IsRecordOf n I (Fills n (run_of I)) r → outcome_of r ≡ passed (overrun_of e) r.moves → PassesFirst n (run_of I) (overrun_of e)
first_passes n I r e p h =
    let f : Fills n (run_of I) (passed (overrun_of e) r.moves) = subst (Fills n (run_of I)) h p.outcome in
    record {
      moves = r.moves;
      fills = f;
      over = record { from = 0; to = length (run_of I); over = subst (λ B. IsOver n B (overrun_of e)) (sym (whole_run (run_of I))) (fills_right (run_of I) f) };
    }

pub both_judged : (mode : Mode) (n : ℕ) (I K : List (List Prim)) (before behind : Record) (j : Judged) → CanRun n I → CanRun n K → IsRecordOf n I (Fills n (run_of I)) before → IsRecordOf n K (Fills n (run_of K)) behind
    → (j.first.value ≡ before) × (j.second.value ≡ behind) → j.mode ≡ mode → Compares mode (outcome_of before) (outcome_of behind) j.steps (finding_of j.verdict) → IsBoth n I K mode j
both_judged mode n I K before behind j a b p q e m c = record {
  mode_is = m;
  decided = judged_decides mode n I K before behind j.steps (finding_of j.verdict) a b p q c;
  first_record = subst (IsRecordOf n I (Fills n (run_of I))) (sym e.0) p;
  second_record = subst (IsRecordOf n K (Fills n (run_of K))) (sym e.1) q;
}
