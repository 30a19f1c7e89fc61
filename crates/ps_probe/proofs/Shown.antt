-- What sums show, and what two records come to.
use Rattle.std.proofs.Common.{◌≡◌, ℕ, ◌+◌, ◌<◌, ◌≤◌, refl, ap, sym, ◌∙◌, subst, arith, Bool, true, false, Some, None, List, [], ◌∷◌, length, Fits, w32}
use Rattle.std.specs.Prelude.{IsTrue}
use Rattle.std.proofs.lemmas.Int.{ints}
use mathlib.Core.Logic.{∥∥₁_elim, ∥∥₁_map}
use Rattle.std.specs.declared.sync.Arc.{Arc}
use Rattle.std.specs.declared.alloc.Global.{Global}
use Rattle.ps_prim.specs.declared.prims.Primitive.{Primitive as Prim}
use Rattle.ps_prim.specs.Maps.{AllWithin}
use Rattle.ps_sum.specs.declared.sums.PathSum.{PathSum}
use Rattle.ps_sum.specs.declared.faults.Passed.{Passed}
use Rattle.ps_sum.specs.declared.faults.JoinFault.{JoinFault}
use Rattle.ps_sum.specs.declared.faults.JoinFault.TheVariants as fault
use Rattle.ps_overlap.specs.Overlapping.{IsOverlapOf, OverlapPasses, NoneVanishes, IsFirstPoint}
use Rattle.ps_overlap.specs.Faults.{IsOverlapFault}
use Rattle.ps_reach.specs.declared.evidence.Evidence.{Evidence}
use Rattle.ps_reach.specs.declared.evidence.Body.TheVariants as body
use Rattle.ps_reach.specs.declared.record.Record.{Record}
use Rattle.ps_reach.specs.Overruns.{Overrun}
use Rattle.ps_reach.specs.Fillings.{kept, passed, overrun}
use Rattle.ps_reach.specs.Parts.{IsRight, overrun_of, outcome_by}
use Rattle.ps_reach.specs.Runs.{run_of}
use Rattle.ps_reach.specs.Judging.{outcome_of}
use Rattle.ps_reach.specs.Findings.{Finding, yes, no, stuck, limit, IsUnit}
use Rattle.ps_reach.proofs.Reducing.{reduces_n, reduces_width}
use Rattle.ps_normal.specs.Comparing.{Comparable, HasFloor}
use Rattle.ps_normal.proofs.Recording.{right_outcome}
use Rattle.ps_normal.proofs.Finding.{comparable_floor}
use Rattle.ps_probe.specs.declared.pattern.Pattern.{Pattern}
use Rattle.ps_probe.specs.declared.ending.Ending.{Ending}
use Rattle.ps_probe.specs.declared.ending.Ending.TheVariants as ending
use Rattle.ps_probe.specs.Patterns.{free_count, IsFilled, IsRestricted}
use Rattle.ps_probe.specs.Searching.{Searched}
use Rattle.ps_probe.specs.Ending.{IsEnding}
use Rattle.ps_probe.specs.Giving.{ShowsGiven, unit, no_unit, all_one, first_other, left, EndsGiven, step_passes, shows, GivesOverlap, passes, ends, Gives, first_limit, second_limit, sums, IsGivenJustified}
use Rattle.ps_probe.proofs.Givings.{gives_justified}

-- ---- a sum without path variables
pub shown_unit : (p : Pattern) (S : PathSum) (b : Bool) → (IsTrue b → IsUnit S) × (IsUnit S → IsTrue b) → b ≡ true → ShowsGiven p S yes
shown_unit p S b w e = unit (w.0 e)

pub shown_no : (p : Pattern) (S : PathSum) (b : Bool) (bits at : List ℕ) → S.m ≡ 0 → (IsTrue b → IsUnit S) × (IsUnit S → IsTrue b) → b ≡ false → IsFirstPoint S bits → IsFilled p bits at → ShowsGiven p S (no at)
shown_no p S b bits at m w e q f = no_unit m (λ u. clash (w.1 u) e) q f
  where
    clash : {c : Bool} → c ≡ true → c ≡ false → ⊥
    clash x y = cc

-- ---- a sum that is counted
pub few_counted : (f len : ℕ) (S : PathSum) → len ≡ S.n → f ≤ len → Fits w32 (f + S.m)
few_counted f len S e h = let q = S.qubits in let n = S.named in omega (arith, e, h, q.1, n)

pub counted_left : (p : Pattern) (S : PathSum) (f : ℕ) → f ≡ free_count p p.len → 0 < S.m → NoneVanishes S → 16 < f + S.m → ShowsGiven p S (stuck S)
counted_left p S f e s n h = left (record { some = s; none = n }) (omega (arith, e, h))

pub counted_one : (p : Pattern) (S : PathSum) (f : ℕ) (at : List ℕ) → f ≡ free_count p p.len → 0 < S.m → NoneVanishes S → f + S.m ≤ 16 → Searched p S at 0 None → ShowsGiven p S yes
counted_one p S f at e s n h a = all_one (record { some = s; none = n }) (omega (arith, e, h)) (λ x l m t. a x l m (λ i k. absurd (omega (arith, k))))

pub counted_other : (p : Pattern) (S : PathSum) (f : ℕ) (at found : List ℕ) → f ≡ free_count p p.len → 0 < S.m → NoneVanishes S → f + S.m ≤ 16 → Searched p S at 0 (Some found) → ShowsGiven p S (no found)
counted_other p S f at found e s n h a = first_other (record { some = s; none = n }) (omega (arith, e, h)) (record {
  matches = a.matches;
  such = tt;
  other = a.other;
  first = λ x l m t. a.first x l m (λ i k. absurd (omega (arith, k)), t.1);
  below = a.below;
  form = a.form;
})

-- ---- a sum that is reduced
pub normal_inputs : (p : Pattern) (S T : PathSum) (e : Ending) → e ≡ ending.Normal T → IsEnding S e → p.len ≡ S.n → p.len ≡ T.n
normal_inputs p S T e is h l = l ∙ sym (reduces_n (subst (IsEnding S) is h).1.taken)

no_length : (fs : List (List (List ℕ))) → length fs ≡ 0 → fs ≡ []
no_length [] e = refl
no_length (f ∷ fs) e = absurd (omega (arith, e))

pub normal_closed : (S T : PathSum) (e : Ending) → e ≡ ending.Normal T → IsEnding S e → S.outs ≡ [] → T.outs ≡ []
normal_closed S T e is h o = no_length T.outs (reduces_width (subst (IsEnding S) is h).1.taken ∙ ap length o)

pub normal_ends : (p : Pattern) (S T : PathSum) (e : Ending) (f : Finding) → e ≡ ending.Normal T → IsEnding S e → ShowsGiven p T f → EndsGiven p S f
normal_ends p S T e f is h s = let w : IsEnding S (ending.Normal T) = subst (IsEnding S) is h in shows w.1 s

pub over_ends : (p : Pattern) (S T : PathSum) (q : Passed) (e : Ending) (o : Overrun) → e ≡ ending.Over q T → IsEnding S e → o ≡ overrun q 0 0 0 T None → EndsGiven p S (limit o)
over_ends p S T q e o is h v = let w : IsEnding S (ending.Over q T) = subst (IsEnding S) is h in subst (λ r. EndsGiven p S (limit r)) (sym v) (step_passes w.1)

-- ---- the overlap of two sums
pub restricted_floor : (p : Pattern) (S1 S2 a b S R : PathSum) → Comparable S1 S2 → a ≡ S1 → b ≡ S2 → IsOverlapOf a b S → IsRestricted p S R → HasFloor R
restricted_floor p S1 S2 a b S R c ea eb o r =
    let w : IsOverlapOf S1 S2 S = subst (λ x. IsOverlapOf S1 x S) eb (subst (λ x. IsOverlapOf x b S) ea o) in
    let f = comparable_floor S1 S2 S c w in
    let k = r.k_is in
    let m = r.m_is in
    omega (arith, ints, f, k, m)

pub overlap_gives : (p : Pattern) (S1 S2 a b S R : PathSum) (f : Finding) → a ≡ S1 → b ≡ S2 → IsOverlapOf a b S → IsRestricted p S R → EndsGiven p R f → GivesOverlap p S1 S2 f
overlap_gives p S1 S2 a b S R f ea eb o r e = ends (subst (λ x. IsOverlapOf S1 x S) eb (subst (λ x. IsOverlapOf x b S) ea o)) r e

pub overlap_limit : (p : Pattern) (S1 S2 a b : PathSum) (q : Passed) (e : JoinFault) (o : Overrun) → e ≡ fault.Passed q → IsOverlapFault a b e → a ≡ S1 → b ≡ S2 → o ≡ overrun q 0 0 0 S1 (Some S2) → GivesOverlap p S1 S2 (limit o)
overlap_limit p S1 S2 a b q e o is h ea eb v =
    let k : OverlapPasses S1 S2 q = subst (λ z. OverlapPasses S1 z q) eb (subst (λ z. OverlapPasses z b q) ea (subst (IsOverlapFault a b) is h)) in
    subst (λ r. GivesOverlap p S1 S2 (limit r)) (sym v) (passes k)

-- ---- two records
pub first_passed : (p : Pattern) (first second : Record) (e : Evidence) (o : Overrun) → first.body ≡ body.Passed e → o ≡ overrun_of e → Gives p (outcome_of first) (outcome_of second) (limit o)
first_passed p first second e o b h =
    subst (λ x. Gives p (outcome_by first.moves x) (outcome_of second) (limit o)) (sym b) (subst (λ r. Gives p (passed (overrun_of e) first.moves) (outcome_of second) (limit r)) (sym h) first_limit)

pub second_passed : (p : Pattern) (first second : Record) (s : Arc PathSum Global) (e : Evidence) (o : Overrun) → first.body ≡ body.Sum s → second.body ≡ body.Passed e → o ≡ overrun_of e → Gives p (outcome_of first) (outcome_of second) (limit o)
second_passed p first second s e o b c h =
    subst (λ x. Gives p (outcome_by first.moves x) (outcome_of second) (limit o)) (sym b)
    (subst (λ x. Gives p (kept s.value first.moves) (outcome_by second.moves x) (limit o)) (sym c) (subst (λ r. Gives p (kept s.value first.moves) (passed (overrun_of e) second.moves) (limit r)) (sym h) second_limit))

pub both_sums : (p : Pattern) (first second : Record) (s t : Arc PathSum Global) (f : Finding) → first.body ≡ body.Sum s → second.body ≡ body.Sum t → GivesOverlap p s.value t.value f → Gives p (outcome_of first) (outcome_of second) f
both_sums p first second s t f b c h =
    subst (λ x. Gives p (outcome_by first.moves x) (outcome_of second) f) (sym b) (subst (λ x. Gives p (kept s.value first.moves) (outcome_by second.moves x) f) (sym c) (sums h))

pub gives_at : (p : Pattern) (a b first second : Record) (f : Finding) → a ≡ first → b ≡ second → Gives p (outcome_of a) (outcome_of b) f → Gives p (outcome_of first) (outcome_of second) f
gives_at p a b first second f e d h = subst (λ r. Gives p (outcome_of first) (outcome_of r) f) d (subst (λ r. Gives p (outcome_of r) (outcome_of b) f) e h)

pub records_justified : (p : Pattern) (first second : Record) (f : Finding) → first.n ≡ second.n → p.len ≡ first.n → Gives p (outcome_of first) (outcome_of second) f → ∥ IsGivenJustified first.n (run_of first.items.value) (run_of second.items.value) p f ∥₁
records_justified p first second f e l g = ∥∥₁_elim first.right squash₁ (λ q. ∥∥₁_map second.right (λ r.
    gives_justified first.n (run_of first.items.value) (run_of second.items.value) p l
    (right_outcome first.n (run_of first.items.value) first.moves first.body q) (right_outcome first.n (run_of second.items.value) second.moves second.body (subst (λ k. IsRight k (run_of second.items.value) second.moves second.body) (sym e) r))
    first.within (subst (λ k. AllWithin k (run_of second.items.value)) (sym e) second.within) g))
