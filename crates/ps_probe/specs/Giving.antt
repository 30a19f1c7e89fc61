-- What comparing two segments finds where some inputs are fixed, and what it claims.
use Rattle.std.specs.Prelude.{ℕ, ◌≡◌, ◌≤◌, ◌<◌, ◌+◌, ◌⊎◌, Option, Some, None, List, length}
use Rattle.ps_ring.specs.Truths.{Truths}
use Rattle.ps_prim.specs.declared.prims.Primitive.{Primitive as Prim}
use Rattle.ps_prim.specs.Maps.{SameAt, DiffersAt}
use Rattle.ps_sum.specs.declared.sums.PathSum.{PathSum}
use Rattle.ps_sum.specs.declared.faults.Passed.{Passed}
use Rattle.ps_rules.specs.declared.steps.Step.{Step}
use Rattle.ps_rules.specs.declared.steps.Move.{Move}
use Rattle.ps_overlap.specs.Overlapping.{IsOverlapOf, OverlapPasses, LeastVanishing, NoneVanishes, point, IsLeastPoint, IsFirstPoint}
use Rattle.ps_reach.specs.Reductions.{normal, over, ReducesTo}
use Rattle.ps_reach.specs.Normals.{IsNormalFor}
use Rattle.ps_reach.specs.Overruns.{Overrun}
use Rattle.ps_reach.specs.Fillings.{Outcome, kept, passed, overrun}
use Rattle.ps_reach.specs.Parts.{overrun_of}
use Rattle.ps_reach.specs.Findings.{Finding, yes, yes_phase, no, no_pair, stuck, limit, IsUnit, IsOverIn}
use Rattle.ps_probe.specs.declared.pattern.Pattern.{Pattern}
use Rattle.ps_probe.specs.declared.finding.Given.{Given}
use Rattle.ps_probe.specs.declared.finding.Given.TheVariants as given
use Rattle.ps_probe.specs.Patterns.{free_count, Matches, IsFilled, IsRestricted}
use Rattle.ps_probe.specs.Searching.{AllOne, IsFirstOther}

abbrev pub found_by : Given → Finding
found_by given.Yes = yes
found_by (given.No bits) = no bits
found_by (given.Left S) = stuck S
found_by (given.Passed e) = limit (overrun_of e)

-- ---- how it is found
-- no path variable vanishes, of which there are some
pub record IsOpen (T : PathSum) : Type 0 where
  pub some : 0 < T.m
  pub none : NoneVanishes T

-- the free inputs and the path variables
abbrev pub counted_of : Pattern → PathSum → ℕ
counted_of p T = free_count p p.len + T.m

abbrev pub IsInput : Truths → Type 0
IsInput x = Unit {0}

-- what an irreducible closed sum shows: whether it is 1, or vanishes somewhere; else, where the free inputs and the path variables
-- are few, whether it is 1 at each input that matches, or the first at which it isn't; and where they are many, itself
pub data ShowsGiven (p : Pattern) (T : PathSum) : Finding → Type 0 where
  unit : IsUnit T → ShowsGiven p T yes
  no_unit : {bits at : List ℕ} → T.m ≡ 0 → ¬ (IsUnit T) → IsFirstPoint T bits → IsFilled p bits at → ShowsGiven p T (no at)
  vanishing : {y : ℕ} {bits at : List ℕ} → LeastVanishing T y → IsLeastPoint T y bits → IsFilled p bits at → ShowsGiven p T (no at)
  all_one : IsOpen T → counted_of p T ≤ 16 → AllOne p T IsInput → ShowsGiven p T yes
  first_other : {at : List ℕ} → IsOpen T → counted_of p T ≤ 16 → IsFirstOther p T IsInput at → ShowsGiven p T (no at)
  left : IsOpen T → 16 < counted_of p T → ShowsGiven p T (stuck T)

-- what reducing a closed sum comes to
pub data EndsGiven (p : Pattern) (R : PathSum) : Finding → Type 0 where
  step_passes : {T : PathSum} {ss : List Step} {q : Passed} → ReducesTo R ss (over T q) → EndsGiven p R (limit (overrun q 0 0 0 T None))
  shows : {T : PathSum} {ss : List Step} {f : Finding} → ReducesTo R ss (normal T) → ShowsGiven p T f → EndsGiven p R f

-- what the overlap of two sums, with the fixed inputs put in, comes to
pub data GivesOverlap (p : Pattern) (S1 S2 : PathSum) : Finding → Type 0 where
  passes : {q : Passed} → OverlapPasses S1 S2 q → GivesOverlap p S1 S2 (limit (overrun q 0 0 0 S1 (Some S2)))
  ends : {S R : PathSum} {f : Finding} → IsOverlapOf S1 S2 S → IsRestricted p S R → EndsGiven p R f → GivesOverlap p S1 S2 f

-- what two segments come to: a limit that the first passes, or else the second, or else the overlap of their sums
pub data Gives (p : Pattern) : Outcome → Outcome → Finding → Type 0 where
  first_limit : {e : Overrun} {ms : List Move} {o : Outcome} → Gives p (passed e ms) o (limit e)
  second_limit : {S : PathSum} {ms ms' : List Move} {e : Overrun} → Gives p (kept S ms) (passed e ms') (limit e)
  sums : {S1 S2 : PathSum} {ms1 ms2 : List Move} {f : Finding} → GivesOverlap p S1 S2 f → Gives p (kept S1 ms1) (kept S2 ms2) f

-- ---- what it claims
-- R is the overlap of normal sums of A and B with the fixed inputs put in
pub record IsGivenOverlap (n : ℕ) (A B : List Prim) (p : Pattern) (R : PathSum) : Type 0 where
  pub first : PathSum
  pub second : PathSum
  pub both : PathSum
  pub first_normal : IsNormalFor n A first
  pub second_normal : IsNormalFor n B second
  pub overlap : IsOverlapOf first second both
  pub restricted : IsRestricted p both R

-- S is irreducible with a path variable, none of which vanishes, and reducing such an overlap gives it; its path variables
-- and the free inputs are together above 16
pub record IsLeft (n : ℕ) (A B : List Prim) (p : Pattern) (S : PathSum) : Type 0 where
  pub start : PathSum
  pub steps : List Step
  pub begins : IsGivenOverlap n A B p start
  pub reduced : ReducesTo start steps (normal S)
  pub open_ : IsOpen S
  pub many : 16 < counted_of p S

-- the evidence is true of the overlap of normal sums of A and B: the overlap passes; or its one sum is reached from the overlap
-- with the fixed inputs put in, and its first step passes
abbrev pub given_over_by : ℕ → List Prim → List Prim → Pattern → Passed → PathSum → Option PathSum → Type 0
given_over_by n A B p q S1 (Some S2) = (IsNormalFor n A S1 × IsNormalFor n B S2) × OverlapPasses S1 S2 q
given_over_by n A B p q T None = (R : PathSum) × ((ss : List Step) × (IsGivenOverlap n A B p R × ReducesTo R ss (over T q)))

abbrev pub IsGivenOver : ℕ → List Prim → List Prim → Pattern → Overrun → Type 0
IsGivenOver n A B p e = given_over_by n A B p e.passed e.first e.second

-- what a finding claims of two lists of prims on n qubits that were compared at the inputs that match the pattern
abbrev pub IsGivenJustified : ℕ → List Prim → List Prim → Pattern → Finding → Type 0
IsGivenJustified n A B p yes = (x : Truths) → length x ≡ n → Matches p x → SameAt n A B x
IsGivenJustified n A B p (no bits) = Matches p (point n bits) × DiffersAt n A B (point n bits)
IsGivenJustified n A B p (stuck S) = IsLeft n A B p S
IsGivenJustified n A B p (limit e) = IsOverIn n A e ⊎ (IsOverIn n B e ⊎ IsGivenOver n A B p e)
IsGivenJustified n A B p (yes_phase q) = ⊥
IsGivenJustified n A B p (no_pair first second) = ⊥
