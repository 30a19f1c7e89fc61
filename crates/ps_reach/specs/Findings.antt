-- What comparing two segments finds, and what it claims.
use Rattle.std.specs.Prelude.{ℕ, ◌≡◌, ◌≢◌, ◌<◌, ◌⊎◌, Some, None, List, [], ◌∷◌, pos}
use Rattle.ps_prim.specs.declared.prims.Primitive.{Primitive as Prim}
use Rattle.ps_ring.specs.Truths.{Truths}
use Rattle.ps_prim.specs.Maps.{SameMap, DiffersAt, SamePhase, PhaseDiffers}
use Rattle.ps_sum.specs.declared.sums.PathSum.{PathSum}
use Rattle.ps_sum.specs.declared.faults.Passed.{Passed}
use Rattle.ps_rules.specs.declared.steps.Step.{Step}
use Rattle.ps_rules.specs.declared.steps.Move.{Move}
use Rattle.ps_overlap.specs.Overlapping.{IsOverlapOf, OverlapPasses, LeastVanishing, NoneVanishes, point, IsLeastPoint, IsFirstPoint, IsConstant, IsTurningPoint}
use Rattle.ps_reach.specs.declared.mode.Mode.{Mode}
use Rattle.ps_reach.specs.declared.mode.Mode.TheVariants.{Exact, Phase}
use Rattle.ps_reach.specs.Reductions.{normal, over, ReducesTo}
use Rattle.ps_reach.specs.Normals.{IsNormalFor}
use Rattle.ps_reach.specs.Overruns.{Overrun, part, IsOver, IsOverlapOver}
use Rattle.ps_reach.specs.Fillings.{Outcome, kept, passed, overrun}

-- one map; one map up to a phase; an input, as the set of the qubits that are 1, that tells them apart; two such inputs that do so
-- together; a sum that no step reduces; a limit passed
pub data Finding : Type 0 where
  yes : Finding
  yes_phase : ℕ → Finding
  no : List ℕ → Finding
  no_pair : List ℕ → List ℕ → Finding
  stuck : PathSum → Finding
  limit : Overrun → Finding

-- the closed sum is 1
pub record IsUnit (S : PathSum) : Type 0 where
  pub paths : S.m ≡ 0
  pub phase : S.phase ≡ []
  pub scale : S.k ≡ pos 0

-- what a closed sum without path variables shows: whether it is 1; or, up to a phase, whether its scale is 0 and its phase is
-- one at all inputs, else the input without a bit and where its phase turns
pub data ShowsPlain (S : PathSum) : Mode → Finding → Type 0 where
  unit : IsUnit S → ShowsPlain S Exact yes
  no_unit : {bits : List ℕ} → ¬ (IsUnit S) → IsFirstPoint S bits → ShowsPlain S Exact (no bits)
  scaled : S.k ≢ pos 0 → ShowsPlain S Phase (no [])
  constant : {p : ℕ} → S.k ≡ pos 0 → IsConstant S.phase p → ShowsPlain S Phase (yes_phase p)
  turning : {bits : List ℕ} → S.k ≡ pos 0 → IsTurningPoint S.phase bits → ShowsPlain S Phase (no_pair [] bits)

-- what an irreducible closed sum shows in a mode
pub data Shows (mode : Mode) (S : PathSum) : Finding → Type 0 where
  no_paths : {f : Finding} → S.m ≡ 0 → ShowsPlain S mode f → Shows mode S f
  vanishing : {y : ℕ} {bits : List ℕ} → LeastVanishing S y → IsLeastPoint S y bits → Shows mode S (no bits)
  nothing : 0 < S.m → NoneVanishes S → Shows mode S (stuck S)

-- reducing the overlap of two sums takes these steps and finds this
pub data Overlaps (mode : Mode) (S1 S2 : PathSum) : List Step → Finding → Type 0 where
  passes : {p : Passed} → OverlapPasses S1 S2 p → Overlaps mode S1 S2 [] (limit (overrun p 0 0 0 S1 (Some S2)))
  step_passes : {S0 T : PathSum} {ss : List Step} {p : Passed} → IsOverlapOf S1 S2 S0 → ReducesTo S0 ss (over T p) → Overlaps mode S1 S2 ss (limit (overrun p 0 0 0 T None))
  shows : {S0 T : PathSum} {ss : List Step} {f : Finding} → IsOverlapOf S1 S2 S0 → ReducesTo S0 ss (normal T) → Shows mode T f → Overlaps mode S1 S2 ss f

-- comparing what two segments come to: a limit that the first passes, or else the second, or else the overlap of their sums
pub data Compares (mode : Mode) : Outcome → Outcome → List Step → Finding → Type 0 where
  first_limit : {e : Overrun} {ms : List Move} {o : Outcome} → Compares mode (passed e ms) o [] (limit e)
  second_limit : {S : PathSum} {ms ms' : List Move} {e : Overrun} → Compares mode (kept S ms) (passed e ms') [] (limit e)
  sums : {S1 S2 : PathSum} {ms1 ms2 : List Move} {ss : List Step} {f : Finding} → Overlaps mode S1 S2 ss f → Compares mode (kept S1 ms1) (kept S2 ms2) ss f

-- the evidence is true of a part of A
pub record IsOverIn (n : ℕ) (A : List Prim) (e : Overrun) : Type 0 where
  pub from : ℕ
  pub to : ℕ
  pub over : IsOver n (part from to A) e

-- S is irreducible with a path variable, none of which vanishes, and reducing the overlap of normal sums of A and B gives it
pub record IsStuck (n : ℕ) (A B : List Prim) (S : PathSum) : Type 0 where
  pub first : PathSum
  pub second : PathSum
  pub both : PathSum
  pub steps : List Step
  pub first_normal : IsNormalFor n A first
  pub second_normal : IsNormalFor n B second
  pub overlap : IsOverlapOf first second both
  pub reduced : ReducesTo both steps (normal S)
  pub paths : 0 < S.m
  pub none : NoneVanishes S

-- in a mode the input tells A and B apart: some amplitude differs, or, up to a phase, by whatever A is turned some does
abbrev pub DiffersIn : Mode → ℕ → List Prim → List Prim → Truths → Type 0
DiffersIn Exact n A B x = DiffersAt n A B x
DiffersIn Phase n A B x = PhaseDiffers n A B (x ∷ [])

-- what a finding claims of two lists of prims on n qubits that were compared in a mode
abbrev pub IsJustified : ℕ → List Prim → List Prim → Mode → Finding → Type 0
IsJustified n A B mode yes = (mode ≡ Exact) × SameMap n A B
IsJustified n A B mode (yes_phase p) = (mode ≡ Phase) × SamePhase n A B p
IsJustified n A B mode (no bits) = DiffersIn mode n A B (point n bits)
IsJustified n A B mode (no_pair first second) = (mode ≡ Phase) × PhaseDiffers n A B (point n first ∷ point n second ∷ [])
IsJustified n A B mode (stuck S) = IsStuck n A B S
IsJustified n A B mode (limit e) = IsOverIn n A e ⊎ (IsOverIn n B e ⊎ IsOverlapOver n A B e)
