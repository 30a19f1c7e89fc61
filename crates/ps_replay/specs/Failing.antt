-- Why a line of a derivation fails, and the first line that does.
use Rattle.std.specs.Prelude.{ℕ, ◌≡◌, ◌+◌, ◌≤◌, Bool, true, false, List, [], ◌∷◌, length}
use Rattle.ps_prim.specs.declared.prims.Primitive.{Primitive as Prim}
use Rattle.ps_sum.specs.declared.sums.PathSum.{PathSum}
use Rattle.ps_sum.specs.declared.faults.Passed.{Passed}
use Rattle.ps_rules.specs.declared.steps.Step.{Step}
use Rattle.ps_rules.specs.Rules.{Applies, StepPasses}
use Rattle.ps_join.specs.Joining.{JoinPasses}
use Rattle.ps_overlap.specs.Overlapping.{OverlapPasses}
use Rattle.ps_reach.specs.Replays.{Run, Meets, whole_run}
use Rattle.ps_steps.specs.declared.lines.Line.{Line}
use Rattle.ps_steps.specs.declared.lines.Line.TheVariants.{Leaf, Join, Rewrite, Overlap, End}
use Rattle.ps_steps.specs.Holding.{Entry, sided, closed, side_of, AllSided, sum_of, Does}
use Rattle.ps_replay.specs.declared.replayed.Why.{Why}
use Rattle.ps_replay.specs.declared.replayed.Why.TheVariants.{Order, Redex, Limit}

-- no entry is the overlap, the last two are of one side, and the run of the second follows that of the first
pub data CanJoin : List Entry → Type 0 where
  two : {es : List Entry} {b : Bool} {r1 r2 r : Run} {S1 S2 : PathSum} → AllSided es → Meets r1 r2 r → CanJoin (sided b r2 S2 ∷ sided b r1 S1 ∷ es)

-- there are just two entries: one of all prims of A, and behind it one of all prims of B
pub data AreWhole (A B : List Prim) : List Entry → Type 0 where
  both : {r1 r2 : Run} {S1 S2 : PathSum} → r1 ≡ whole_run A → r2 ≡ whole_run B → AreWhole A B (sided true r2 S2 ∷ sided false r1 S1 ∷ [])

-- the only entry is the overlap
pub data IsAlone : List Entry → Type 0 where
  alone : {S : PathSum} → IsAlone (closed S ∷ [])

-- the line fails at these entries, the newest first, for this reason
pub data Fails (n : ℕ) (A B : List Prim) : Line → List Entry → Why → Type 0 where
  leaf_closed : {es : List Entry} {b : Bool} {i : ℕ} → ¬ (AllSided es) → Fails n A B (Leaf b i) es Order
  leaf_beyond : {es : List Entry} {b : Bool} {i : ℕ} → length (side_of b A B) ≤ i → Fails n A B (Leaf b i) es Order
  no_join : {es : List Entry} → ¬ (CanJoin es) → Fails n A B Join es Order
  join_passes : {es : List Entry} {b : Bool} {r1 r2 r : Run} {S1 S2 : PathSum} {p : Passed} → AllSided es → Meets r1 r2 r → JoinPasses S1 S2 p
      → Fails n A B Join (sided b r2 S2 ∷ sided b r1 S1 ∷ es) Limit
  no_sum : {s : Step} → Fails n A B (Rewrite s) [] Order
  no_redex : {es : List Entry} {e : Entry} {s : Step} → ¬ (Applies (sum_of e) s) → Fails n A B (Rewrite s) (e ∷ es) Redex
  step_passes : {es : List Entry} {e : Entry} {s : Step} {p : Passed} → Applies (sum_of e) s → StepPasses (sum_of e) s p → Fails n A B (Rewrite s) (e ∷ es) Limit
  not_whole : {es : List Entry} → ¬ (AreWhole A B es) → Fails n A B Overlap es Order
  overlap_passes : {r1 r2 : Run} {S1 S2 : PathSum} {p : Passed} → r1 ≡ whole_run A → r2 ≡ whole_run B → OverlapPasses S1 S2 p
      → Fails n A B Overlap (sided true r2 S2 ∷ sided false r1 S1 ∷ []) Limit
  not_alone : {es : List Entry} → ¬ (IsAlone es) → Fails n A B End es Order

-- from these entries on, the lines of which the first has the number `at`: the first that fails has this number, and fails for this reason
pub data FailsFrom (n : ℕ) (A B : List Prim) : ℕ → List Line → List Entry → ℕ → Why → Type 0 where
  here : {at : ℕ} {l : Line} {ls : List Line} {es : List Entry} {why : Why} → Fails n A B l es why → FailsFrom n A B at (l ∷ ls) es at why
  later : {at number : ℕ} {l : Line} {ls : List Line} {es fs : List Entry} {why : Why} → Does n A B l es fs → FailsFrom n A B (at + 1) ls fs number why
      → FailsFrom n A B at (l ∷ ls) es number why
