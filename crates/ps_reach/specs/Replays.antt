-- What the moves of a record do: replayed on a stack of sums, each with the run of prims that it stands for.
use Rattle.std.specs.Prelude.{ℕ, ◌≡◌, ◌+◌, ◌<◌, List, [], ◌∷◌, length, get_or}
use Rattle.ps_prim.specs.declared.prims.Primitive.{Primitive as Prim}
use Rattle.ps_sum.specs.declared.sums.PathSum.{PathSum}
use Rattle.ps_rules.specs.declared.steps.Step.{Step}
use Rattle.ps_rules.specs.declared.steps.Move.{Move}
use Rattle.ps_rules.specs.declared.steps.Move.TheVariants.{Leaf, Id, Join, Rewrite}
use Rattle.ps_rules.specs.Rules.{Applied, FirstStep, StepFits}
use Rattle.ps_join.specs.Joining.{IsLeafOf, IsIdentityOf, IsJoinOf, JoinFits}

-- the prims from one place up to another, or none, which stand at no place
pub data Run : Type 0 where
  none : Run
  span : ℕ → ℕ → Run

-- the second run follows the first, and both are the third
pub data Meets : Run → Run → Run → Type 0 where
  left_none : {r : Run} → Meets none r r
  right_none : {r : Run} → Meets r none r
  adjoin : {from middle to : ℕ} → Meets (span from middle) (span middle to) (span from to)

pub record Entry : Type 0 where
  pub run : Run
  pub sum : PathSum

abbrev pub entry : Run → PathSum → Entry
entry r S = record { run = r; sum = S }

-- the moves lead from the one stack to the other, the newest entry first in each; rewriting takes first steps within the limit
pub data Replays (n : ℕ) (A : List Prim) : List Entry → List Move → List Entry → Type 0 where
  done : {es : List Entry} → Replays n A es [] es
  leaf : {es fs : List Entry} {ms : List Move} {i : ℕ} {g : Prim} {S : PathSum} → i < length A → g ≡ get_or A i g → IsLeafOf n g S
      → Replays n A (entry (span i (i + 1)) S ∷ es) ms fs → Replays n A es (Leaf i ∷ ms) fs
  ident : {es fs : List Entry} {ms : List Move} {S : PathSum} → IsIdentityOf n S → Replays n A (entry none S ∷ es) ms fs → Replays n A es (Id ∷ ms) fs
  join : {es fs : List Entry} {ms : List Move} {r1 r2 r : Run} {S1 S2 S : PathSum} → Meets r1 r2 r → JoinFits S1 S2 → IsJoinOf S1 S2 S
      → Replays n A (entry r S ∷ es) ms fs → Replays n A (entry r2 S2 ∷ entry r1 S1 ∷ es) (Join ∷ ms) fs
  rewrite : {es fs : List Entry} {ms : List Move} {s : Step} {r : Run} {S T : PathSum} → FirstStep S s → StepFits S s → Applied S s T
      → Replays n A (entry r T ∷ es) ms fs → Replays n A (entry r S ∷ es) (Rewrite s ∷ ms) fs

-- the run of all prims of A
abbrev pub whole_run : List Prim → Run
whole_run [] = none
whole_run (g ∷ gs) = span 0 (length (g ∷ gs))

-- the moves build one sum, and it is S, for all of A
abbrev pub Reaches : ℕ → List Prim → List Move → PathSum → Type 0
Reaches n A ms S = Replays n A [] ms (entry (whole_run A) S ∷ [])
