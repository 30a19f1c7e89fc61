-- What the replay of a text tells of two lists of prims.
use Rattle.std.specs.Prelude.{ℕ, List, [], Ok, Err}
use Rattle.ps_prim.specs.declared.prims.Primitive.{Primitive as Prim}
use Rattle.ps_sum.specs.declared.sums.PathSum.{PathSum}
use Rattle.ps_reach.specs.Findings.{IsUnit}
use Rattle.ps_steps.specs.declared.lines.Line.{Line}
use Rattle.ps_steps.specs.declared.fault.StepFault.TheVariants as fault
use Rattle.ps_steps.specs.Texts.{IsReading}
use Rattle.ps_steps.specs.Holding.{Holds}
use Rattle.ps_replay.specs.declared.replayed.Why.{Why}
use Rattle.ps_replay.specs.declared.replayed.Why.TheVariants.{Form, Cut}
use Rattle.ps_replay.specs.declared.replayed.Replayed.{Replayed}
use Rattle.ps_replay.specs.declared.replayed.Replayed.TheVariants.{Accepted, Left, Rejected}
use Rattle.ps_replay.specs.Failing.{FailsFrom}

-- the last sum is 1, or it is this one and not 1
pub data Tells (S : PathSum) : Replayed → Type 0 where
  unit : IsUnit S → Tells S Accepted
  other : ¬ (IsUnit S) → Tells S (Left S)

-- the lines of a derivation: one fails, and the first that does so is told; or all hold, and the last sum is
pub data Ends (n : ℕ) (A B : List Prim) (ls : List Line) : Replayed → Type 0 where
  fails : {number : ℕ} {why : Why} → FailsFrom n A B 1 ls [] number why → Ends n A B ls (Rejected number why)
  holds : {S : PathSum} {r : Replayed} → Holds n A B ls S → Tells S r → Ends n A B ls r

-- the bytes are no derivation, and the first fault of their form is told; or they are one, and its lines end so
pub data Replays (n : ℕ) (A B : List Prim) (bytes : List ℕ) : Replayed → Type 0 where
  misformed : {number : ℕ} → IsReading bytes (Err (fault.Form number)) → Replays n A B bytes (Rejected number Form)
  cut_off : {number : ℕ} → IsReading bytes (Err (fault.Cut number)) → Replays n A B bytes (Rejected number Cut)
  read : {ls : List Line} {r : Replayed} → IsReading bytes (Ok ls) → Ends n A B ls r → Replays n A B bytes r
